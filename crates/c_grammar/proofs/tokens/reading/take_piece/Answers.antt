use Rattle.std.proofs.Common.{length, length-drop, length-take-le, ap, arith}
use Rattle.c_grammar.proofs.TokensLemmas.Readings.{steps-passed, steps-lexed}
use Rattle.c_grammar.proofs.tokens.reading.take_piece.Goals as goal

pub returns-in-Passed : goal.returns-in-Passed
returns-in-Passed c =
    let n = c.in-Passed.len in
    let fits = c.in-Passed.ensures.fits in
    let left = length-drop n c.args.cursor.rest.now in
    let rest_is = ap length c.behind.ensures.rest in (
      steps-passed c.args.cursor.here c.behind.result.1.here c.args.cursor.part c.in-Passed.part c.behind.result.1.part
          c.args.cursor.rest.now c.behind.result.1.rest.now n c.requires.some fits.0 c.in-Passed.ensures.value c.behind.ensures.place
          c.behind.ensures.part c.behind.ensures.rest,
      (omega (arith, left, rest_is, fits.0, fits.1), c.behind.ensures.room),
    )

pub returns-in-Lexed : goal.returns-in-Lexed
returns-in-Lexed c =
    let n = c.in-Lexed.len in
    let fits = c.in-Lexed.ensures.fits in
    let after = c.behind-in-Lexed in
    let left = length-drop n c.args.cursor.rest.now in
    let rest_is = ap length after.ensures.rest in
    let front = length-take-le n c.args.cursor.rest.now fits.2 in
    let word_is = ap length after.ensures.word in (
      steps-lexed c.args.cursor.here after.result.1.here c.args.cursor.part after.result.1.part c.in-Lexed.kind c.args.cursor.rest.now
          after.result.0.now after.result.1.rest.now n c.requires.some fits.0 c.in-Lexed.ensures.value after.ensures.place
          after.ensures.part
          after.ensures.word after.ensures.rest,
      (omega (arith, left, rest_is, fits.0, fits.2), after.ensures.room),
      omega (arith, front, word_is, fits.0),
      omega (arith, front, word_is, fits.1),
    )
