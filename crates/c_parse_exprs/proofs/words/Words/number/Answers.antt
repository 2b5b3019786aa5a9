use Rattle.std.proofs.Common.{arith, sym, ◌∙◌}
use Rattle.c_parse_exprs.proofs.Cursor.{at_words}
use Rattle.c_parse_exprs.proofs.words.Words.number.Goals as goal

pub digits_value-requires : goal.digits_value-requires
digits_value-requires c =
    let fit =
    at_words c.self.inside.tokens.now c.args.self.now c.text.result.now c.self.view_is c.self.invariant.numbers
    (sym c.sees.ensures ∙ c.if-not-sees.false) c.text.ensures.value in
    record { short = fit.short; digits = fit.digits }

pub overflow_cast-result : goal.overflow_cast-result
overflow_cast-result c =
    let fit =
    at_words c.self.inside.tokens.now c.args.self.now c.text.result.now c.self.view_is c.self.invariant.numbers
    (sym c.sees.ensures ∙ c.if-not-sees.false) c.text.ensures.value in
    let small = fit.fits in
    rw c.digits_value.ensures (omega arith)
