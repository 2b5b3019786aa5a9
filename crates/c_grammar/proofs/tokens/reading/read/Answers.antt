use Rattle.std.proofs.Common.{◌≡◌, length, arith}
use Rattle.std.proofs.lemmas.Bool.Decides.{nat_tests}
use Rattle.std.proofs.lemmas.Result.{err_from_is_err_and}
use Rattle.c_grammar.specs.Tokens.Reading.{reading}
use Rattle.c_grammar.specs.Tokens.Grammar.{token_at}
use Rattle.c_grammar.specs.Tokens.Steps.{read}
use Rattle.c_grammar.proofs.TokensLemmas.Readings.{found_more, found_refusal, found_end, end_fault}
use Rattle.c_grammar.proofs.tokens.reading.read.Goals as goal

pub loop-cursor-preserved : goal.loop-cursor-preserved
loop-cursor-preserved c = record {
  so_far =
      found_more c.loop-cursor.found.items c.push.new.self.items c.token_at.result
      (token_at c.in-Found.kind c.in-Found.word.now c.loop-cursor.cursor.here) (read c.loop-cursor.cursor) (read c.in-Found.next)
      (reading c.args.bytes.now) c.in_ok-push-in-Found.ensures.items c.token_at.ensures c.in-Found.ensures.0 c.loop-cursor.invariant.so_far;
  room = c.in-Found.ensures.1.1;
}

pub returns-in-Refused-clause-fault : goal.returns-in-Refused-clause-fault
returns-in-Refused-clause-fault c =
    found_refusal c.loop-cursor.found.items (read c.loop-cursor.cursor)
    (reading c.args.bytes.now) c.in-Refused.refusal c.in-Refused.ensures c.loop-cursor.invariant.so_far

pub returns-in_err-end-clause-fault : goal.returns-in_err-end-clause-fault
returns-in_err-end-clause-fault c =
    let none : length c.loop-cursor.cursor.rest.now ≡ 0 = grind (arith, nat_tests) in
    let p = err_from_is_err_and c.from_residual-in_err-end.result c.from_residual-in_err-end.ensures.1 in
    rw (p.1, p.2)
    (end_fault c.in_err-end.field-0.0 c.loop-cursor.found.items c.loop-cursor.cursor.here c.loop-cursor.cursor.part
    c.loop-cursor.cursor.rest.now (reading c.args.bytes.now) none c.loop-cursor.invariant.so_far c.in_err-end.ensures.fault)

pub returns-clause-tokens : goal.returns-clause-tokens
returns-clause-tokens c =
    let none : length c.loop-cursor.cursor.rest.now ≡ 0 = grind (arith, nat_tests) in
    found_end c.loop-cursor.found.items c.push-2.new.self.items c.in_ok-end.field-0 c.loop-cursor.cursor.here c.loop-cursor.cursor.part
    c.loop-cursor.cursor.rest.now
    (reading c.args.bytes.now) none c.in_ok-end.ensures.token c.in_ok-push.ensures.items c.loop-cursor.invariant.so_far
