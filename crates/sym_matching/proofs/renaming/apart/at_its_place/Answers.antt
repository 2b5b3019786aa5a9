use Rattle.std.proofs.Common.{◌∙◌, sym}
use Rattle.sym_matching.proofs.RenamingLemmas.Turns.{passes_over, past_numbers}
use Rattle.sym_matching.proofs.renaming.apart.at_its_place.Goals as goal

pub returns-then-place-numbers : goal.returns-then-place-numbers
returns-then-place-numbers c =
    sym (c.loop-place.invariant ∙ past_numbers c.args.variables.now c.args.numbers.now c.loop-place.place c.args.x c.if-place-numbers.true)

pub loop-place-preserved : goal.loop-place-preserved
loop-place-preserved c =
    c.loop-place.invariant
    ∙ passes_over c.args.variables.now c.args.numbers.now c.loop-place.place c.args.x c.loop-place-test.true c.if-place-numbers.false
    c.if-x-variables.false
