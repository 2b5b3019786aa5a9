-- Where no more fields are there, all is done.
use Rattle.std.proofs.Common.{◌∙◌, ◌≤◌, sym, length, drop}
use Rattle.sym_matching.specs.RuleSteps.InSetting.{rules_in}
use Rattle.matching.proofs.FieldTurns.{fields_end}
use Rattle.matching.proofs.cells.take_fields.Goals as goal

pub returns-then-place-haves : goal.returns-then-place-haves
returns-then-place-haves c =
    let past : length c.args.haves.now ≤ c.loop-place.place = c.if-place-haves.true in
    sym (c.loop-place.invariant
    ∙ fields_end (rules_in c.args.setting.now) c.args.number c.loop-place.place
    (drop c.loop-place.place c.args.wants.now) c.args.haves.now c.loop-place.current past)
