-- The piece is taken, and the end bound.
use Rattle.std.proofs.Common.{◌≡◌, ◌∙◌, Some, None}
use Rattle.std.proofs.lemmas.Result.{IfOk-weaker}
use Rattle.sym_matching.specs.WantedSegments.{bind_end, piece, reach}
use Rattle.sym_matching.specs.RuleSteps.InSetting.{rules_in}
use Rattle.matching.proofs.WalkTurns.{reach_ends, reach_goes}
use Rattle.matching.proofs.segments.reach.Goals as goal

pub returns-in_ok-bind-in-Some : goal.returns-in_ok-bind-in-Some
returns-in_ok-bind-in-Some c =
    let some : Some c.in-Some.place ≡ piece c.args.kind.now c.args.link c.args.e c.args.m.left =
    rw c.as_slice.ensures at c.in-Some.ensures.first in
    reach_goes (rules_in c.args.setting.now) c.args.number c.args.kind.now c.args.link c.args.to c.args.e c.in_ok-next-in-Some.next c.args.m
    c.take_piece.new.m c.in_ok-bind-in-Some.field-0 c.in-Some.place some c.in_ok-next-in-Some.ensures c.in_ok-bind-in-Some.ensures

pub returns-in-None : goal.returns-in-None
returns-in-None c =
    let none : None ≡ piece c.args.kind.now c.args.link c.args.e c.args.m.left = rw c.as_slice.ensures at c.in-None.ensures.first in
    IfOk-weaker c.bind_end.result
    (λ turned. turned
    ≡ bind_end (rules_in c.args.setting.now) c.args.number c.args.kind.now c.args.link c.args.to c.args.e c.args.m c.args.setting.now.mode)
    (λ turned. turned ≡ reach (rules_in c.args.setting.now) c.args.number c.args.kind.now c.args.link c.args.to c.args.e c.args.m)
    (λ turned told. told
    ∙ reach_ends (rules_in c.args.setting.now) c.args.number c.args.kind.now c.args.link c.args.to c.args.e c.args.m none)
    c.bind_end.ensures
