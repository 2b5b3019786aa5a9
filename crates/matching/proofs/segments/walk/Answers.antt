-- Each turn is one of the definition.
use Rattle.std.proofs.Common.{◌≡◌, ◌∙◌, ◌<◌, length, true, false, sym, Some, None, arith}
use Rattle.std.proofs.lemmas.Result.{IfOk-weaker}
use Rattle.sym_parts.specs.Laws.Expressions.{same_exp}
use Rattle.sym_matching.specs.WantedSegments.{miss_segment, piece, walk}
use Rattle.sym_matching.specs.RuleSteps.InSetting.{rules_in}
use Rattle.matching.proofs.WalkTurns.{walk_arrives, walk_stops, walk_goes}
use Rattle.matching.proofs.segments.walk.Goals as goal

pub returns-then-is_same_exp : goal.returns-then-is_same_exp
returns-then-is_same_exp c =
    let inside : c.loop-done.done < length c.args.m.left = omega (arith, c.len-turns.ensures) in
    let same : same_exp c.loop-done.at c.args.to ≡ true = sym c.is_same_exp.ensures.test ∙ c.if-is_same_exp.true in
    sym (c.loop-done.invariant
    ∙ walk_arrives (rules_in c.args.setting.now)
    (length c.args.m.left) c.loop-done.done c.args.number c.args.kind.now c.args.link c.args.to c.loop-done.at c.loop-done.left inside same)

pub returns-in-None : goal.returns-in-None
returns-in-None c =
    let inside : c.loop-done.done < length c.args.m.left = omega (arith, c.len-turns.ensures) in
    let apart : same_exp c.loop-done.at c.args.to ≡ false = sym c.is_same_exp.ensures.test ∙ c.if-is_same_exp.false in
    let none : None ≡ piece c.args.kind.now c.args.link c.loop-done.at c.loop-done.left.left =
    rw c.as_slice.ensures at c.in-None.ensures.first in
    IfOk-weaker c.miss_segment.result
    (λ turned. turned
    ≡ miss_segment
    (rules_in c.args.setting.now) c.args.number c.args.kind.now c.args.link c.args.to c.loop-done.at c.loop-done.left
    c.args.setting.now.mode)
    (λ turned. turned
    ≡ walk (length c.args.m.left) (rules_in c.args.setting.now) c.args.number c.args.kind.now c.args.link c.args.to c.args.e c.args.m)
    (λ turned told. told
    ∙ sym (c.loop-done.invariant
    ∙ walk_stops (rules_in c.args.setting.now)
    (length c.args.m.left) c.loop-done.done c.args.number c.args.kind.now c.args.link c.args.to c.loop-done.at c.loop-done.left inside apart
    none))
    c.miss_segment.ensures

pub loop-done-preserved : goal.loop-done-preserved
loop-done-preserved c =
    let inside : c.loop-done.done < length c.args.m.left = omega (arith, c.len-turns.ensures) in
    let apart : same_exp c.loop-done.at c.args.to ≡ false = sym c.is_same_exp.ensures.test ∙ c.if-is_same_exp.false in
    let some : Some c.in-Some.place ≡ piece c.args.kind.now c.args.link c.loop-done.at c.loop-done.left.left =
    rw c.as_slice.ensures at c.in-Some.ensures.first in
    c.loop-done.invariant
    ∙ walk_goes (rules_in c.args.setting.now)
    (length c.args.m.left) c.loop-done.done c.args.number c.args.kind.now c.args.link c.args.to c.loop-done.at c.loop-done.left inside
    c.in-Some.place c.in_ok-at-in-Some.at c.take_piece.new.m apart some c.in_ok-at-in-Some.ensures
