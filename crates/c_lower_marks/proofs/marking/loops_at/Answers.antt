use Rattle.std.proofs.Common.{map, ap, ◌∙◌}
use Rattle.std.proofs.lemmas.List.{map-append}
use Rattle.c_lower_emit.specs.Seen.{loop_seen}
use Rattle.c_lower_marks.proofs.Gathering.{met, missed}
use Rattle.c_lower_marks.proofs.marking.loops_at.Goals as goal
use Rattle.c_lower_marks.proofs.marking.loops_at.Goals.{then-one-place+in_ok-push, else-one-place}

pub loop-one-preserved : goal.loop-one-preserved
loop-one-preserved c =
    elim c.if-one-place.branch [
      | then-one-place+in_ok-push w ↦
          met c.args.place c.args.loops.now c.loop-one.one-index c.one-item.result c.loop-one-test.true c.one-item.is
          w.if-one-place.true _ _ _
          (ap (λ v. map (λ one. loop_seen one.now) v.items) w.found-is
          ∙ ap (map (λ one. loop_seen one.now)) w.in_ok-push.ensures.items
          ∙ map-append (λ one. loop_seen one.now) c.loop-one.found.items _)
          c.loop-one.invariant
      | else-one-place w ↦
          missed c.args.place c.args.loops.now c.loop-one.one-index c.one-item.result c.loop-one-test.true c.one-item.is
          w.if-one-place.false _ _ _
          (ap (λ v. map (λ one. loop_seen one.now) v.items) w.found-is) c.loop-one.invariant
    ]
