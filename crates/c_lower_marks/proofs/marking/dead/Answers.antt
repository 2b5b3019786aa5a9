use Rattle.std.proofs.Common.{ℕ, not, sym, ap, ◌∙◌}
use Rattle.shape_data.specs.declared.program.Ty.{Ty}
use Rattle.c_lower_rules.specs.Marks.{is_listed}
use Rattle.c_lower_marks.proofs.Keeping.{kept, passed}
use Rattle.c_lower_marks.proofs.marking.dead.Goals as goal
use Rattle.c_lower_marks.proofs.marking.dead.Goals.{then-not-contains+in_ok-push, else-not-contains}

pub loop-slot-preserved : goal.loop-slot-preserved
loop-slot-preserved c =
    let passes = λ (slot : ℕ) (kind : Ty). not (is_listed c.args.visible.now slot) in
    let kind = c.index-slots-slot.result in
    elim c.if-not-contains.branch [
      | then-not-contains+in_ok-push w ↦
          kept passes c.args.slots.now c.loop-slot.slot kind c.loop-slot-test.true c.index-slots-slot.is
          (ap not (sym c.contains.ensures) ∙ ap not w.if-not-contains.true) _ _ _
          (ap (λ v. v.items) w.dead-is ∙ w.in_ok-push.ensures.items) c.loop-slot.invariant
      | else-not-contains w ↦
          passed passes c.args.slots.now c.loop-slot.slot kind c.loop-slot-test.true c.index-slots-slot.is
          (ap not (sym c.contains.ensures) ∙ ap not w.if-not-contains.false) _ _ _ (ap (λ v. v.items) w.dead-is) c.loop-slot.invariant
    ]
