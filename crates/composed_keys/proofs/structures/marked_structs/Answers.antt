use Rattle.std.proofs.Common.{◌∙◌, ◌++◌, ◌∷◌, [], Some, get_or, sym, ap}
use Rattle.std.proofs.lemmas.Option.{slice_get-get_or}
use Rattle.call_components.specs.Reaching.{marked}
use Rattle.composed_keys.proofs.Noted.{taken_one, taken_none}
use Rattle.composed_keys.proofs.structures.marked_structs.Goals as goal
use Rattle.composed_keys.proofs.structures.marked_structs.Goals.{then-is_marked+in_ok-copy_of+in_ok-push, else-is_marked}

pub loop-number-preserved : goal.loop-number-preserved
loop-number-preserved c =
    elim c.if-is_marked.branch [
      | then-is_marked+in_ok-copy_of+in_ok-push w ↦
          w.used-is ∙ (w.in_ok-push.ensures.ok ∙ (ap (λ l. l ++ w.in_ok-copy_of.field-0 ∷ []) c.loop-number.invariant ∙
          sym (taken_one c.args.structs.now
          (marked c.args.marks.now) c.args.order.now c.loop-number.number-index w.in_ok-copy_of.field-0 c.loop-number-test.true
          (sym c.is_marked.ensures ∙ w.if-is_marked.true)
          (slice_get-get_or c.args.structs.now (get_or c.args.order.now c.loop-number.number-index 0) w.index-structs-number.result
          (c.requires c.loop-number.number-index 0 c.loop-number-test.true) ∙
          ap (λ x. Some x) (sym w.index-structs-number.is ∙ sym w.in_ok-copy_of.ensures)))))
      | else-is_marked w ↦
          w.used-is ∙ (c.loop-number.invariant
          ∙ sym (taken_none c.args.structs.now (marked c.args.marks.now) c.args.order.now c.loop-number.number-index c.loop-number-test.true
          (sym c.is_marked.ensures ∙ w.if-is_marked.false)))
    ]
