use Rattle.std.proofs.Common.{◌≡◌, ℕ, Bool, false, ◌&&◌, map, length, get_or, replicate, sym, ap, ◌∙◌, arith}
use Rattle.std.proofs.lemmas.List.{length-replicate}
use Rattle.shape_data.specs.declared.program.Ty.{Ty}
use Rattle.c_lower_rules.specs.Marks.{is_int, assigned_in}
use Rattle.c_lower_emit.specs.Seen.{loop_seen}
use Rattle.c_lower_marks.proofs.Keeping.{kept, passed}
use Rattle.c_lower_marks.proofs.Flagging.{flagged-length, flag_of}
use Rattle.c_lower_marks.proofs.marking.ints.Goals as goal
use Rattle.c_lower_marks.proofs.marking.ints.Goals.{then-is_flagged_int+in_ok-push, else-is_flagged_int}

pub is_flagged_int-requires : goal.is_flagged_int-requires
is_flagged_int-requires c =
    let count = length c.args.slots.now in
    let assigns = assigned_in c.args.nodes.now (map (λ one. loop_seen one.now) c.args.loops.now) in
    omega (
      arith,
      c.loop-slot-test.true,
      ap length c.as_slice.ensures.value,
      ap length c.in_ok-flags.ensures,
      flagged-length assigns 0 (replicate count false),
      length-replicate count false,
    )

pub loop-slot-preserved : goal.loop-slot-preserved
loop-slot-preserved c =
    let assigns = assigned_in c.args.nodes.now (map (λ one. loop_seen one.now) c.args.loops.now) in
    let passes = λ (slot : ℕ) (kind : Ty). is_int kind && assigns slot in
    let kind = c.index-slots-slot.result in
    let flag_is : get_or c.as_slice.result.now c.loop-slot.slot false ≡ assigns c.loop-slot.slot =
    ap (λ xs. get_or xs c.loop-slot.slot false) (c.as_slice.ensures.value ∙ c.in_ok-flags.ensures)
    ∙ flag_of assigns (length c.args.slots.now) c.loop-slot.slot c.loop-slot-test.true in
    let result_is : c.is_flagged_int.result ≡ passes c.loop-slot.slot kind =
    c.is_flagged_int.ensures ∙ ap (λ (flag : Bool). is_int kind && flag) flag_is in
    elim c.if-is_flagged_int.branch [
      | then-is_flagged_int+in_ok-push w ↦
          kept passes c.args.slots.now c.loop-slot.slot kind c.loop-slot-test.true c.index-slots-slot.is
          (sym result_is ∙ w.if-is_flagged_int.true) _ _ _
          (ap (λ v. v.items) w.ints-is ∙ w.in_ok-push.ensures.items) c.loop-slot.invariant
      | else-is_flagged_int w ↦
          passed passes c.args.slots.now c.loop-slot.slot kind c.loop-slot-test.true c.index-slots-slot.is
          (sym result_is ∙ w.if-is_flagged_int.false) _ _ _ (ap (λ v. v.items) w.ints-is) c.loop-slot.invariant
    ]
