use Rattle.std.proofs.Common.{◌≡◌, ◌++◌, map, arith}
use Rattle.shape_data.specs.declared.program.Field.{Field}
use Rattle.sym_text.specs.Text.{field_texts}
use Rattle.std.specs.Prelude.{codes}
use Rattle.shape_data.specs.declared.symbolic.Exp.TheVariants.{Var}
use Rattle.sym_text.proofs.LedTexts.{fields_step, fields_end, led_step, led_step_on}
use Rattle.sym_text.proofs.printing.push_fields.Goals as goal
use Rattle.sym_text.proofs.printing.push_fields.Goals.{then-led+in_ok-extend_from_slice, else-led}

pub loop-place-preserved : goal.loop-place-preserved
loop-place-preserved c =
    let step =
    fields_step c.args.params.now c.args.fields.now c.args.values.now c.loop-place.place c.index-fields-place.result (Var 0) (omega arith)
    (omega arith) in
    elim c.if-led.branch [
      | then-led+in_ok-extend_from_slice w ↦
          let between : c.if-led.text.items ≡ c.loop-place.text.items ++ codes "," = rw w.text-is w.in_ok-extend_from_slice.ensures.items in
          led_step_on (codes ",") _ c.loop-place.text.items c.if-led.text.items _ _ _ _ step
          (rw w.if-led.true at c.loop-place.invariant) between c.in_ok-push_field.ensures
      | else-led w ↦ led_step (codes ",") _ c.loop-place.text.items _ _ _ _ step (rw w.if-led.false at c.loop-place.invariant)
          (rw w.text-is at c.in_ok-push_field.ensures)
    ]

pub returns : goal.returns
returns c =
    fields_end (codes ",") c.args.params.now c.args.fields.now c.args.values.now c.loop-place.place c.loop-place.led c.args.text.now.items _
    (field_texts c.args.params.now (map (λ (field : Field). field.name) c.args.fields.now) c.args.values.now)
    (omega arith) c.loop-place.invariant
