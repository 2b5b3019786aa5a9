-- What is written, and what is still to come, are the whole.
use Rattle.std.proofs.Common.{◌≡◌, ◌++◌, false, map, drop}
use Rattle.std.specs.Prelude.{codes}
use Rattle.shape_data.specs.declared.program.Field.{Field}
use Rattle.sym_text.specs.Led.{led_texts}
use Rattle.sym_text.specs.Text.{field_texts}
use Rattle.sym_text.proofs.printing.push_fields.Given as goal

abbrev pub invariant-loop-place : goal.invariant-loop-place
invariant-loop-place l =
    l.text.items
    ++ led_texts (codes ",") l.led
    (field_texts l.params (drop l.place (map (λ (field : Field). field.name) l.fields)) (drop l.place l.values))
    ≡ l.fn.text.items ++ led_texts (codes ",") false (field_texts l.params (map (λ (field : Field). field.name) l.fields) l.values)
