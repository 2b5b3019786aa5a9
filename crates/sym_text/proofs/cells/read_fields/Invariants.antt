-- What is left gives what the whole gives.
use Rattle.std.proofs.Common.{◌≡◌, [], map, drop}
use Rattle.shape_data.specs.declared.program.Field.{Field}
use Rattle.sym_text.specs.Reading.{read_fields}
use Rattle.sym_text.proofs.cells.read_fields.Given as goal

abbrev pub invariant-loop-field : goal.invariant-loop-field
invariant-loop-field l =
    read_fields l.params l.separator (map (λ (field : Field). field.name) (drop l.field-index l.fields)) l.values l.rest
    ≡ read_fields l.params [] (map (λ (field : Field). field.name) l.fields) [] l.text
