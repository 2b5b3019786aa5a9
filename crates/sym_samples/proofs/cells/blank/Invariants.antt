use Rattle.std.proofs.Common.{◌≡◌, map, pos, take}
use Rattle.shape_data.specs.declared.program.Field.{Field}
use Rattle.sym_samples.proofs.cells.blank.Given as goal

abbrev pub invariant-loop-field : goal.invariant-loop-field
invariant-loop-field l = l.all ≡ map (λ (field : Field). pos 0) (take l.field-index l.fields)
