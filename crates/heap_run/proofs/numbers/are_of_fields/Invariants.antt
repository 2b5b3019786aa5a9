use Rattle.std.proofs.Common.{◌≡◌, drop}
use Rattle.shape_data.specs.Machine.{are_of_fields}
use Rattle.heap_run.proofs.numbers.are_of_fields.Given as goal

-- the fields and numbers that are left decide
abbrev pub invariant-loop-place : goal.invariant-loop-place
invariant-loop-place l = are_of_fields l.fields l.values ≡ are_of_fields (drop l.place l.fields) (drop l.place l.values)
