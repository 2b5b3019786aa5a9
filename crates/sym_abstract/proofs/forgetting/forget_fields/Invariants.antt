use Rattle.std.proofs.Common.{◌≡◌, ◌+◌, ◌++◌, drop}
use Rattle.abstraction_laws.specs.Forgetting.{forget_fields}
use Rattle.sym_abstract.proofs.forgetting.forget_fields.Given as goal

abbrev pub invariant-loop-place : goal.invariant-loop-place
invariant-loop-place l = forget_fields l.first l.fields l.values
    ≡ l.made.items ++ forget_fields (l.first + l.place) (drop l.place l.fields) (drop l.place l.values)
