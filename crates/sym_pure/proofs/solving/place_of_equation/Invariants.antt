use Rattle.std.proofs.Common.{◌≡◌, ◌+◌, drop}
use Rattle.std.specs.List.{position_or_len}
use Rattle.sym_pure.specs.Solving.{stands_behind}
use Rattle.sym_pure.proofs.solving.place_of_equation.Given as goal

abbrev pub invariant-loop-place : goal.invariant-loop-place
invariant-loop-place l = position_or_len (stands_behind l.variable) l.facts
    ≡ l.place + position_or_len (stands_behind l.variable) (drop l.place l.facts)
