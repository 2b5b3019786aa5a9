use Rattle.std.proofs.Common.{◌≡◌, ◌≤◌, drop}
use Rattle.std.specs.Prelude.{filter, ltb}
use Rattle.sym_matching.specs.Covers.{above}
use Rattle.exec_cells.proofs.pairs.above_logical.Given as goal

abbrev pub invariant-loop-x : goal.invariant-loop-x
invariant-loop-x l =
    (above l.first (filter (λ x. ltb x 65536) l.names) ≡ above l.least (filter (λ x. ltb x 65536) (drop l.x-index l.names)))
    × (l.first ≤ 65536 → l.least ≤ 65536)
