use Rattle.std.proofs.Common.{◌≡◌, ◌++◌, drop}
use Rattle.sym_parts.specs.Laws.Addresses.{addresses}
use Rattle.sym_parts.proofs.addresses.cell_addresses.Given as goal

abbrev pub invariant-loop-atom : goal.invariant-loop-atom
invariant-loop-atom l = addresses l.atoms ≡ l.cells.items ++ addresses (drop l.atom-index l.atoms)
