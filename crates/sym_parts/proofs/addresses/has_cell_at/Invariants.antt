use Rattle.std.proofs.Common.{◌≡◌, drop}
use Rattle.sym_parts.specs.Laws.Addresses.{addresses}
use Rattle.sym_parts.specs.Laws.Expressions.{is_among}
use Rattle.sym_parts.proofs.addresses.has_cell_at.Given as goal

abbrev pub invariant-loop-atom : goal.invariant-loop-atom
invariant-loop-atom l = is_among l.e (addresses l.atoms) ≡ is_among l.e (addresses (drop l.atom-index l.atoms))
