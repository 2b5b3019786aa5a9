use Rattle.std.proofs.Common.{◌≡◌, drop, map}
use Rattle.sym_parts.specs.Laws.Addresses.{addresses}
use Rattle.sym_parts.specs.Laws.Expressions.{is_among}
use Rattle.sym_parts.specs.Laws.Mapped.{on_atom}
use Rattle.sym_pure.specs.Solving.{read}
use Rattle.sym_pure.proofs.emptying.has_read_cell_at.Given as goal

abbrev pub invariant-loop-atom : goal.invariant-loop-atom
invariant-loop-atom l = is_among l.e (addresses (map (on_atom (read l.solved)) l.atoms))
    ≡ is_among l.e (addresses (map (on_atom (read l.solved)) (drop l.atom-index l.atoms)))
