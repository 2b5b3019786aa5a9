use Rattle.std.proofs.Common.{◌≡◌, ◌++◌, map, drop}
use Rattle.sym_parts.specs.Laws.Mapped.{on_atom}
use Rattle.sym_parts.proofs.mapping.map_atoms.Given as goal

abbrev pub invariant-loop-atom : goal.invariant-loop-atom
invariant-loop-atom g l = map (on_atom (g.M.Mapping.image l.mapping)) l.atoms
    ≡ l.all.items ++ map (on_atom (g.M.Mapping.image l.mapping)) (drop l.atom-index l.atoms)
