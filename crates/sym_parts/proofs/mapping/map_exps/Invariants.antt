use Rattle.std.proofs.Common.{◌≡◌, ◌++◌, map, drop}
use Rattle.sym_parts.proofs.mapping.map_exps.Given as goal

abbrev pub invariant-loop-e : goal.invariant-loop-e
invariant-loop-e g l = map (g.M.Mapping.image l.mapping) l.list ≡ l.all.items ++ map (g.M.Mapping.image l.mapping) (drop l.e-index l.list)
