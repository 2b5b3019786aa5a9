use Rattle.std.proofs.Common.{◌≡◌, ◌++◌, map, drop}
use Rattle.sym_parts.specs.Laws.Mapped.{on_fact}
use Rattle.sym_parts.proofs.mapping.map_facts.Given as goal

abbrev pub invariant-loop-fact : goal.invariant-loop-fact
invariant-loop-fact g l = map (on_fact (g.M.Mapping.image l.mapping)) l.facts
    ≡ l.all.items ++ map (on_fact (g.M.Mapping.image l.mapping)) (drop l.fact-index l.facts)
