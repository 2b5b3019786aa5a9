use Rattle.std.proofs.Common.{◌≡◌, take}
use Rattle.abstraction_laws.specs.Losing.{without_disequalities}
use Rattle.sym_abstract.specs.Counted.{is_lost_by}
use Rattle.sym_abstract.proofs.losing.without_lost.Given as goal

abbrev pub invariant-loop-fact : goal.invariant-loop-fact
invariant-loop-fact l = l.some.items ≡ without_disequalities (is_lost_by l.counts l.low) (take l.fact-index l.facts)
