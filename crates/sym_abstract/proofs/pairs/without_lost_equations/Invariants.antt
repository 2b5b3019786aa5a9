use Rattle.std.proofs.Common.{◌≡◌, filter, not, take}
use Rattle.sym_abstract.specs.Counted.{is_lost_equation_by}
use Rattle.sym_abstract.proofs.pairs.without_lost_equations.Given as goal

abbrev pub invariant-loop-fact : goal.invariant-loop-fact
invariant-loop-fact l = l.some.items ≡ filter (λ fact. not (is_lost_equation_by l.params l.counts fact)) (take l.fact-index l.facts)
