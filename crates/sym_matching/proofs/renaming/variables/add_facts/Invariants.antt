use Rattle.std.proofs.Common.{◌≡◌, drop}
use Rattle.sym_matching.specs.Variables.{with_facts}
use Rattle.sym_matching.proofs.renaming.variables.add_facts.Given as goal

abbrev pub invariant-loop-fact : goal.invariant-loop-fact
invariant-loop-fact l = with_facts l.initial.names.items l.facts ≡ with_facts l.names.items (drop l.fact-index l.facts)
