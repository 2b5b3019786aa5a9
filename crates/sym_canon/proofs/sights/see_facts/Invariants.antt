use Rattle.std.proofs.Common.{◌≡◌, drop}
use Rattle.sym_canon.specs.Numbering.{sight_facts}
use Rattle.sym_canon.proofs.sights.see_facts.Given as goal

abbrev pub invariant-loop-fact : goal.invariant-loop-fact
invariant-loop-fact l = sight_facts l.which l.facts l.initial.seen.items ≡ sight_facts l.which (drop l.fact-index l.facts) l.seen.items
