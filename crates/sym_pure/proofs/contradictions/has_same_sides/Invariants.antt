use Rattle.std.proofs.Common.{◌≡◌, drop}
use Rattle.sym_pure.specs.Contradictions.{has_same_sides}
use Rattle.sym_pure.proofs.contradictions.has_same_sides.Given as goal

abbrev pub invariant-loop-fact : goal.invariant-loop-fact
invariant-loop-fact l = has_same_sides l.facts ≡ has_same_sides (drop l.fact-index l.facts)
