use Rattle.std.proofs.Common.{length}
use Rattle.c_parse_exprs.proofs.TypeSteps.{StarsSoFar}
use Rattle.c_parse_exprs.proofs.types.read_stars.Given as goal

abbrev pub invariant-loop : goal.invariant-loop
invariant-loop l = StarsSoFar l.initial.words l.words

abbrev pub decreases-loop : goal.decreases-loop
decreases-loop l = length l.words
