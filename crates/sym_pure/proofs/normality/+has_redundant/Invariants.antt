use Rattle.std.proofs.Common.{length}
use Rattle.sym_pure.proofs.normality.+has_redundant.Given as goal

abbrev pub decreases-has_redundant : goal.decreases-has_redundant
decreases-has_redundant l = length l.facts.now
