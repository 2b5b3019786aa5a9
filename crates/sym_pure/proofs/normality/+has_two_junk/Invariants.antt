use Rattle.std.proofs.Common.{length}
use Rattle.sym_pure.proofs.normality.+has_two_junk.Given as goal

abbrev pub decreases-has_two_junk : goal.decreases-has_two_junk
decreases-has_two_junk l = length l.atoms.now
