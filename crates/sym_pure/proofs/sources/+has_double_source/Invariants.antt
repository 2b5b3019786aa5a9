use Rattle.std.proofs.Common.{length}
use Rattle.sym_pure.proofs.sources.+has_double_source.Given as goal

abbrev pub decreases-has_double_source : goal.decreases-has_double_source
decreases-has_double_source l = length l.atoms.now
