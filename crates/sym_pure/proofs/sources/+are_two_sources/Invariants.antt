use Rattle.std.proofs.Common.{length}
use Rattle.sym_pure.proofs.sources.+are_two_sources.Given as goal

abbrev pub decreases-are_two_sources : goal.decreases-are_two_sources
decreases-are_two_sources l = length l.atoms.now
