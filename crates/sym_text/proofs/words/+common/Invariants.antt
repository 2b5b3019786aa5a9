use Rattle.std.proofs.Common.{length}
use Rattle.sym_text.proofs.words.+common.Given as goal

abbrev pub decreases-common : goal.decreases-common
decreases-common l = length l.word.now
