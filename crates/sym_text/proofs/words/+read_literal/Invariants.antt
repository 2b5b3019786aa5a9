use Rattle.std.proofs.Common.{length}
use Rattle.sym_text.proofs.words.+read_literal.Given as goal

abbrev pub decreases-read_literal : goal.decreases-read_literal
decreases-read_literal l = length l.word.now
