use Rattle.c_parse_exprs.proofs.Cursor.{numbers_listed}
use Rattle.c_parse_exprs.proofs.words.Words.new.Goals as goal

pub invariant_of-result : goal.invariant_of-result
invariant_of-result c = record { classes = c.requires.classes; numbers = numbers_listed c.args.tokens.now c.requires.listed }
