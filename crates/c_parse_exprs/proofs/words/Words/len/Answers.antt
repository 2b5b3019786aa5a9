use Rattle.c_parse_exprs.proofs.Cursor.{length-words}
use Rattle.c_parse_exprs.proofs.words.Words.len.Goals as goal

pub returns : goal.returns
returns c = length-words c.self.inside.tokens.now c.args.self.now c.self.view_is
