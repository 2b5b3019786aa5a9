use Rattle.sym_text.proofs.Turns.{posts_once}
use Rattle.sym_text.proofs.laws.one_post.Goals as goal

pub returns : goal.returns
returns c = posts_once
