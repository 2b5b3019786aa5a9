use Rattle.c_lower_stmts.proofs.Releasing.{chosen_at}
use Rattle.c_lower_stmts.proofs.stmt_parts.choose.Goals as goal

pub returns : goal.returns
returns c = λ tested one other s t u o m n from past test first second.
    chosen_at _ tested one other s t u o m n c.args.out.now c.redirect.new.self c.args.from c.args.past from past test first second
    c.redirect.ensures
