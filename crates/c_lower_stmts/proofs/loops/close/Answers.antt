use Rattle.c_lower_stmts.proofs.Repeating.{closed_at}
use Rattle.c_lower_stmts.proofs.loops.close.Goals as goal

pub returns : goal.returns
returns c = λ t b s u v x o m n head index body step small h k l.
    closed_at c.args.opened.visible t b s u v x c.args.body_begin c.args.step_begin o m n c.args.out.now c.redirect.new.self
    c.redirect-3.new.self c.redirect-5.new.self c.add.new.out
    c.args.opened.head c.args.opened.index c.args.body c.args.step c.len-past.result c.all_to-to_head.result c.round-ways.result c.at.result
    c.redirect-2.result c.redirect-4.result
    head index body step c.len-past.ensures small h k l c.at.ensures c.all_to-to_head.ensures c.redirect.ensures c.redirect-2.ensures
    c.round-ways.ensures c.redirect-3.ensures c.redirect-4.ensures
    c.redirect-5.ensures c.in_ok-add.ensures
