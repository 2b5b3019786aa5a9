use Rattle.c_lower_stmts.proofs.Repeating.{closed_behind_at}
use Rattle.c_lower_stmts.proofs.loops.close_behind.Goals as goal

pub returns : goal.returns
returns c = λ t b u v o m head index test small h k.
    closed_behind_at c.args.opened.visible t b u v c.args.body_begin o m c.args.out.now c.redirect.new.self c.redirect-2.new.self
    c.add.new.out c.args.opened.head c.args.opened.index c.args.test
    c.len-past.result c.round-ways.result c.at.result c.redirect-begin.result head index test c.len-past.ensures small h k c.at.ensures
    c.round-ways.ensures c.redirect-begin.ensures c.redirect.ensures
    c.redirect-2.ensures c.in_ok-add.ensures
