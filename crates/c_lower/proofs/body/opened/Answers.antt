use Rattle.c_tree.specs.Syntax.{head_tree, block_tree}
use Rattle.c_lower.specs.Closing.{closed_of}
use Rattle.c_lower.proofs.Whole.{opened_whole}
use Rattle.c_lower.proofs.body.opened.Goals as goal

pub returns-clause-code : goal.returns-clause-code
returns-clause-code c =
    opened_whole
    (closed_of c.args.context.now.env.tables (head_tree c.args.head.now)
    (block_tree c.args.body.now)) c.in_ok-begin.begin c.new-out.result c.push_opening.new.out c.closed.new.out
    c.lead_next.new.self c.new-out.ensures c.in_ok-push_opening.ensures c.in_ok-begin.ensures.code c.lead_next.ensures
