use Rattle.std.proofs.lemmas.Result.{IfOk-weaker}
use Rattle.c_tree.specs.Syntax.{head_tree, block_tree}
use Rattle.c_lower.proofs.Whole.{begun_closed}
use Rattle.c_lower.proofs.body.closed.Goals as goal

pub returns-clause-code : goal.returns-clause-code
returns-clause-code c =
    IfOk-weaker c.closed_body.result _ _ (λ begin closes.
    begun_closed c.args.context.now.env.tables (head_tree c.args.head.now)
    (block_tree c.args.body.now) c.args.out.now c.begin.new.self c.args.locals begin c.closed_body.new.out
    c.requires.params c.requires.locals c.requires.size c.requires.nodes c.requires.temps c.code_has_its_size.ensures
    c.locals_have_types.ensures c.locals_have_nodes.ensures
    c.in_ok-begin.ensures.body closes)
    c.closed_body.ensures.code
