use Rattle.c_tree.specs.Syntax.{head_tree, stmts_tree}
use Rattle.c_types.proofs.Defining.{tables_kept_on}
use Rattle.c_types.proofs.items.body.Goals as goal

pub returns-clause-tables : goal.returns-clause-tables
returns-clause-tables c =
    tables_kept_on c.args.env.now c.clear.new.self c.add_params.new.env (head_tree c.args.head.now)
    (stmts_tree c.args.block.now.stmts.items) c.clear.ensures c.in_ok-add_params.ensures.env
    c.stmts.result c.stmts.new.env (stmts_tree c.args.block.now.stmts.items) c.stmts.ensures.env
