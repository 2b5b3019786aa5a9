use Rattle.std.proofs.Common.{ap, ◌∙◌}
use Rattle.c_grammar.specs.Trees as tree
use Rattle.c_tree.specs.Syntax.{expr_tree, stmt_tree}
use Rattle.c_tree.proofs.Branches.{if_else}
use Rattle.c_parse.proofs.heads.Branch.or_else.Goals as goal

pub returns : goal.returns
returns c =
    if_else c.args.self.place c.args.self.test c.args.self.body c.in_ok-other.other
    ∙ ap (λ s. tree.Stmt.IfElse c.args.self.place (expr_tree c.args.self.test) (stmt_tree c.args.self.body.value)
    (stmt_tree s)) c.in_ok-other.ensures.ok
