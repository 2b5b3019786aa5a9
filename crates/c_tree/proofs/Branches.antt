-- The tree of an `if`, with an `else` or without.
use Rattle.std.proofs.Common.{◌≡◌, Option, None, Some, Box, Global, option_map, sym, ap, ◌∙◌}
use Rattle.c_grammar.specs.declared.tokens.places.Place.{Place}
use Rattle.c_grammar.specs.Trees as tree
use Rattle.c_tree.specs.Syntax.{stmt_tree, else_tree, expr_tree, if_of, stmt_level, block_level, BlockTree}
use Rattle.c_tree.specs.declared.exprs.Expr.{Expr}
use Rattle.c_tree.specs.declared.stmts.Stmt.{Stmt}
use Rattle.c_tree.specs.declared.stmts.Stmt.TheVariants.{rolls-If}
use Rattle.c_tree.specs.declared.stmts.Stmt.TheViews.{If}
use Rattle.c_tree.specs.declared.stmts.Stmt.TheOpen.{Stmt-F}
use Rattle.c_tree.specs.declared.stmts.Stmt.TheFolds.{fold-roll-Stmt}
use Rattle.c_tree.proofs.Trees.{if_is}

pub if_else : (place : Place) (test : Expr) (body other : Box Stmt Global)
    → stmt_tree (If place test body (Some other)) ≡ tree.Stmt.IfElse place (expr_tree test) (stmt_tree body.value) (stmt_tree other.value)
if_else place test body other =
    ap stmt_tree (sym (rolls-If place test body (Some other)))
    ∙ fold-roll-Stmt tree.Stmt BlockTree stmt_level block_level (Stmt-F.If place test body (Some other))

pub if_tree : (place : Place) (test : Expr) (body : Box Stmt Global) (other : Option (Box Stmt Global))
    → stmt_tree (If place test body other) ≡ if_of place (expr_tree test) (stmt_tree body.value) (option_map else_tree other)
if_tree place test body None = if_is place test body
if_tree place test body (Some other) = if_else place test body other
