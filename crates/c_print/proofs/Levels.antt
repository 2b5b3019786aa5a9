-- The trees of statements that are words alone, and what an `if` is printed as.
use Rattle.std.proofs.Common.{◌≡◌, Option, Some, None, codes, refl, sym, ap, ◌∙◌}
use Rattle.c_grammar.specs.declared.tokens.places.Place.{Place}
use Rattle.c_grammar.specs.Trees as tree
use Rattle.c_grammar.specs.Printing.{Texts, print_stmt}
use Rattle.c_tree.specs.Syntax.{stmt_tree, if_of, stmt_level, block_level, BlockTree}
use Rattle.c_tree.specs.declared.stmts.Stmt.TheVariants.{Break, Continue, rolls-Break, rolls-Continue}
use Rattle.c_tree.specs.declared.stmts.Stmt.TheOpen.{Stmt-F}
use Rattle.c_tree.specs.declared.stmts.Stmt.TheFolds.{fold-roll-Stmt}
use Rattle.c_print.specs.Writing.{print_tested, print_else}

pub break_tree : (place : Place) → stmt_tree (Break place) ≡ tree.Stmt.Break place
break_tree place = ap stmt_tree (sym (rolls-Break place)) ∙ fold-roll-Stmt tree.Stmt BlockTree stmt_level block_level (Stmt-F.Break place)

pub continue_tree : (place : Place) → stmt_tree (Continue place) ≡ tree.Stmt.Continue place
continue_tree place = ap stmt_tree (sym (rolls-Continue place))
    ∙ fold-roll-Stmt tree.Stmt BlockTree stmt_level block_level (Stmt-F.Continue place)

pub if_printed : (place : Place) (test : tree.Expr) (body : tree.Stmt) (other : Option tree.Stmt) (behind : Texts)
    → print_tested (codes "if") test body (print_else other behind) ≡ print_stmt (if_of place test body other) behind
if_printed place test body None behind = refl
if_printed place test body (Some other) behind = refl
