-- The trees of expressions and statements, variant by variant.
use Rattle.std.proofs.Common.{◌≡◌, Option, None, Box, Vec, Global, map, option_map, sym, ap, ◌∙◌}
use Rattle.c_grammar.specs.declared.tokens.places.Place.{Place}
use Rattle.c_grammar.specs.Trees as tree
use Rattle.c_tree.specs.declared.names.Ident.{Ident}
use Rattle.c_tree.specs.declared.non_empty.NonEmpty.{NonEmpty}
use Rattle.c_tree.specs.declared.exprs.Expr.{Expr}
use Rattle.c_tree.specs.declared.exprs.Expr.TheVariants.{rolls-Members, rolls-Call, rolls-Paren}
use Rattle.c_tree.specs.declared.exprs.Expr.TheViews as expr
use Rattle.c_tree.specs.declared.exprs.Expr.TheOpen.{Expr-F}
use Rattle.c_tree.specs.declared.exprs.Expr.TheFolds.{fold-roll-Expr}
use Rattle.c_tree.specs.declared.stmts.Local.{Local}
use Rattle.c_tree.specs.declared.stmts.Simple.{Simple}
use Rattle.c_tree.specs.declared.stmts.ForInit.{ForInit}
use Rattle.c_tree.specs.declared.stmts.Stmt.{Stmt}
use Rattle.c_tree.specs.declared.stmts.Stmt.TheVariants as variant
use Rattle.c_tree.specs.declared.stmts.Stmt.TheVariants.{rolls-Empty, rolls-If, rolls-While, rolls-DoWhile, rolls-For, rolls-Local}
use Rattle.c_tree.specs.declared.stmts.Stmt.TheVariants.{rolls-Simple, rolls-Break, rolls-Continue, rolls-Return}
use Rattle.c_tree.specs.declared.stmts.Stmt.TheViews as view
use Rattle.c_tree.specs.declared.stmts.Stmt.TheOpen.{Stmt-F}
use Rattle.c_tree.specs.declared.stmts.Stmt.TheFolds.{fold-roll-Stmt}
use Rattle.c_tree.specs.Syntax.{LinkTree, BlockTree, ident_tree, expr_level, link_level, expr_tree, args_tree, stmt_tree, simple_tree}
use Rattle.c_tree.specs.Syntax.{local_tree, for_step_tree, init_tree, stmt_level, block_level}

-- ---- expressions

pub paren_is : (place : Place) (inner : Box Expr Global)
    → expr_tree (expr.Paren place inner) ≡ tree.Expr.Paren place (expr_tree inner.value)
paren_is place inner = ap expr_tree (sym (rolls-Paren place inner))
    ∙ fold-roll-Expr tree.Expr LinkTree expr_level link_level (Expr-F.Paren place inner)

pub members_is : (base : Box Expr Global) (fields : NonEmpty Ident)
    → expr_tree (expr.Members base fields)
    ≡ tree.Expr.Members (expr_tree base.value) (ident_tree fields.first) (map ident_tree fields.others.items)
members_is base fields = ap expr_tree (sym (rolls-Members base fields))
    ∙ fold-roll-Expr tree.Expr LinkTree expr_level link_level (Expr-F.Members base fields)

pub call_is : (callee : Ident) (args : Vec Expr Global)
    → expr_tree (expr.Call callee args) ≡ tree.Expr.Call (ident_tree callee) (args_tree args.items)
call_is callee args = ap expr_tree (sym (rolls-Call callee args))
    ∙ fold-roll-Expr tree.Expr LinkTree expr_level link_level (Expr-F.Call callee args)

-- ---- statements that hold no others

pub local_is : (one : Local) → stmt_tree (variant.Local one) ≡ tree.Stmt.Declare (local_tree one)
local_is one = ap stmt_tree (sym (rolls-Local one)) ∙ fold-roll-Stmt tree.Stmt BlockTree stmt_level block_level (Stmt-F.Local one)

pub simple_is : (one : Simple) → stmt_tree (variant.Simple one) ≡ tree.Stmt.Do (simple_tree one)
simple_is one = ap stmt_tree (sym (rolls-Simple one)) ∙ fold-roll-Stmt tree.Stmt BlockTree stmt_level block_level (Stmt-F.Simple one)

pub break_is : (place : Place) → stmt_tree (variant.Break place) ≡ tree.Stmt.Break place
break_is place = ap stmt_tree (sym (rolls-Break place)) ∙ fold-roll-Stmt tree.Stmt BlockTree stmt_level block_level (Stmt-F.Break place)

pub continue_is : (place : Place) → stmt_tree (variant.Continue place) ≡ tree.Stmt.Continue place
continue_is place = ap stmt_tree (sym (rolls-Continue place))
    ∙ fold-roll-Stmt tree.Stmt BlockTree stmt_level block_level (Stmt-F.Continue place)

pub return_is : (place : Place) (value : Option Expr)
    → stmt_tree (variant.Return place value) ≡ tree.Stmt.Return place (option_map expr_tree value)
return_is place value = ap stmt_tree (sym (rolls-Return place value))
    ∙ fold-roll-Stmt tree.Stmt BlockTree stmt_level block_level (Stmt-F.Return place value)

-- ---- statements that hold others, or nothing

pub empty_is : (place : Place) → stmt_tree (variant.Empty place) ≡ tree.Stmt.Empty place
empty_is place = ap stmt_tree (sym (rolls-Empty place)) ∙ fold-roll-Stmt tree.Stmt BlockTree stmt_level block_level (Stmt-F.Empty place)

pub if_is : (place : Place) (test : Expr) (body : Box Stmt Global)
    → stmt_tree (view.If place test body None) ≡ tree.Stmt.If place (expr_tree test) (stmt_tree body.value)
if_is place test body = ap stmt_tree (sym (rolls-If place test body None))
    ∙ fold-roll-Stmt tree.Stmt BlockTree stmt_level block_level (Stmt-F.If place test body None)

pub while_is : (place : Place) (test : Expr) (body : Box Stmt Global)
    → stmt_tree (view.While place test body) ≡ tree.Stmt.While place (expr_tree test) (stmt_tree body.value)
while_is place test body = ap stmt_tree (sym (rolls-While place test body))
    ∙ fold-roll-Stmt tree.Stmt BlockTree stmt_level block_level (Stmt-F.While place test body)

pub do_while_is : (place : Place) (body : Box Stmt Global) (test : Expr)
    → stmt_tree (view.DoWhile place body test) ≡ tree.Stmt.DoWhile place (stmt_tree body.value) (expr_tree test)
do_while_is place body test = ap stmt_tree (sym (rolls-DoWhile place body test))
    ∙ fold-roll-Stmt tree.Stmt BlockTree stmt_level block_level (Stmt-F.DoWhile place body test)

pub for_is : (place : Place) (first : ForInit) (test : Option Expr) (step : Option (Box Simple Global)) (body : Box Stmt Global)
    → stmt_tree (view.For place first test step body)
    ≡ tree.Stmt.For place (init_tree first) (option_map expr_tree test) (option_map for_step_tree step) (stmt_tree body.value)
for_is place first test step body =
    ap stmt_tree (sym (rolls-For place first test step body))
    ∙ fold-roll-Stmt tree.Stmt BlockTree stmt_level block_level (Stmt-F.For place first test step body)
