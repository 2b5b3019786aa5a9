use Rattle.std.proofs.Common.{sym, ap, ◌∙◌}
use Rattle.c_grammar.specs.Printing.{print_stmt}
use Rattle.c_tree.specs.Syntax.{expr_tree, stmt_tree}
use Rattle.c_tree.proofs.Branches.{if_tree}
use Rattle.c_print.specs.Writing.{print_tested}
use Rattle.c_print.proofs.Rows.{ends, same, at_same, at_tree}
use Rattle.c_print.proofs.Levels.{break_tree, continue_tree, if_printed}
use Rattle.c_print.proofs.statements.+write.Goals as goal

pub write_stmt-returns-in_ok-write_tested-in-If : goal.write_stmt-returns-in_ok-write_tested-in-If
write_stmt-returns-in_ok-write_tested-in-If t c =
    let s = c.in-If in
    at_tree print_stmt _ _ (sym (ap stmt_tree s.is ∙ if_tree s.place s.test s.body s.other)) _ _ c.write_else.result
    (same _ _ _ _ c.write_else.result (if_printed s.place _ _ _)
    (ends _ _ c.write_else.result
    (at_same (print_tested _ (expr_tree s.test)) _ _ (ap stmt_tree c.deref.ensures) _ _ c.in_ok-write_tested-in-If.ensures)
    c.write_else.ensures))

pub write_stmt-returns-in-Break : goal.write_stmt-returns-in-Break
write_stmt-returns-in-Break t c =
    at_tree print_stmt _ _ (sym (ap stmt_tree c.in-Break.is ∙ break_tree c.in-Break.field-0)) _ _ c.write_jump.result c.write_jump.ensures

pub write_stmt-returns-in-Continue : goal.write_stmt-returns-in-Continue
write_stmt-returns-in-Continue t c =
    at_tree print_stmt _ _ (sym (ap stmt_tree c.in-Continue.is ∙ continue_tree c.in-Continue.field-0)) _ _ c.write_jump-in-Continue.result
    c.write_jump-in-Continue.ensures
