use Rattle.std.proofs.Common.{◌≡◌, ◌++◌, drop}
use Rattle.c_lower_rules.specs.Statements.{stmts_kinds}
use Rattle.c_tree.specs.Syntax.{stmts_tree}
use Rattle.c_lower.proofs.locals.+locals.Given as goal

abbrev pub invariant-push_block-loop-one : goal.invariant-push_block-loop-one
invariant-push_block-loop-one l =
    l.slots ++ stmts_kinds l.tables (stmts_tree (drop l.one-index l.one-items))
    ≡ l.initial.slots ++ stmts_kinds l.tables (stmts_tree l.one-items)
