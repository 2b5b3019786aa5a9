use Rattle.std.proofs.Common.{ℕ, map, take}
use Rattle.c_tree.specs.Syntax.{stmt_tree, stmts_of, stmts_tree}
use Rattle.c_lower_rules.specs.Statements.{stmts}
use Rattle.c_lower_rules.specs.Numbers.{StmtsHaveIntNumbers}
use Rattle.c_lower_exprs.specs.Contexts.{on_line, IsWithin}
use Rattle.c_lower_stmts.specs.Laying.{EmitsLowered}
use Rattle.c_lower_stmts.specs.Standing.{state}
use Rattle.c_lower_stmts.proofs.stmts.+stmts.Given as goal

abbrev pub invariant-stmts-loop-one : goal.invariant-stmts-loop-one
invariant-stmts-loop-one l = record {
  within : IsWithin l.fn.context l.context;
  laid : StmtsHaveIntNumbers (stmts_tree l.fn.ones.items) → (line : ℕ)
      → EmitsLowered
      (stmts (stmts_of (map stmt_tree (take l.one-index l.one-items)))
      (state (on_line l.fn.context line) l.locals l.fn.out)) l.fn.context l.locals l.context l.laid l.fn.out l.out;
}
