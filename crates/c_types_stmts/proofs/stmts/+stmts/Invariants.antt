use Rattle.std.proofs.Common.{◌≡◌, drop}
use Rattle.c_types_rules.specs.Statements.{stmts}
use Rattle.c_tree.specs.Syntax.{stmts_tree}
use Rattle.c_types_names.specs.Seen.{kind_seen}
use Rattle.c_types_stmts.specs.Adding.{AddsUpTo}
use Rattle.c_types_stmts.specs.Behind.{behind_stmts}
use Rattle.c_types_stmts.proofs.stmts.+stmts.Given as goal

abbrev pub invariant-stmts-loop-one : goal.invariant-stmts-loop-one
invariant-stmts-loop-one l = record {
  found : AddsUpTo (stmts l.env (kind_seen l.answer) l.loops (stmts_tree (drop l.one-index l.one-items)))
      (stmts l.initial.env (kind_seen l.answer) l.loops (stmts_tree l.one-items)) l.initial.found l.found;
  env : behind_stmts l.env (stmts_tree (drop l.one-index l.one-items)) ≡ behind_stmts l.initial.env (stmts_tree l.one-items);
}
