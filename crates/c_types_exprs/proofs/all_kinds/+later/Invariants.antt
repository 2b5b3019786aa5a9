use Rattle.std.proofs.Common.{◌≡◌, ◌++◌, drop}
use Rattle.c_types_rules.specs.Kinds.{operand_kinds, arg_kinds}
use Rattle.c_tree.specs.Syntax.{links_tree, args_tree}
use Rattle.c_types_exprs.proofs.all_kinds.+later.Given as goal

abbrev pub invariant-push_operands-loop-link : goal.invariant-push_operands-loop-link
invariant-push_operands-loop-link l =
    l.list ++ operand_kinds l.env (links_tree (drop l.link-index l.link-items))
    ≡ l.initial.list ++ operand_kinds l.env (links_tree l.link-items)

abbrev pub invariant-push_args-loop-arg : goal.invariant-push_args-loop-arg
invariant-push_args-loop-arg l =
    l.list ++ arg_kinds l.env (args_tree (drop l.arg-index l.arg-items)) ≡ l.initial.list ++ arg_kinds l.env (args_tree l.arg-items)
