use Rattle.std.proofs.Common.{◌≡◌, drop}
use Rattle.c_types_rules.specs.Expressions.{links_refusals, args_refusals, kind_of_chain}
use Rattle.c_tree.specs.Syntax.{links_tree, args_tree}
use Rattle.c_types_names.specs.Seen.{kind_seen}
use Rattle.c_types_exprs.specs.Seen.{given_seen}
use Rattle.c_types_names.specs.FirstRefusal.{with_refusals}
use Rattle.c_types_exprs.proofs.refusals.+refusals.Given as goal

abbrev pub invariant-links_refusals-loop-link : goal.invariant-links_refusals-loop-link
invariant-links_refusals-loop-link l =
    (with_refusals l.first
    (links_refusals l.env l.place (kind_seen l.kind) (given_seen l.given) l.null (links_tree (drop l.link-index l.link-items)))
    ≡ with_refusals l.initial.first
    (links_refusals l.env l.place (kind_seen l.initial.kind) (given_seen l.initial.given) l.initial.null (links_tree l.link-items)))
    × (kind_of_chain l.env (kind_seen l.kind) (links_tree (drop l.link-index l.link-items))
    ≡ kind_of_chain l.env (kind_seen l.initial.kind) (links_tree l.link-items))

abbrev pub invariant-args_refusals-loop-arg : goal.invariant-args_refusals-loop-arg
invariant-args_refusals-loop-arg l =
    with_refusals l.first (args_refusals l.env (args_tree (drop l.arg-index l.arg-items)))
    ≡ with_refusals l.initial.first (args_refusals l.env (args_tree l.arg-items))
