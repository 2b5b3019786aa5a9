use Rattle.std.proofs.Common.{◌≡◌, drop}
use Rattle.c_types_rules.specs.Expressions.{kind_of_chain}
use Rattle.c_tree.specs.Syntax.{links_tree}
use Rattle.c_types_names.specs.Seen.{kind_seen}
use Rattle.c_types_exprs.proofs.exprs.+kinds.Given as goal

abbrev pub invariant-kind_of_chain-loop-link : goal.invariant-kind_of_chain-loop-link
invariant-kind_of_chain-loop-link l =
    kind_of_chain l.env (kind_seen l.current) (links_tree (drop l.link-index l.link-items))
    ≡ kind_of_chain l.env (kind_seen l.initial.current) (links_tree l.link-items)
