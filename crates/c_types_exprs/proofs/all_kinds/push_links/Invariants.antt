use Rattle.std.proofs.Common.{◌≡◌, ◌++◌, drop}
use Rattle.c_types_rules.specs.Kinds.{link_kinds}
use Rattle.c_tree.specs.Syntax.{links_tree}
use Rattle.c_types_names.specs.Seen.{kind_seen}
use Rattle.c_types_exprs.proofs.all_kinds.push_links.Given as goal

abbrev pub invariant-loop-link : goal.invariant-loop-link
invariant-loop-link l =
    l.list ++ link_kinds l.env (kind_seen l.current) (links_tree (drop l.link-index l.link-items))
    ≡ l.initial.list ++ link_kinds l.env (kind_seen l.initial.current) (links_tree l.link-items)
