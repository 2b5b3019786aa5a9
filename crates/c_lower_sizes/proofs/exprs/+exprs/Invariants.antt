use Rattle.std.proofs.Common.{◌≡◌, drop}
use Rattle.c_tree.specs.Syntax.{links_tree, args_tree}
use Rattle.c_lower_sizes.specs.Sizes.{Uses, chain_uses, args_size}
use Rattle.c_lower_sizes.specs.Counts.{AreCounts}
use Rattle.c_lower_sizes.proofs.Adding.{IsSumUpTo}
use Rattle.c_lower_sizes.proofs.exprs.+exprs.Given as goal

abbrev pub invariant-chain-loop-link : goal.invariant-chain-loop-link
invariant-chain-loop-link l =
    (uses : Uses) → AreCounts uses l.initial.current
    → (now : Uses) × AreCounts now l.current
    × (chain_uses now (links_tree (drop l.link-index l.link-items)) ≡ chain_uses uses (links_tree l.link-items))

abbrev pub invariant-arguments-loop-arg : goal.invariant-arguments-loop-arg
invariant-arguments-loop-arg l =
    IsSumUpTo (args_size (args_tree (drop l.arg-index l.arg-items))) (args_size (args_tree l.arg-items)) l.total
