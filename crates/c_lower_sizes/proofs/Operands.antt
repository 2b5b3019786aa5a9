-- Counts of what operators make of operands that are counted.
use Rattle.std.proofs.Common.{◌≡◌, ℕ, ◌+◌, ◌<◌, List, ◌∷◌, length, drop, get_or, arith, sym, ap, ◌∙◌}
use Rattle.std.proofs.lemmas.List.{at_drop_more}
use Rattle.c_grammar.specs.Trees as tree
use Rattle.c_grammar.specs.Trees.{BinaryOp}
use Rattle.c_tree.specs.declared.exprs.Expr.TheFolds.{fold_out-Link}
use Rattle.c_tree.specs.declared.exprs.Link.{Link}
use Rattle.c_tree.specs.Syntax.{LinkTree, binary_tree, expr_level, link_level, expr_tree, link_tree, links_tree}
use Rattle.c_lower_sizes.specs.declared.counts.UseCounts.{UseCounts}
use Rattle.c_lower_sizes.specs.Sizes.{Uses, made_uses, truth_uses, arithmetic_uses, comparison_uses, logical_uses, binary_uses, expr_uses}
use Rattle.c_lower_sizes.specs.Sizes.{chain_uses}
use Rattle.c_lower_sizes.specs.Counts.{capped, seen, AreCounts}

made_counts : (n m : ℕ) (r : UseCounts) → capped m ≡ capped n → AreCounts (made_uses m) r → AreCounts (made_uses n) r
made_counts n m r e h =
    let value = h.value in
    let into = h.into in
    let test = h.test in
    record { value = omega arith; into = omega arith; test = omega arith }

truth_counts : (n m : ℕ) (r : UseCounts) → capped m ≡ capped n → AreCounts (truth_uses m) r → AreCounts (truth_uses n) r
truth_counts n m r e h =
    let value = h.value in
    let into = h.into in
    let test = h.test in
    record { value = omega arith; into = omega arith; test = omega arith }

two : (n m a b : ℕ) → a ≡ capped n → b ≡ capped m → capped (a + b) ≡ capped (n + m)
two n m a b e f = omega arith

two_and_one : (n m a b : ℕ) → a ≡ capped n → b ≡ capped m → capped (a + b + 1) ≡ capped (n + m + 1)
two_and_one n m a b e f = omega arith

arithmetic_counts : (one other : Uses) (a b r : UseCounts) → AreCounts one a → AreCounts other b
    → AreCounts (arithmetic_uses (seen a) (seen b)) r
    → AreCounts (arithmetic_uses one other) r
arithmetic_counts one other a b r h k =
    made_counts (one.value + other.value) (a.value + b.value) r (two one.value other.value a.value b.value h.value k.value)

comparison_counts : (one other : Uses) (a b r : UseCounts) → AreCounts one a → AreCounts other b
    → AreCounts (comparison_uses (seen a) (seen b)) r
    → AreCounts (comparison_uses one other) r
comparison_counts one other a b r h k =
    truth_counts (one.value + other.value + 1) (a.value + b.value + 1) r (two_and_one one.value other.value a.value b.value h.value k.value)

logical_counts : (one other : Uses) (a b r : UseCounts) → AreCounts one a → AreCounts other b → AreCounts (logical_uses (seen a) (seen b)) r
    → AreCounts (logical_uses one other) r
logical_counts one other a b r h k =
    truth_counts (one.test + other.test) (a.test + b.test) r (two one.test other.test a.test b.test h.test k.test)

pub binary_counts : (op : BinaryOp) (one other : Uses) (a b r : UseCounts) → AreCounts one a → AreCounts other b
    → AreCounts (binary_uses op (seen a) (seen b)) r
    → AreCounts (binary_uses op one other) r
binary_counts BinaryOp.Or one other a b r h k = logical_counts one other a b r h k
binary_counts BinaryOp.And one other a b r h k = logical_counts one other a b r h k
binary_counts BinaryOp.Equal one other a b r h k = comparison_counts one other a b r h k
binary_counts BinaryOp.NotEqual one other a b r h k = comparison_counts one other a b r h k
binary_counts BinaryOp.Less one other a b r h k = comparison_counts one other a b r h k
binary_counts BinaryOp.LessEqual one other a b r h k = comparison_counts one other a b r h k
binary_counts BinaryOp.Greater one other a b r h k = comparison_counts one other a b r h k
binary_counts BinaryOp.GreaterEqual one other a b r h k = comparison_counts one other a b r h k
binary_counts BinaryOp.Add one other a b r h k = arithmetic_counts one other a b r h k
binary_counts BinaryOp.Subtract one other a b r h k = arithmetic_counts one other a b r h k
binary_counts BinaryOp.Multiply one other a b r h k = arithmetic_counts one other a b r h k

-- what a link stands for
link_is : (link : Link) → link_tree link ≡ record { op = binary_tree link.op; operand = expr_tree link.operand }
link_is link = fold_out-Link tree.Expr LinkTree expr_level link_level link

-- a link of a chain
pub chain_parts : (uses : Uses) (links : List Link) (i : ℕ) (link : Link) → i < length links → link ≡ get_or links i link
    → chain_uses uses (links_tree (drop i links))
    ≡ chain_uses (binary_uses (binary_tree link.op) uses (expr_uses (expr_tree link.operand))) (links_tree (drop (i + 1) links))
chain_parts uses links i link within is =
    at_drop_more (λ (list : List Link). chain_uses uses (links_tree list)) links i link within
    ∙ ap (λ (one : Link). chain_uses uses (links_tree (one ∷ drop (i + 1) links))) (sym is)
    ∙ ap (λ (one : LinkTree). chain_uses uses (tree.Links.Link one.op one.operand (links_tree (drop (i + 1) links)))) (link_is link)
