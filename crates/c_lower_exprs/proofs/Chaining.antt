-- Chains of operators, from the left.
use Rattle.std.proofs.Common.{◌≡◌, ℕ, zero, suc, ◌+◌, ◌-◌, ◌<◌, ◌≤◌, List, [], ◌∷◌, length, take, get_or, refl, sym, ap, ◌∙◌, subst, arith}
use Rattle.c_grammar.specs.Trees as tree
use Rattle.c_tree.specs.declared.exprs.Link.{Link}
use Rattle.c_tree.specs.declared.exprs.Expr.TheFolds.{fold_out-Link}
use Rattle.c_tree.specs.Syntax.{LinkTree, binary_tree, expr_level, link_level, expr_tree, link_tree, links_tree}
use Rattle.c_lower_rules.specs.Contexts.{Context}
use Rattle.c_lower_rules.specs.Values.{Lowering}
use Rattle.c_lower_rules.specs.Expressions.{lowering, chain, binary}
use Rattle.c_lower_rules.specs.Numbers.{HasIntNumbers, HaveIntNumbers}
use Rattle.c_lower_exprs.proofs.Weights.{weight, links_weight}

-- the chain of one link more
pub chain_more : (c : Context) (before : Lowering) (links : List Link) (n : ℕ) (d : Link) → n < length links
    → chain c before (links_tree (take (suc n) links))
    ≡ binary c (link_tree (get_or links n d)).op (chain c before (links_tree (take n links)))
    (lowering c (link_tree (get_or links n d)).operand)
chain_more c before [] n d = λ lt. absurd (omega (arith, lt))
chain_more c before (l ∷ ls) zero d = λ lt. refl
chain_more c before (l ∷ ls) (suc n) d =
    λ lt. chain_more c (binary c (link_tree l).op before (lowering c (link_tree l).operand)) ls n d (omega (arith, lt))

pub weight_more : (links : List Link) (n : ℕ) (d : Link) → n < length links
    → links_weight (links_tree (take (suc n) links))
    ≡ weight (link_tree (get_or links n d)).operand + links_weight (links_tree (take n links)) + 1
weight_more [] n d = λ lt. absurd (omega (arith, lt))
weight_more (l ∷ ls) zero d = λ lt. omega arith
weight_more (l ∷ ls) (suc n) d = λ lt. let h = weight_more ls n d (omega (arith, lt)) in omega (arith, h)

pub numbers_at : (links : List Link) (n : ℕ) (d : Link) → n < length links → HaveIntNumbers (links_tree links)
    → HasIntNumbers (link_tree (get_or links n d)).operand
numbers_at [] n d = λ lt. absurd (omega (arith, lt))
numbers_at (l ∷ ls) zero d = λ lt h. h.0
numbers_at (l ∷ ls) (suc n) d = λ lt h. numbers_at ls n d (omega (arith, lt)) h.1

get_same : (links : List Link) (n : ℕ) (d e : Link) → n < length links → get_or links n d ≡ get_or links n e
get_same [] n d e = λ lt. absurd (omega (arith, lt))
get_same (l ∷ ls) zero d e = λ lt. refl
get_same (l ∷ ls) (suc n) d e = λ lt. get_same ls n d e (omega (arith, lt))

-- what a link stands for
link_is : (l : Link) → link_tree l ≡ record { op = binary_tree l.op; operand = expr_tree l.operand }
link_is l = fold_out-Link tree.Expr LinkTree expr_level link_level l

-- THE LAST OF SOME LINKS

module _ (links : List Link) (count : ℕ) (some : count ≡ 0 → ⊥) (within : count ≤ length links) where
  lt : count - 1 < length links
  lt = omega (arith, some, within)

  one_more : count ≡ suc (count - 1)
  one_more = omega (arith, some)

  operand_is : (m : Link) → m ≡ get_or links (count - 1) m → (link_tree (get_or links (count - 1) m)).operand ≡ expr_tree m.operand
  operand_is m is = ap (λ (l : Link). (link_tree l).operand) (sym is) ∙ ap (λ (l : LinkTree). l.operand) (link_is m)

  same_at : (d e : Link) → get_or links (count - 1) d ≡ get_or links (count - 1) e
  same_at d e = get_same links (count - 1) d e lt

  op_is : (l m : Link) → l ≡ get_or links (count - 1) l → (link_tree (get_or links (count - 1) m)).op ≡ binary_tree l.op
  op_is l m is = ap (λ (x : Link). (link_tree x).op) (same_at m l ∙ sym is) ∙ ap (λ (x : LinkTree). x.op) (link_is l)

  -- the first of them, and the last
  pub chain_is : (c : Context) (before : Lowering) (l m : Link) → l ≡ get_or links (count - 1) l → m ≡ get_or links (count - 1) m
      → chain c before (links_tree (take count links))
      ≡ binary c (binary_tree l.op) (chain c before (links_tree (take (count - 1) links))) (lowering c (expr_tree m.operand))
  chain_is c before l m is is' =
      ap (λ n. chain c before (links_tree (take n links))) one_more ∙ chain_more c before links (count - 1) m lt
      ∙ ap (λ op. binary c op (chain c before (links_tree (take (count - 1) links)))
      (lowering c (link_tree (get_or links (count - 1) m)).operand)) (op_is l m is)
      ∙ ap (λ e. binary c (binary_tree l.op) (chain c before (links_tree (take (count - 1) links))) (lowering c e)) (operand_is m is')

  pub weights : (m : Link) → m ≡ get_or links (count - 1) m
      → links_weight (links_tree (take count links)) ≡ weight (expr_tree m.operand) + links_weight (links_tree (take (count - 1) links)) + 1
  weights m is =
      ap (λ n. links_weight (links_tree (take n links))) one_more ∙ weight_more links (count - 1) m lt
      ∙ ap (λ e. weight e + links_weight (links_tree (take (count - 1) links)) + 1) (operand_is m is)

  pub operand_numbers : (m : Link) → m ≡ get_or links (count - 1) m → HaveIntNumbers (links_tree links)
      → HasIntNumbers (expr_tree m.operand)
  operand_numbers m is h = subst HasIntNumbers (operand_is m is) (numbers_at links (count - 1) m lt h)
