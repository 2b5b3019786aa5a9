-- The arguments of a call, with a comma before each but the first.
use Rattle.std.proofs.Common.{◌≡◌, ℕ, ◌+◌, ◌≤◌, List, [], ◌∷◌, ◌++◌, codes, length, map, drop, refl, sym, ap, ◌∙◌, add-one}
use Rattle.std.proofs.lemmas.List.{at_drop_all}
use Rattle.c_grammar.specs.Trees as tree
use Rattle.c_grammar.specs.Printing.{Texts, spaced_texts, print_expr, print_args, print_more_args}
use Rattle.c_tree.specs.Syntax.{args_of, expr_tree, args_tree}
use Rattle.c_tree.specs.declared.exprs.Expr.{Expr}
use Rattle.c_print.specs.Writing.{Prints, PrintsUpTo, print_comma}

-- the arguments, the first of which stands at the place
abbrev pub print_args_from : ℕ → List tree.Expr → Texts → Texts
print_args_from place [] behind = behind
print_args_from place (one ∷ others) behind = print_comma place (print_expr one (print_args_from (place + 1) others behind))

more_args : (place : ℕ) (args : List tree.Expr) (behind : Texts)
    → print_args_from (place + 1) args behind ≡ print_more_args (args_of args) behind
more_args place [] behind = refl
more_args place (one ∷ others) behind =
    ap (λ n. print_comma n (print_expr one (print_args_from (place + 1 + 1) others behind))) (add-one place)
    ∙ ap (λ texts. codes "," ∷ print_expr one texts) (more_args (place + 1) others behind)

all_args : (args : List tree.Expr) (behind : Texts) → print_args_from 0 args behind ≡ print_args (args_of args) behind
all_args [] behind = refl
all_args (one ∷ others) behind = ap (print_expr one) (more_args 0 others behind)

-- behind the last one
pub arguments : (xs : List Expr) (i : ℕ) → length xs ≤ i → {a b : List ℕ}
    → PrintsUpTo (print_args_from i (map expr_tree (drop i xs))) (print_args_from 0 (map expr_tree xs)) a b
    → Prints (print_args (args_tree xs)) a b
arguments xs i past {a = a} {b = b} before = record {
  shown = λ behind.
      ap (λ texts. b ++ spaced_texts texts) (sym (at_drop_all (λ ys. print_args_from i (map expr_tree ys) behind) xs i past))
      ∙ before.shown behind
      ∙ ap (λ texts. a ++ spaced_texts texts) (all_args (map expr_tree xs) behind);
}
