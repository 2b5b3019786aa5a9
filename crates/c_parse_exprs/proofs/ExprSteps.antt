-- Levels of nesting, and how deep the calls of functions go.
use Rattle.std.proofs.Common.{◌≡◌, ℕ, zero, suc, ◌+◌, List, length, refl, sym, ap, ◌∙◌, subst, arith}
use Rattle.std.specs.Prelude.{true, false, Option, Some, None, option_map, Result, Ok}
use Rattle.c_grammar.specs.declared.tokens.fault.ReadFault.{ReadFault}
use Rattle.c_grammar.specs.declared.class.Class.{Class}
use Rattle.c_grammar.specs.declared.class.Class.TheVariants as class
use Rattle.c_grammar.specs.Words.{Word}
use Rattle.c_grammar.specs.Readers.{Got, Below, ◌>>=◌, wrong, class_at, read_below, read_unary, read_expr, read_prefix, read_postfix}
use Rattle.c_grammar.specs.Readers.{read_paren, read_call, closed_by, unary_by, op_at, read_chain, read_links, chained}
use Rattle.c_grammar.specs.Trees as tree
use Rattle.c_tree.specs.declared.exprs.BinaryOp.{BinaryOp}
use Rattle.c_tree.specs.Syntax.{binary_tree}
use Rattle.c_parse_exprs.specs.Reads.{Halts, Reads, wrong_at, too_deep_at}
use Rattle.c_parse_exprs.proofs.Steps.{halts, halts_at, halts_same}
use Rattle.c_parse_exprs.specs.Levels.{level_below}

-- the reader of what is one level deeper
pub below_is : (n : ℕ) → read_below n ≡ option_map read_expr (level_below n)
below_is zero = refl
below_is (suc n) = refl

pub unary_is : (n : ℕ) (words : List Word)
    → read_unary n words ≡ unary_by (class_at words) (option_map read_unary (level_below n)) (option_map read_expr (level_below n)) words
unfolding read_unary
unary_is zero words = refl
unary_is (suc n) words = refl

unary_at : (n : ℕ) (words : List Word) (k : Class) (below : Option ℕ) → k ≡ class_at words → below ≡ level_below n
    → read_unary n words ≡ unary_by k (option_map read_unary below) (option_map read_expr below) words
unary_at n words k below first level =
    unary_is n words ∙ ap (λ c. unary_by c (option_map read_unary (level_below n)) (option_map read_expr (level_below n)) words) (sym first)
    ∙ ap (λ b. unary_by k (option_map read_unary b) (option_map read_expr b) words) (sym level)

pub unary_minus : (n : ℕ) (words : List Word) (k : Class) (below : Option ℕ) → k ≡ class_at words → below ≡ level_below n → k ≡ class.Minus
    → read_unary n words ≡ read_prefix tree.PrefixOp.Negate (option_map read_unary below) words
unary_minus n words k below first level is =
    unary_at n words k below first level ∙ ap (λ c. unary_by c (option_map read_unary below) (option_map read_expr below) words) is

pub unary_not : (n : ℕ) (words : List Word) (k : Class) (below : Option ℕ) → k ≡ class_at words → below ≡ level_below n → k ≡ class.Not
    → read_unary n words ≡ read_prefix tree.PrefixOp.Not (option_map read_unary below) words
unary_not n words k below first level is =
    unary_at n words k below first level ∙ ap (λ c. unary_by c (option_map read_unary below) (option_map read_expr below) words) is

no_prefix : (k : Class) (unary expr : Below) (words : List Word) → (k ≡ class.Minus → ⊥) → (k ≡ class.Not → ⊥)
    → unary_by k unary expr words ≡ read_postfix expr words
no_prefix class.Minus unary expr words m n = absurd (m refl)
no_prefix class.Not unary expr words m n = absurd (n refl)
no_prefix _ unary expr words m n = refl

pub unary_other : (n : ℕ) (words : List Word) (k : Class) (below : Option ℕ) → k ≡ class_at words → below ≡ level_below n
    → (k ≡ class.Minus → ⊥) → (k ≡ class.Not → ⊥)
    → read_unary n words ≡ read_postfix (option_map read_expr below) words
unary_other n words k below first level minus not = unary_at n words k below first level ∙ no_prefix k _ _ words minus not

-- where the reading is the same as another, what is given is the same
pub reads_same : {A B : Type 0} (got other : Got B) (tree : A → B) (r : Result A ReadFault) (left : List Word) → got ≡ other
    → Reads other tree r left → Reads got tree r left
reads_same got other tree r left same is = subst (λ g. Reads g tree r left) (sym same) is

pub chain_none : (n : ℕ) (read : List Word → Got tree.Expr) (words : List Word) → n ≡ 0 → read_chain n read words ≡ read words
unfolding read_chain
chain_none zero read words none = refl
chain_none (suc n) read words none = absurd (omega arith)

chain_some : (n less : ℕ) (read : List Word → Got tree.Expr) (words : List Word) → n ≡ suc less
    → read_chain n read words
    ≡ (read_chain less read words
    >>= (λ first. read_links (length first.1) less (read_chain less read) first.1 >>= (λ others. Ok (chained first.0 others.0, others.1))))
unfolding read_chain
chain_some n less read words is = rw is refl

pub first_halts : (n less : ℕ) (read : List Word → Got tree.Expr) (words : List Word) (fault : ReadFault) → n ≡ suc less
    → Halts fault (read_chain less read words) → Halts fault (read_chain n read words)
first_halts n less read words fault is h = halts_same fault _ _ (chain_some n less read words is) (halts fault _ _ h)

pub others_halt : (n less : ℕ) (read : List Word → Got tree.Expr) (words next : List Word) (first : tree.Expr) (fault : ReadFault)
    → n ≡ suc less
    → read_chain less read words ≡ Ok (first, next) → Halts fault (read_links (length next) less (read_chain less read) next)
    → Halts fault (read_chain n read words)
others_halt n less read words next first fault is one h =
    halts_same fault _ _ (chain_some n less read words is
    ∙ ap (λ g. g
    >>= (λ first. read_links (length first.1) less (read_chain less read) first.1
    >>= (λ others. Ok (chained first.0 others.0, others.1)))) one)
    (halts fault _ _ h)

pub chain_read : (n less : ℕ) (read : List Word → Got tree.Expr) (words next left : List Word) (first : tree.Expr) (links : tree.Links)
    → n ≡ suc less
    → read_chain less read words ≡ Ok (first, next) → read_links (length next) less (read_chain less read) next ≡ Ok (links, left)
    → read_chain n read words ≡ Ok (chained first links, left)
chain_read n less read words next left first links is one more =
    chain_some n less read words is
    ∙ ap (λ g. g
    >>= (λ first. read_links (length first.1) less (read_chain less read) first.1
    >>= (λ others. Ok (chained first.0 others.0, others.1)))) one
    ∙ ap (λ g. g >>= (λ others. Ok (chained first others.0, others.1))) more

pub op_seen : (level : ℕ) (k : Class) (words : List Word) (found : Option BinaryOp) (op : BinaryOp)
    → option_map binary_tree found ≡ op_at level k → k ≡ class_at words → found ≡ Some op
    → op_at level (class_at words) ≡ Some (binary_tree op)
op_seen level k words found op gave first is = ap (op_at level) (sym first) ∙ sym gave ∙ ap (option_map binary_tree) is

pub op_unseen : (level : ℕ) (k : Class) (words : List Word) (found : Option BinaryOp) → option_map binary_tree found ≡ op_at level k
    → k ≡ class_at words → found ≡ None
    → op_at level (class_at words) ≡ None
op_unseen level k words found gave first is = ap (op_at level) (sym first) ∙ sym gave ∙ ap (option_map binary_tree) is

no_closed : (k : Class) (below : Below) (words : List Word) → (k ≡ class.Number → ⊥) → (k ≡ class.Null → ⊥) → (k ≡ class.Open → ⊥)
    → (k ≡ class.Cast → ⊥) → (k ≡ class.Malloc → ⊥)
    → closed_by k below words ≡ wrong words
no_closed class.Number below words n u o c m = absurd (n refl)
no_closed class.Null below words n u o c m = absurd (u refl)
no_closed class.Open below words n u o c m = absurd (o refl)
no_closed class.Cast below words n u o c m = absurd (c refl)
no_closed class.Malloc below words n u o c m = absurd (m refl)
no_closed _ below words n u o c m = refl

pub closed_stops : (fault : ReadFault) (words : List Word) (k : Class) (below : Below) → k ≡ class_at words → fault ≡ wrong_at words
    → (k ≡ class.Number → ⊥) → (k ≡ class.Null → ⊥) → (k ≡ class.Open → ⊥) → (k ≡ class.Cast → ⊥) → (k ≡ class.Malloc → ⊥)
    → Halts fault (closed_by (class_at words) below words)
closed_stops fault words k below is place n u o c m =
    halts_at fault _ (record { deep = false; at = words })
    (ap (λ kind. closed_by kind below words) (sym is) ∙ no_closed k below words n u o c m) place

-- no level is left
pub call_deep : (fault : ReadFault) (below : Option ℕ) (words : List Word) → below ≡ None → fault ≡ too_deep_at words
    → Halts fault (read_call (option_map read_expr below) words)
call_deep fault below words is place =
    halts_at fault _ (record { deep = true; at = words }) (ap (λ b. read_call (option_map read_expr b) words) is) place

pub paren_deep : (fault : ReadFault) (below : Option ℕ) (words : List Word) → below ≡ None → fault ≡ too_deep_at words
    → Halts fault (read_paren (option_map read_expr below) words)
paren_deep fault below words is place =
    halts_at fault _ (record { deep = true; at = words }) (ap (λ b. read_paren (option_map read_expr b) words) is) place

pub prefix_deep : (fault : ReadFault) (op : tree.PrefixOp) (below : Option ℕ) (words : List Word) → below ≡ None → fault ≡ too_deep_at words
    → Halts fault (read_prefix op (option_map read_unary below) words)
prefix_deep fault op below words is place =
    halts_at fault _ (record { deep = true; at = words }) (ap (λ b. read_prefix op (option_map read_unary b) words) is) place

-- how many levels are left below
abbrev pub count_below : Option ℕ → ℕ
count_below None = 0
count_below (Some n) = n + 1
