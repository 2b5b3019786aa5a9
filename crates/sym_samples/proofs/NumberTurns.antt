-- One number, or one fact, more.
use Rattle.std.specs.Prelude.{◌≡◌, ℕ, suc, ◌+◌, ◌-◌, ◌<◌, ◌≤◌, ℤ, List, [], ◌∷◌, ◌++◌, length, take, All}
use Rattle.std.proofs.Common.{refl, sym, ap, ◌∙◌, subst, append_assoc, arith, get_or}
use Rattle.std.proofs.lemmas.List.{take_all, take_more}
use Rattle.std.proofs.lemmas.List.Elements.{All-append, All-cons, All-nil}
use Rattle.shape_data.specs.declared.symbolic.Fact.{Fact}
use Rattle.sym_samples.specs.Samples.{number_of, numbers_from}

pub all_more : {A : Type 0} (P : A → Type 0) (xs : List A) (i : ℕ) (d : A) → i < length xs → All P (take i xs) → P (get_or xs i d) →
    All P (take (i + 1) xs)
all_more P xs i d inside all here =
    subst (All P) (sym (take_more xs i d inside))
    (All-append P (take i xs) (get_or xs i d ∷ []) all (All-cons P (get_or xs i d) [] here (All-nil P)))

pub all_done : {A : Type 0} (P : A → Type 0) (xs : List A) (i : ℕ) → length xs ≤ i → All P (take i xs) → All P xs
all_done P xs i past all = subst (All P) (take_all i xs past) all

pub numbers_turn : (facts : List Fact) (params x : ℕ) (all more : List ℤ) (number : ℤ) → x < params →
    numbers_from facts params 0 ≡ all ++ numbers_from facts (params - x) x → number ≡ number_of facts x → more ≡ all ++ number ∷ [] →
    numbers_from facts params 0 ≡ more ++ numbers_from facts (params - (x + 1)) (x + 1)
numbers_turn facts params x all more number inside so_far is pushed =
    let left : params - x ≡ suc (params - (x + 1)) = omega arith in
    let next : numbers_from facts (params - x) x ≡ number_of facts x ∷ numbers_from facts (params - (x + 1)) (x + 1) = rw left refl in
    so_far
    ∙ ap (λ list. all ++ list) (next ∙ ap (λ one. one ∷ numbers_from facts (params - (x + 1)) (x + 1)) (sym is))
    ∙ sym (append_assoc all (number ∷ []) (numbers_from facts (params - (x + 1)) (x + 1)))
    ∙ ap (λ list. list ++ numbers_from facts (params - (x + 1)) (x + 1)) (sym pushed)
