-- Numbers in rising order of their names.
use Rattle.std.proofs.Common.{Ordering, ◌≡◌, ◌≢◌, ℕ, zero, suc, ◌<◌, Bool, true, false, List, [], ◌∷◌, refl, sym, ap, ◌∙◌, subst, arith}
use Rattle.std.proofs.Common.{All, AllPairs}
use Rattle.std.specs.Prelude.{if◌then◌else◌, slice_index_or}
use Rattle.std.specs.Ordering.{nat_cmp, is_lt, ordering_reverse}
use Rattle.std.specs.declared.cmp.Ordering.TheVariants.{Less, Equal, Greater}
use Rattle.std.specs.Cmp.Lexicographic.{slice_cmp}
use Rattle.std.proofs.lemmas.Cmp.{nat_list_cmp_total}
use Rattle.std.proofs.lemmas.List.Elements.{All-cons, All-head, All-tail, All-weaker}
use Rattle.std.proofs.lemmas.List.Kept.{AllPairs-cons}
use Rattle.std.proofs.lemmas.Map.Lookups.{exact_bytes}
use Rattle.component_keys.specs.Components.{in_name_order, by_name}
use Rattle.call_components.proofs.Naming.{All-put, by_name_below}
use Rattle.key_laws.proofs.Elements.{pairs_first, pairs_rest, pairs_none, pairs_one}

-- one list of bytes is below another
abbrev pub IsBelow : List ℕ → List ℕ → Type 0
IsBelow one other = slice_cmp nat_cmp one other ≡ Less

abbrev pub named : List (List ℕ) → ℕ → List ℕ
named names number = slice_index_or names number []

-- the name of a number is below that of another
abbrev pub HasNameBelow : List (List ℕ) → ℕ → ℕ → Type 0
HasNameBelow names one other = IsBelow (named names one) (named names other)

lt_less : (o : Ordering) → is_lt o ≡ true → o ≡ Less
lt_less Less e = refl
lt_less Equal e = cc
lt_less Greater e = cc

not_lt : (o : Ordering) → is_lt o ≡ false → o ≢ Equal → o ≡ Greater
not_lt Less e f = cc
not_lt Equal e f = absurd (f refl)
not_lt Greater e f = refl

pub below_differ : (xs ys : List ℕ) → IsBelow xs ys → xs ≢ ys
below_differ xs ys less same =
    let back : slice_cmp nat_cmp xs ys ≡ ordering_reverse (slice_cmp nat_cmp ys xs) = nat_list_cmp_total.antisymm xs ys in
    let turned : slice_cmp nat_cmp ys xs ≡ Less =
    subst (λ l. slice_cmp nat_cmp l xs ≡ Less) same (subst (λ l. slice_cmp nat_cmp xs l ≡ Less) (sym same) less) in
    let e : Less ≡ Greater = sym less ∙ back ∙ ap ordering_reverse turned in
    cc

-- of two names that differ, one is below the other
not_below : (xs ys : List ℕ) → xs ≢ ys → is_lt (slice_cmp nat_cmp xs ys) ≡ false → IsBelow ys xs
not_below xs ys differ e =
    let greater : slice_cmp nat_cmp xs ys ≡ Greater = not_lt (slice_cmp nat_cmp xs ys) e (λ same. differ (exact_bytes xs ys same)) in
    nat_list_cmp_total.antisymm ys xs ∙ ap ordering_reverse greater

put_rising : (names : List (List ℕ)) (number : ℕ) (order : List ℕ) → All (λ other. named names number ≢ named names other) order →
    AllPairs (HasNameBelow names) order →
    AllPairs (HasNameBelow names) (in_name_order names number order)
put_rising names number [] differ rising = pairs_one (HasNameBelow names) number
put_rising names number (x ∷ order) differ rising =
    by_test (is_lt (slice_cmp nat_cmp (named names number) (named names x))) refl
    (put_rising names number order (All-tail (λ other. named names number ≢ named names other) x order differ)
    (pairs_rest (HasNameBelow names) x order rising))
  where
    above : All (HasNameBelow names x) order
    above = pairs_first (HasNameBelow names) x order rising

    by_test : (b : Bool) → is_lt (slice_cmp nat_cmp (named names number) (named names x)) ≡ b →
        AllPairs (HasNameBelow names) (in_name_order names number order) →
        AllPairs (HasNameBelow names) (if b then number ∷ x ∷ order else x ∷ in_name_order names number order)
    by_test true e again =
        let less : HasNameBelow names number x = lt_less (slice_cmp nat_cmp (named names number) (named names x)) e in
        AllPairs-cons (HasNameBelow names) number (x ∷ order)
        (All-cons (HasNameBelow names number) x order less
        (All-weaker (HasNameBelow names x) (HasNameBelow names number)
        (λ y more. nat_list_cmp_total.trans (named names number) (named names x) (named names y) less more) order above))
        rising
    by_test false e again =
        let less : HasNameBelow names x number =
        not_below (named names number) (named names x) (All-head (λ other. named names number ≢ named names other) x order differ) e in
        AllPairs-cons (HasNameBelow names) x (in_name_order names number order)
        (All-put (HasNameBelow names x) names number order less above) again

-- numbers below, whose names differ, stand in rising order of the names
pub by_name_rising : (names : List (List ℕ)) (n : ℕ) → ((i j : ℕ) → i < n → j < n → named names i ≡ named names j → i ≡ j) →
    AllPairs (HasNameBelow names) (by_name names n)
by_name_rising names zero differ = pairs_none (HasNameBelow names)
by_name_rising names (suc n) differ =
    put_rising names n (by_name names n)
    (All-weaker (λ k. k < n) (λ other. named names n ≢ named names other)
    (λ other lt same. let e : n ≡ other = differ n other (omega arith) (omega (arith, lt)) same in absurd (omega (arith, e, lt)))
    (by_name names n) (by_name_below names n))
    (by_name_rising names n (λ i j lt less. differ i j (omega (arith, lt)) (omega (arith, less))))
