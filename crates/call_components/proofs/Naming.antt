-- Numbers put into an order of names.
use Rattle.std.proofs.Common.{◌≢◌, ℕ, zero, suc, ◌<◌, Bool, true, false, List, [], ◌∷◌, sym, arith, All, AllPairs}
use Rattle.std.specs.Prelude.{if◌then◌else◌, slice_index_or}
use Rattle.std.specs.Ordering.{nat_cmp, is_lt}
use Rattle.std.specs.Cmp.Lexicographic.{slice_cmp}
use Rattle.std.proofs.lemmas.List.Elements.{All-nil, All-cons, All-head, All-tail, All-weaker}
use Rattle.std.proofs.lemmas.List.Kept.{AllPairs-cons}
use Rattle.component_keys.specs.Components.{in_name_order, by_name}

abbrev pub is_before : List (List ℕ) → ℕ → ℕ → Bool
is_before names number other = is_lt (slice_cmp nat_cmp (slice_index_or names number []) (slice_index_or names other []))

pub All-put : (P : ℕ → Type 0) (names : List (List ℕ)) (number : ℕ) (order : List ℕ) → P number → All P order
    → All P (in_name_order names number order)
All-put P names number [] own all = All-cons P number [] own all
All-put P names number (x ∷ order) own all = by_test (is_before names number x) (All-put P names number order own (All-tail P x order all))
  where
    by_test : (b : Bool) → All P (in_name_order names number order)
        → All P (if b then number ∷ x ∷ order else x ∷ in_name_order names number order)
    by_test true again = All-cons P number (x ∷ order) own all
    by_test false again = All-cons P x (in_name_order names number order) (All-head P x order all) again

pub by_name_below : (names : List (List ℕ)) (n : ℕ) → All (λ k. k < n) (by_name names n)
by_name_below names zero = All-nil (λ k. k < 0)
by_name_below names (suc n) =
    All-put (λ k. k < suc n) names n (by_name names n) (omega arith)
    (All-weaker (λ k. k < n) (λ k. k < suc n) (λ k less. omega (arith, less)) (by_name names n) (by_name_below names n))

-- ---- no number stands twice in the order of the names

put_apart : (names : List (List ℕ)) (number : ℕ) (order : List ℕ) → All (λ other. number ≢ other) order
    → AllPairs (λ (one other : ℕ). one ≢ other) order → AllPairs (λ (one other : ℕ). one ≢ other) (in_name_order names number order)
put_apart names number [] differ apart = λ i j d lt less. absurd (omega (arith, lt, less))
put_apart names number (x ∷ order) differ apart =
    by_test (is_before names number x)
    (put_apart names number order (All-tail (λ other. number ≢ other) x order differ)
    (λ i j d lt less. apart (suc i) (suc j) d (omega (arith, lt)) (omega (arith, less))))
  where
    by_test : (b : Bool) → AllPairs (λ (one other : ℕ). one ≢ other) (in_name_order names number order)
        → AllPairs (λ (one other : ℕ). one ≢ other) (if b then number ∷ x ∷ order else x ∷ in_name_order names number order)
    by_test true again = AllPairs-cons (λ (one other : ℕ). one ≢ other) number (x ∷ order) differ apart
    by_test false again =
        AllPairs-cons (λ (one other : ℕ). one ≢ other) x (in_name_order names number order)
        (All-put (λ other. x ≢ other) names number order (λ same. All-head (λ other. number ≢ other) x order differ (sym same))
        (λ k d lt. apart 0 (suc k) d (omega arith) (omega (arith, lt)))) again

pub by_name_apart : (names : List (List ℕ)) (n : ℕ) → AllPairs (λ (one other : ℕ). one ≢ other) (by_name names n)
by_name_apart names zero = λ i j d lt less. absurd (omega (arith, less))
by_name_apart names (suc n) =
    put_apart names n (by_name names n)
    (All-weaker (λ k. k < n) (λ other. n ≢ other) (λ k less same. absurd (omega (arith, less, same))) (by_name names n)
    (by_name_below names n)) (by_name_apart names n)
