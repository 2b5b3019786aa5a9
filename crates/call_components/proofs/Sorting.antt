-- A sorted list of numbers is the one that the definition gives by putting one number in after the other.
use Rattle.std.proofs.Common.{Ordering, ◌≡◌, ℕ, zero, suc, ◌+◌, ◌<◌, ◌≤◌, ◌==◌, Bool, true, false, cond, List, [], ◌∷◌}
use Rattle.std.proofs.Common.{◌++◌, length, get_or, refl, sym, ap, ◌∙◌, arith, All, AllPairs}
use Rattle.std.specs.Prelude.{⊤, if◌then◌else◌, slice_index_or}
use Rattle.std.specs.Ordering.{nat_cmp, is_lt, is_gt, ordering_reverse, ordering_then, MatchOrdering}
use Rattle.std.specs.declared.cmp.Ordering.TheVariants.{Less, Equal, Greater}
use Rattle.std.specs.Cmp.{IsTotalOrder, IsStrictWeakOrder}
use Rattle.std.specs.Cmp.Lexicographic.{slice_cmp}
use Rattle.std.specs.List.{Contains, sum_by}
use Rattle.std.specs.List.Sorted.{IsPermutation, IsSortedBy}
use Rattle.std.proofs.lemmas.Bool.Decides.{Decides-eqb}
use Rattle.std.proofs.lemmas.Cmp.{ranked, upto, tied_itself, nat_cmp_total, nat_list_cmp_total, on_total, then_total}
use Rattle.std.proofs.lemmas.List.Elements.{All-nil, All-cons, All-tail, All-weaker, All-contains}
use Rattle.std.proofs.lemmas.List.Sorted.{ranks_by, sorted_far, sum_by-IsPermutation}
use Rattle.std.proofs.lemmas.List.Sums.{sum_by-cons, sum_by_push}
use Rattle.component_keys.specs.Components.{in_name_order, by_name}
use Rattle.call_components.specs.Sorting.{name_rank, below}
use Rattle.call_components.proofs.Naming.{is_before, All-put, by_name_below}

turned : (r : Ordering) → is_lt (ordering_reverse r) ≡ is_gt r
turned Less = refl
turned Equal = refl
turned Greater = refl

first_less : (r s : Ordering) → is_lt r ≡ true → is_gt (ordering_then r s) ≡ false
first_less Less s e = refl
first_less Equal s e = cc
first_less Greater s e = cc

none_greater : (r s : Ordering) → is_lt (ordering_reverse r) ≡ false → is_gt s ≡ false → is_gt (ordering_then r s) ≡ false
none_greater Less s e f = refl
none_greater Equal s e f = f
none_greater Greater s e f = cc

second_equal : (r s : Ordering) → ordering_then r s ≡ Equal → s ≡ Equal
second_equal Less s e = cc
second_equal Equal s e = e
second_equal Greater s e = cc

less_number : (x y : ℕ) (r : Ordering) → MatchOrdering r (x < y) (x ≡ y) (y < x) → x < y → is_gt r ≡ false
less_number x y Less h lt = refl
less_number x y Equal h lt = refl
less_number x y Greater h lt = absurd (omega (arith, h, lt))

same_number : (x y : ℕ) (r : Ordering) → MatchOrdering r (x < y) (x ≡ y) (y < x) → r ≡ Equal → x ≡ y
same_number x y Less h e = cc
same_number x y Equal h e = h
same_number x y Greater h e = cc

neither : (r : Ordering) → is_gt r ≡ false → is_gt (ordering_reverse r) ≡ false → r ≡ Equal
neither Less a b = cc
neither Equal a b = refl
neither Greater a b = cc

-- how often a number stands in a list
abbrev own : ℕ → ℕ → ℕ
own x y = cond (y == x) 1 0

abbrev times : ℕ → List ℕ → ℕ
times x = sum_by (own x)

contained : (x : ℕ) (xs : List ℕ) → 0 < times x xs → Contains xs x
contained x [] some = absurd (omega (arith, some))
contained x (y ∷ xs) some = by_test (y == x) refl (contained x xs)
  where
    by_test : (b : Bool) → (y == x) ≡ b → (0 < times x xs → Contains xs x) → Contains (y ∷ xs) x
    by_test true e again = (0, omega arith, (Decides-eqb y x).0 e)
    by_test false e again =
        let own_is : own x y ≡ 0 = rw e refl in
        let all : times x (y ∷ xs) ≡ own x y + times x xs = sum_by-cons (own x) y xs in
        let rest = again (omega (arith, own_is, all, some)) in
        let lt : rest.0 < length xs = rest.1 in
        (suc rest.0, omega (arith, lt), rest.2)

own_once : (x : ℕ) → own x x ≡ 1
own_once x = rw ((Decides-eqb x x).1 refl) refl

module _ (names : List (List ℕ)) where
  abbrev rank : ℕ → ℕ → Ordering
  rank = name_rank names

  pub total : IsTotalOrder (name_rank names)
  total = then_total (on_total (λ number. slice_index_or names number []) nat_list_cmp_total) nat_cmp_total

  pub ranks_numbers : IsStrictWeakOrder (λ one other. is_lt (name_rank names one other))
  ranks_numbers = ranks_by total (λ number. number)

  -- the one stands before the other, or is the same
  abbrev pub IsUpTo : ℕ → ℕ → Type 0
  IsUpTo one other = is_gt (rank one other) ≡ false

  alike : (one other : ℕ) → IsUpTo one other → IsUpTo other one → one ≡ other
  alike one other le ge =
      let e : rank one other ≡ Equal = neither (rank one other) le (ap is_gt (sym (total.antisymm other one)) ∙ ge) in
      same_number one other (nat_cmp one other) (ranked one other (nat_cmp one other) refl) (second_equal _ (nat_cmp one other) e)

  -- each stands before those behind it
  abbrev IsRising : List ℕ → Type 0
  IsRising [] = ⊤
  IsRising (x ∷ xs) = All (IsUpTo x) xs × IsRising xs

  first_up_to : (x y : ℕ) (ys : List ℕ) → IsRising (y ∷ ys) → 0 < times x (y ∷ ys) → IsUpTo y x
  first_up_to x y ys rising some =
      All-contains (IsUpTo y) (y ∷ ys) x (All-cons (IsUpTo y) y ys (ap is_gt (tied_itself total y)) rising.0) (contained x (y ∷ ys) some)

  -- two lists of the same numbers that rise are the same
  one_order : (xs ys : List ℕ) → IsRising xs → IsRising ys → ((x : ℕ) → times x xs ≡ times x ys) → xs ≡ ys
  one_order [] [] rx ry same = refl
  one_order [] (y ∷ ys) rx ry same =
      let e : 0 ≡ times y (y ∷ ys) = same y in
      let all : times y (y ∷ ys) ≡ own y y + times y ys = sum_by-cons (own y) y ys in
      let once : own y y ≡ 1 = own_once y in
      absurd (omega (arith, e, all, once))
  one_order (x ∷ xs) [] rx ry same =
      let e : times x (x ∷ xs) ≡ 0 = same x in
      let all : times x (x ∷ xs) ≡ own x x + times x xs = sum_by-cons (own x) x xs in
      let once : own x x ≡ 1 = own_once x in
      absurd (omega (arith, e, all, once))
  one_order (x ∷ xs) (y ∷ ys) rx ry same =
      let in_xs : times x (x ∷ xs) ≡ own x x + times x xs = sum_by-cons (own x) x xs in
      let in_ys : times y (y ∷ ys) ≡ own y y + times y ys = sum_by-cons (own y) y ys in
      let once : own x x ≡ 1 = own_once x in
      let once_y : own y y ≡ 1 = own_once y in
      let same_x : times x (x ∷ xs) ≡ times x (y ∷ ys) = same x in
      let same_y : times y (x ∷ xs) ≡ times y (y ∷ ys) = same y in
      let head : x
      ≡ y =
      alike x y (first_up_to y x xs rx (omega (arith, in_ys, once_y, same_y)))
      (first_up_to x y ys ry (omega (arith, in_xs, once, same_x))) in
      let rest : xs ≡ ys = one_order xs ys rx.1 ry.1 (λ z. tails z head) in
      λ i. head i ∷ rest i
    where
      tails : (z : ℕ) → x ≡ y → times z xs ≡ times z ys
      tails z head =
          let left : times z (x ∷ xs) ≡ own z x + times z xs = sum_by-cons (own z) x xs in
          let right : times z (y ∷ ys) ≡ own z y + times z ys = sum_by-cons (own z) y ys in
          let owns : own z x ≡ own z y = ap (own z) head in
          let all : times z (x ∷ xs) ≡ times z (y ∷ ys) = same z in
          omega (arith, left, right, owns, all)

  rising_from : (xs : List ℕ) → ((i j : ℕ) (d : ℕ) → i ≤ j → j < length xs → is_lt (rank (get_or xs j d) (get_or xs i d)) ≡ false) →
      IsRising xs
  rising_from [] far = tt
  rising_from (x ∷ xs) far = (
    (λ k d lt. sym (turned (rank x (get_or xs k d))) ∙ ap is_lt (sym (total.antisymm (get_or xs k d) x))
        ∙ far 0 (suc k) d (omega arith) (omega (arith, lt))),
    rising_from xs (λ i j d le lt. far (suc i) (suc j) d (omega (arith, le)) (omega (arith, lt))),
  )

  put_rising : (number : ℕ) (order : List ℕ) → All (λ x. x < number) order → IsRising order → IsRising (in_name_order names number order)
  put_rising number [] less rising = (All-nil (IsUpTo number), tt)
  put_rising number (x ∷ order) less rising =
      by_test (is_before names number x) refl (put_rising number order (All-tail (λ y. y < number) x order less) rising.1)
    where
      by_test : (b : Bool) → is_before names number x ≡ b → IsRising (in_name_order names number order) →
          IsRising (if b then number ∷ x ∷ order else x ∷ in_name_order names number order)
      by_test true e again =
          let here : IsUpTo number x =
          first_less (slice_cmp nat_cmp (slice_index_or names number []) (slice_index_or names x [])) (nat_cmp number x) e in (
            All-cons (IsUpTo number) x order here
                (All-weaker (IsUpTo x) (IsUpTo number) (λ z le. upto total number x z here le) order rising.0),
            rising,
          )
      by_test false e again =
          let own_less : x < number = less 0 0 (omega arith) in
          let here : IsUpTo x number =
          none_greater (slice_cmp nat_cmp (slice_index_or names x []) (slice_index_or names number [])) (nat_cmp x number)
          (ap is_lt (sym (nat_list_cmp_total.antisymm (slice_index_or names number []) (slice_index_or names x []))) ∙ e)
          (less_number x number (nat_cmp x number) (ranked x number (nat_cmp x number) refl) own_less) in
          (All-put (IsUpTo x) names number order here rising.0, again)

  by_name_rising : (n : ℕ) → IsRising (by_name names n)
  by_name_rising zero = tt
  by_name_rising (suc n) = put_rising n (by_name names n) (by_name_below names n) (by_name_rising n)

  times_put : (x number : ℕ) (order : List ℕ) → times x (in_name_order names number order) ≡ own x number + times x order
  times_put x number [] = sum_by-cons (own x) number []
  times_put x number (y ∷ order) = by_test (is_before names number y) (times_put x number order)
    where
      by_test : (b : Bool) → times x (in_name_order names number order) ≡ own x number + times x order →
          times x (if b then number ∷ y ∷ order else y ∷ in_name_order names number order) ≡ own x number + times x (y ∷ order)
      by_test true again = sum_by-cons (own x) number (y ∷ order)
      by_test false again =
          let left : times x (y ∷ in_name_order names number order) ≡ own x y + times x (in_name_order names number order) =
          sum_by-cons (own x) y (in_name_order names number order) in
          let right : times x (y ∷ order) ≡ own x y + times x order = sum_by-cons (own x) y order in
          omega (arith, left, right, again)

  times_by_name : (x n : ℕ) → times x (by_name names n) ≡ times x (below n)
  times_by_name x zero = refl
  times_by_name x (suc n) =
      let put : times x (in_name_order names n (by_name names n)) ≡ own x n + times x (by_name names n) = times_put x n (by_name names n) in
      let push : times x (below n ++ n ∷ []) ≡ times x (below n) + own x n = sum_by_push (own x) (below n) n in
      let again : times x (by_name names n) ≡ times x (below n) = times_by_name x n in
      omega (arith, put, push, again)

  -- the numbers below, sorted
  pub sorted_is : (n : ℕ) (before after : List ℕ) → before ≡ below n → IsPermutation before after →
      IsSortedBy (λ one other. is_lt (name_rank names one other)) after → after ≡ by_name names n
  sorted_is n before after is moved sorted =
      one_order after (by_name names n)
      (rising_from after (sorted_far (λ one other. is_lt (name_rank names one other)) ranks_numbers after sorted)) (by_name_rising n)
      (λ x. sum_by-IsPermutation (own x) before after moved ∙ ap (times x) is ∙ sym (times_by_name x n))

  rising_pairs : (xs : List ℕ) → IsRising xs → (i j d : ℕ) → i < j → j < length xs → IsUpTo (get_or xs i d) (get_or xs j d)
  rising_pairs [] rising i j d lt less = absurd (omega (arith, less))
  rising_pairs (x ∷ xs) rising i zero d lt less = absurd (omega (arith, lt))
  rising_pairs (x ∷ xs) rising zero (suc j) d lt less = rising.0 j d (omega (arith, less))
  rising_pairs (x ∷ xs) rising (suc i) (suc j) d lt less = rising_pairs xs rising.1 i j d (omega (arith, lt)) (omega (arith, less))

  -- of two numbers of the order the first is up to the second
  pub by_name_pairs : (n : ℕ) → AllPairs IsUpTo (by_name names n)
  by_name_pairs n i j d lt within = rising_pairs (by_name names n) (by_name_rising n) i j d lt within
