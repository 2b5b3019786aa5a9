-- The first number of a name stands first among those of its name, where numbers stand in order of their names.
use Rattle.std.proofs.Common.{Ordering, ◌≡◌, ℕ, ◌+◌, ◌<◌, ◌≤◌, nat_lt, nat_eq, Bool, true, false, cond, List, [], length}
use Rattle.std.proofs.Common.{get_or, Some, None, ◌⊎◌, inl, inr, refl, sym, ap, ◌∙◌, subst, arith, All, AllPairs}
use Rattle.std.specs.Prelude.{slice_index_or, position}
use Rattle.std.specs.Ordering.{nat_cmp, is_lt, is_gt, ordering_index, ordering_reverse, ordering_then, MatchOrdering}
use Rattle.std.specs.declared.cmp.Ordering.TheVariants.{Less, Equal, Greater}
use Rattle.std.specs.Cmp.Lexicographic.{pointwise, slice_cmp, bytes_decides}
use Rattle.std.specs.List.{position_or_len}
use Rattle.std.specs.List.Sorted.{IsPartitionPoint, IsPartitionedBy, IsSortedBy}
use Rattle.std.proofs.lemmas.Bool.{cases_lt}
use Rattle.std.proofs.lemmas.Bool.Decides.{Decides-ltb}
use Rattle.std.proofs.lemmas.Cmp.{ranked, tied_itself, nat_list_cmp_total}
use Rattle.std.proofs.lemmas.List.Sorted.{searchable_from_sorted}
use Rattle.std.proofs.lemmas.List.Sums.{position_or_len_is}
use Rattle.std.proofs.lemmas.Map.Lookups.{exact_bytes}
use Rattle.std.proofs.lemmas.Option.{get_or_from_slice_get, slice_get_within}
use Rattle.component_keys.specs.Components.{holds, by_name}
use Rattle.component_keys.proofs.Ordered.{held_at}
use Rattle.component_keys.proofs.Whole.{by_name_holds}
use Rattle.call_components.specs.Sorting.{is_ahead, name_rank}
use Rattle.call_components.proofs.Naming.{by_name_below}
use Rattle.call_components.proofs.Sorting.{total, IsUpTo, by_name_pairs}

-- what a pair that does not fall says of names: none falls, and where they are the same, the numbers don't
first_not_greater : (r s : Ordering) → is_gt (ordering_then r s) ≡ false → is_lt (ordering_reverse r) ≡ false
first_not_greater Less s e = refl
first_not_greater Equal s e = refl
first_not_greater Greater s e = cc

second_not_greater : (r s : Ordering) → r ≡ Equal → is_gt (ordering_then r s) ≡ false → is_gt s ≡ false
second_not_greater Less s e f = cc
second_not_greater Equal s e f = f
second_not_greater Greater s e f = cc

neither : (r : Ordering) → is_lt (ordering_reverse r) ≡ false → is_lt r ≡ false → r ≡ Equal
neither Less a b = cc
neither Equal a b = refl
neither Greater a b = cc

index_less : (r s : Ordering) → ordering_index r ≤ ordering_index s → is_lt s ≡ true → is_lt r ≡ true
index_less Less s le e = refl
index_less Equal Less le e = absurd (omega (arith, le))
index_less Equal Equal le e = cc
index_less Equal Greater le e = cc
index_less Greater Less le e = absurd (omega (arith, le))
index_less Greater Equal le e = cc
index_less Greater Greater le e = cc

not_more : (x y : ℕ) (r : Ordering) → MatchOrdering r (x < y) (x ≡ y) (y < x) → is_gt r ≡ false → x ≤ y
not_more x y Less h e = omega (arith, h)
not_more x y Equal h e = omega (arith, h)
not_more x y Greater h e = cc

-- ---- the first that passes a test

position_some : (p : List ℕ → Bool) (xs : List (List ℕ)) (place : ℕ) → place < length xs → p (get_or xs place []) ≡ true →
    ((k : ℕ) → k < place → p (get_or xs k []) ≡ false) → position p xs ≡ Some place
position_some p xs place lt passes before =
    let e : position_or_len p xs ≡ place = position_or_len_is p xs place [] (omega (arith, lt)) before (λ less. passes) in
    let t : nat_lt place (length xs) ≡ true = (Decides-ltb place (length xs)).1 lt in
    rw (e, t) refl

position_none : (p : List ℕ → Bool) (xs : List (List ℕ)) → ((k : ℕ) → k < length xs → p (get_or xs k []) ≡ false) → position p xs ≡ None
position_none p xs none =
    let e : position_or_len p xs ≡ length xs =
    position_or_len_is p xs (length xs) [] (omega arith) none (λ less. absurd (omega (arith, less))) in
    ap (λ n. cond (nat_lt n (length xs)) (Some n) None) e ∙ not_below (nat_lt (length xs) (length xs)) refl
  where
    not_below : (b : Bool) → nat_lt (length xs) (length xs) ≡ b → cond b (Some (length xs)) None ≡ None
    not_below true t = let less : length xs < length xs = (Decides-ltb (length xs) (length xs)).0 t in absurd (omega (arith, less))
    not_below false t = refl

module _ (names : List (List ℕ)) where
  -- how two numbers stand by their names alone
  abbrev by_names : ℕ → ℕ → Ordering
  by_names one other = slice_cmp nat_cmp (slice_index_or names one []) (slice_index_or names other [])

  by_name_sorted : (n : ℕ) → IsSortedBy (λ one other. is_lt (by_names one other)) (by_name names n)
  by_name_sorted n k d low high =
      let one : ℕ = get_or (by_name names n) k d in
      let next : ℕ = get_or (by_name names n) (k + 1) d in
      ap is_lt (nat_list_cmp_total.antisymm (slice_index_or names next []) (slice_index_or names one [])) ∙
      first_not_greater (by_names one next) (nat_cmp one next) (by_name_pairs names n k (k + 1) d (omega arith) high)

  -- those ahead of a name stand first
  pub ahead_first : (order : List ℕ) → order ≡ by_name names (length names) → (name : List ℕ) → IsPartitionedBy (is_ahead names name) order
  ahead_first order is name i j d le within =
      index_less (slice_cmp nat_cmp (slice_index_or names (get_or order i d) []) name)
      (slice_cmp nat_cmp (slice_index_or names (get_or order j d) []) name)
      (searchable_from_sorted nat_list_cmp_total (λ number. slice_index_or names number []) order name
      (subst (IsSortedBy (λ one other. is_lt (by_names one other))) (sym is) (by_name_sorted (length names))) i j d le within)

  -- ---- a name is looked up at the place behind those ahead of it

  module _ (order : List ℕ) (is : order ≡ by_name names (length names)) (name : List ℕ) (place : ℕ)
      (parted :
      IsPartitionPoint (λ number. is_ahead names name number ≡ true) (λ number. is_ahead names name number ≡ false) order place) where
    abbrev has : List ℕ → Bool
    has other = pointwise nat_eq other name

    not_ahead : (number : ℕ) → get_or names number [] ≡ name → is_ahead names name number ≡ false
    not_ahead number same = ap is_lt (ap (λ l. slice_cmp nat_cmp l name) same ∙ tied_itself nat_list_cmp_total name)

    -- who has the name stands at the place or behind it, so the number at the place is up to it
    up_to : (i : ℕ) → i < length names → get_or names i [] ≡ name → (place < length order) × IsUpTo names (get_or order place 0) i
    up_to i lt same =
        let at = held_at order i (subst (λ o. holds o i ≡ true) (sym is) (by_name_holds names (length names) i lt)) in
        from at.0 (slice_get_within order at.0 i at.1) (get_or_from_slice_get order at.0 i 0 at.1) (cases_lt at.0 place)
        (cases_lt place at.0)
      where
        from : (q : ℕ) → q < length order → get_or order q 0 ≡ i → (q < place) ⊎ (place ≤ q) → (place < q) ⊎ (q ≤ place) →
            (place < length order) × IsUpTo names (get_or order place 0) i
        from q within own (inl less) other =
            let ahead : is_ahead names name i ≡ true =
            subst (λ k. is_ahead names name k ≡ true) own (parted.0 q 0 (omega arith) less) in
            let never : true ≡ false = sym ahead ∙ not_ahead i same in
            cc
        from q within own (inr le) (inl less) = (
          omega (arith, less, within),
          subst (IsUpTo names (get_or order place 0)) own
              (subst (AllPairs (IsUpTo names)) (sym is) (by_name_pairs names (length names)) place q 0 less within),
        )
        from q within own (inr le) (inr more) =
            let one : place ≡ q = omega (arith, le, more) in
            let number : get_or order place 0 ≡ i = ap (λ k. get_or order k 0) one ∙ own in (
              omega (arith, one, within),
              ap (λ k. is_gt (name_rank names k i)) number ∙ ap is_gt (tied_itself (total names) i),
            )

    -- the number at the place is the first of its name
    pub found_first : (number : ℕ) → place < length order → number ≡ get_or order place 0 → has (get_or names number []) ≡ true →
        position has names ≡ Some number
    found_first number within own named =
        position_some has names number bound named (λ i less. by_test i less (has (get_or names i [])) refl)
      where
        bound : number < length names
        bound =
            subst (λ k. k < length names) (sym own)
            (subst (All (λ k. k < length names)) (sym is) (by_name_below names (length names)) place 0 within)

        by_test : (i : ℕ) → i < number → (b : Bool) → has (get_or names i []) ≡ b → has (get_or names i []) ≡ false
        by_test i less false e = e
        by_test i less true e =
            let under : number < length names = bound in
            let same : get_or names i [] ≡ name = (bytes_decides (get_or names i []) name).0 e in
            let up = subst (λ k. IsUpTo names k i) (sym own) (up_to i (omega (arith, less, under)) same).1 in
            let tied : by_names number i ≡ Equal =
            ap (λ l. slice_cmp nat_cmp l (get_or names i [])) ((bytes_decides (get_or names number []) name).0 named ∙ sym same) ∙
            tied_itself nat_list_cmp_total (get_or names i []) in
            let le : number ≤ i =
            not_more number i (nat_cmp number i) (ranked number i (nat_cmp number i) refl)
            (second_not_greater (by_names number i) (nat_cmp number i) tied up) in
            absurd (omega (arith, less, le))

    -- where the number at the place has another name, none has this one
    pub found_other : (number : ℕ) → place < length order → number ≡ get_or order place 0 → has (get_or names number []) ≡ false →
        position has names ≡ None
    found_other number within own other =
        position_none has names (λ i lt. by_test i lt (has (get_or names i [])) refl)
      where
        by_test : (i : ℕ) → i < length names → (b : Bool) → has (get_or names i []) ≡ b → has (get_or names i []) ≡ false
        by_test i lt false e = e
        by_test i lt true e =
            let same : get_or names i [] ≡ name = (bytes_decides (get_or names i []) name).0 e in
            let up = subst (λ k. IsUpTo names k i) (sym own) (up_to i lt same).1 in
            let no_more : is_lt (ordering_reverse (slice_cmp nat_cmp (get_or names number []) name)) ≡ false =
            ap (λ l. is_lt (ordering_reverse (slice_cmp nat_cmp (get_or names number []) l))) (sym same) ∙
            first_not_greater (by_names number i) (nat_cmp number i) up in
            let no_less : is_ahead names name number ≡ false =
            subst (λ k. is_ahead names name k ≡ false) (sym own) (parted.1 place 0 (omega arith) within) in
            let tied : slice_cmp nat_cmp (get_or names number []) name ≡ Equal = neither _ no_more no_less in
            let never : true ≡ false =
            sym ((bytes_decides (get_or names number []) name).1 (exact_bytes (get_or names number []) name tied)) ∙ other in
            cc

    -- where no number stands at the place, none has the name
    pub found_none : length order ≤ place → position has names ≡ None
    found_none past =
        position_none has names (λ i lt. by_test i lt (has (get_or names i [])) refl)
      where
        by_test : (i : ℕ) → i < length names → (b : Bool) → has (get_or names i []) ≡ b → has (get_or names i []) ≡ false
        by_test i lt false e = e
        by_test i lt true e =
            let within : place < length order = (up_to i lt ((bytes_decides (get_or names i []) name).0 e)).0 in
            absurd (omega (arith, past, within))
