-- The first member of a list that passes a test: it is changed, it goes, or one is put before it.
use Rattle.std.proofs.Common.{◌≡◌, ℕ, zero, suc, ◌+◌, ◌-◌, ◌<◌, ◌≤◌, Bool, true, false, ltb, List, [], ◌∷◌, length, get_or, set, Some, None}
use Rattle.std.proofs.Common.{refl, sym, ap, ◌∙◌, arith}
use Rattle.std.specs.List.{position_or_len, position, list_any, insert, remove, sum_by}
use Rattle.std.specs.Prelude.{map, unwrap_or, ◌||◌}
use Rattle.std.proofs.lemmas.Bool.{ltb-true, ltb-false}
use Rattle.std.proofs.lemmas.List.Sums.{sum_by-cons}
use Rattle.project_form.specs.Files.{changed_first, without_first, inserted_before}

module _ {X : Type 0} (test : X → Bool) where
  -- WHERE IT STANDS

  pub place-found : (xs : List X) (place : ℕ) → position test xs ≡ Some place → (position_or_len test xs ≡ place) × (place < length xs)
  place-found xs place is = by (ltb (position_or_len test xs) (length xs)) refl is
    where
      by : (b : Bool) → ltb (position_or_len test xs) (length xs) ≡ b → position test xs ≡ Some place
          → (position_or_len test xs ≡ place) × (place < length xs)
      by true inside told =
          let there : Some (position_or_len test xs) ≡ Some place = rw inside at told in
          let same : position_or_len test xs ≡ place = cc in
          (same, rw (← same) (ltb-true _ _ inside))
      by false past told = let never : None ≡ Some place = rw past at told in cc

  pub found-any : (xs : List X) → position_or_len test xs < length xs → list_any test xs ≡ true
  found-any [] inside = absurd (omega arith)
  found-any (x ∷ xs) inside = by (test x) refl (found-any xs)
    where
      by : (b : Bool) → test x ≡ b → (position_or_len test xs < length xs → list_any test xs ≡ true) → list_any test (x ∷ xs) ≡ true
      by true is rest = rw is refl
      by false is rest = let more : 1 + position_or_len test xs < suc (length xs) = rw is at inside in rw is (rest (omega arith))

  pub none-any : (xs : List X) → length xs ≤ position_or_len test xs → list_any test xs ≡ false
  none-any [] past = refl
  none-any (x ∷ xs) past = by (test x) refl (none-any xs)
    where
      by : (b : Bool) → test x ≡ b → (length xs ≤ position_or_len test xs → list_any test xs ≡ false) → list_any test (x ∷ xs) ≡ false
      by true is rest = let less : suc (length xs) ≤ 0 = rw is at past in absurd (omega arith)
      by false is rest = let more : suc (length xs) ≤ 1 + position_or_len test xs = rw is at past in rw is (rest (omega arith))

  pub place-none : (xs : List X) → position test xs ≡ None → length xs ≤ position_or_len test xs
  place-none xs is = by (ltb (position_or_len test xs) (length xs)) refl is
    where
      by : (b : Bool) → ltb (position_or_len test xs) (length xs) ≡ b → position test xs ≡ None → length xs ≤ position_or_len test xs
      by true inside told = let never : Some (position_or_len test xs) ≡ None = rw inside at told in cc
      by false past told = ltb-false _ _ past

  pub place-within : (xs : List X) → position_or_len test xs ≤ length xs
  place-within [] = omega arith
  place-within (x ∷ xs) = by (test x) refl (place-within xs)
    where
      by : (b : Bool) → test x ≡ b → position_or_len test xs ≤ length xs → position_or_len test (x ∷ xs) ≤ suc (length xs)
      by true is rest = rw is (omega arith)
      by false is rest = rw is (omega arith)

  pub place-or_end : (xs : List X) → unwrap_or (position test xs) (length xs) ≡ position_or_len test xs
  place-or_end xs = by (ltb (position_or_len test xs) (length xs)) refl
    where
      by : (b : Bool) → ltb (position_or_len test xs) (length xs) ≡ b → unwrap_or (position test xs) (length xs) ≡ position_or_len test xs
      by true inside = rw inside refl
      by false past =
          let most = place-within xs in
          let least = ltb-false (position_or_len test xs) (length xs) past in
          rw past (omega arith)

  -- IN PLACE OF IT

  -- a list with one member more in front: the place is the first, or it is one further on
  next_place : (x : X) (xs : List X) (place : ℕ) → test x ≡ false → position_or_len test (x ∷ xs) ≡ suc place
      → position_or_len test xs ≡ place
  next_place x xs place is there = let told : 1 + position_or_len test xs ≡ suc place = rw is at there in omega arith

  not_first : (x : X) (xs : List X) (place : ℕ) → test x ≡ true → position_or_len test (x ∷ xs) ≡ suc place → ⊥
  not_first x xs place is there = let told : 0 ≡ suc place = rw is at there in absurd (omega arith)

  not_later : (x : X) (xs : List X) → test x ≡ false → position_or_len test (x ∷ xs) ≡ 0 → ⊥
  not_later x xs is there = let told : 1 + position_or_len test xs ≡ 0 = rw is at there in absurd (omega arith)

  pub changed-at : (change : X → X) (xs : List X) (place : ℕ) (d : X) → position_or_len test xs ≡ place → place < length xs
      → changed_first test change xs ≡ set xs place (change (get_or xs place d))
  changed-at change [] place d there inside = absurd (omega arith)
  changed-at change (x ∷ xs) place d there inside = by (test x) refl place there inside (λ k at within. changed-at change xs k d at within)
    where
      by : (b : Bool) → test x ≡ b → (place : ℕ) → position_or_len test (x ∷ xs) ≡ place → place < suc (length xs)
          → ((k : ℕ) → position_or_len test xs ≡ k → k < length xs → changed_first test change xs ≡ set xs k (change (get_or xs k d)))
          → changed_first test change (x ∷ xs) ≡ set (x ∷ xs) place (change (get_or (x ∷ xs) place d))
      by true is zero there inside rest = rw is refl
      by true is (suc k) there inside rest = absurd (not_first x xs k is there)
      by false is zero there inside rest = absurd (not_later x xs is there)
      by false is (suc k) there inside rest = rw is (ap (λ ys. x ∷ ys) (rest k (next_place x xs k is there) (omega arith)))

  pub without-at : (xs : List X) (place : ℕ) → position_or_len test xs ≡ place → place < length xs → without_first test xs ≡ remove xs place
  without-at [] place there inside = absurd (omega arith)
  without-at (x ∷ xs) place there inside = by (test x) refl place there inside (without-at xs)
    where
      by : (b : Bool) → test x ≡ b → (place : ℕ) → position_or_len test (x ∷ xs) ≡ place → place < suc (length xs)
          → ((k : ℕ) → position_or_len test xs ≡ k → k < length xs → without_first test xs ≡ remove xs k)
          → without_first test (x ∷ xs) ≡ remove (x ∷ xs) place
      by true is zero there inside rest = rw is refl
      by true is (suc k) there inside rest = absurd (not_first x xs k is there)
      by false is zero there inside rest = absurd (not_later x xs is there)
      by false is (suc k) there inside rest = rw is (ap (λ ys. x ∷ ys) (rest k (next_place x xs k is there) (omega arith)))

  pub without-none : (xs : List X) → length xs ≤ position_or_len test xs → without_first test xs ≡ xs
  without-none [] past = refl
  without-none (x ∷ xs) past = by (test x) refl (without-none xs)
    where
      by : (b : Bool) → test x ≡ b → (length xs ≤ position_or_len test xs → without_first test xs ≡ xs)
          → without_first test (x ∷ xs) ≡ x ∷ xs
      by true is rest = let less : suc (length xs) ≤ 0 = rw is at past in absurd (omega arith)
      by false is rest =
          let more : suc (length xs) ≤ 1 + position_or_len test xs = rw is at past in
          rw is (ap (λ ys. x ∷ ys) (rest (omega arith)))

  pub inserted-at : (one : X) (xs : List X) (place : ℕ) → position_or_len test xs ≡ place
      → inserted_before test one xs ≡ insert xs place one
  inserted-at one [] place there = rw (← there) refl
  inserted-at one (x ∷ xs) place there = by (test x) refl place there (inserted-at one xs)
    where
      by : (b : Bool) → test x ≡ b → (place : ℕ) → position_or_len test (x ∷ xs) ≡ place
          → ((k : ℕ) → position_or_len test xs ≡ k → inserted_before test one xs ≡ insert xs k one)
          → inserted_before test one (x ∷ xs) ≡ insert (x ∷ xs) place one
      by true is zero there rest = rw is refl
      by true is (suc k) there rest = absurd (not_first x xs k is there)
      by false is zero there rest = absurd (not_later x xs is there)
      by false is (suc k) there rest = rw is (ap (λ ys. x ∷ ys) (rest k (next_place x xs k is there)))

  -- HOW MANY THERE ARE

  pub length-changed : (change : X → X) (xs : List X) → length (changed_first test change xs) ≡ length xs
  length-changed change [] = refl
  length-changed change (x ∷ xs) = by (test x) refl (length-changed change xs)
    where
      by : (b : Bool) → test x ≡ b → length (changed_first test change xs) ≡ length xs
          → length (changed_first test change (x ∷ xs)) ≡ suc (length xs)
      by true is rest = rw is refl
      by false is rest = rw is (ap suc rest)

  pub length-inserted : (one : X) (xs : List X) → length (inserted_before test one xs) ≡ suc (length xs)
  length-inserted one [] = refl
  length-inserted one (x ∷ xs) = by (test x) refl (length-inserted one xs)
    where
      by : (b : Bool) → test x ≡ b → length (inserted_before test one xs) ≡ suc (length xs)
          → length (inserted_before test one (x ∷ xs)) ≡ suc (suc (length xs))
      by true is rest = rw is refl
      by false is rest = rw is (ap suc rest)

  pub length-without : (xs : List X) → length (without_first test xs) ≤ length xs
  length-without [] = omega arith
  length-without (x ∷ xs) = by (test x) refl (length-without xs)
    where
      by : (b : Bool) → test x ≡ b → length (without_first test xs) ≤ length xs → length (without_first test (x ∷ xs)) ≤ suc (length xs)
      by true is rest = rw is (omega arith)
      by false is rest = rw is (omega arith)

  -- A SUM OVER ALL

  pub sum-without : (size : X → ℕ) (xs : List X) → sum_by size (without_first test xs) ≤ sum_by size xs
  sum-without size [] = omega arith
  sum-without size (x ∷ xs) = by (test x) refl (sum-without size xs)
    where
      by : (b : Bool) → test x ≡ b → sum_by size (without_first test xs) ≤ sum_by size xs
          → sum_by size (without_first test (x ∷ xs)) ≤ sum_by size (x ∷ xs)
      by true is rest = let whole = sum_by-cons size x xs in rw is (omega (arith, whole))
      by false is rest =
          let whole = sum_by-cons size x xs in
          let left = sum_by-cons size x (without_first test xs) in
          rw is (omega (arith, whole, left))

-- THE SAME OF ANOTHER KIND OF MEMBERS

module _ {X Y : Type 0} (seen : X → Y) (test : X → Bool) (same : Y → Bool) (alike : (x : X) → test x ≡ same (seen x)) where
  pub any-map : (xs : List X) → list_any same (map seen xs) ≡ list_any test xs
  any-map [] = refl
  any-map (x ∷ xs) = rw (← alike x) (ap (λ b. test x || b) (any-map xs))

  pub changed-map : (change : X → X) (changes : Y → Y) → ((x : X) → seen (change x) ≡ changes (seen x)) → (xs : List X)
      → map seen (changed_first test change xs) ≡ changed_first same changes (map seen xs)
  changed-map change changes turned [] = refl
  changed-map change changes turned (x ∷ xs) = by (test x) refl (changed-map change changes turned xs)
    where
      by : (b : Bool) → test x ≡ b → map seen (changed_first test change xs) ≡ changed_first same changes (map seen xs)
          → map seen (changed_first test change (x ∷ xs)) ≡ changed_first same changes (map seen (x ∷ xs))
      by true is rest = let is' : same (seen x) ≡ true = sym (alike x) ∙ is in rw (is, is') (ap (λ y. y ∷ map seen xs) (turned x))
      by false is rest = let is' : same (seen x) ≡ false = sym (alike x) ∙ is in rw (is, is') (ap (λ ys. seen x ∷ ys) rest)

  pub without-map : (xs : List X) → map seen (without_first test xs) ≡ without_first same (map seen xs)
  without-map [] = refl
  without-map (x ∷ xs) = by (test x) refl (without-map xs)
    where
      by : (b : Bool) → test x ≡ b → map seen (without_first test xs) ≡ without_first same (map seen xs)
          → map seen (without_first test (x ∷ xs)) ≡ without_first same (map seen (x ∷ xs))
      by true is rest = let is' : same (seen x) ≡ true = sym (alike x) ∙ is in rw (is, is') refl
      by false is rest = let is' : same (seen x) ≡ false = sym (alike x) ∙ is in rw (is, is') (ap (λ ys. seen x ∷ ys) rest)

  pub inserted-map : (one : X) (xs : List X) → map seen (inserted_before test one xs) ≡ inserted_before same (seen one) (map seen xs)
  inserted-map one [] = refl
  inserted-map one (x ∷ xs) = by (test x) refl (inserted-map one xs)
    where
      by : (b : Bool) → test x ≡ b → map seen (inserted_before test one xs) ≡ inserted_before same (seen one) (map seen xs)
          → map seen (inserted_before test one (x ∷ xs)) ≡ inserted_before same (seen one) (map seen (x ∷ xs))
      by true is rest = let is' : same (seen x) ≡ true = sym (alike x) ∙ is in rw (is, is') refl
      by false is rest = let is' : same (seen x) ≡ false = sym (alike x) ∙ is in rw (is, is') (ap (λ ys. seen x ∷ ys) rest)
