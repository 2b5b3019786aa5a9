-- Numbers brought to the front, one after the other: an exchange of all numbers, which gives the first number to the first
-- that is brought there, the next to the next, and so on, and leaves the numbers below the first as they are.
use Rattle.std.specs.Prelude.{◌≡◌, ◌≢◌, ℕ, zero, suc, ◌+◌, ◌-◌, ◌<◌, ◌≤◌, Bool, true, false, if◌then◌else◌, ◌==◌, not, ltb, List, [], ◌∷◌}
use Rattle.std.specs.Prelude.{length, All}
use Rattle.std.specs.List.{position_or_len}
use Rattle.std.proofs.Common.{refl, sym, ap, ◌∙◌, arith}
use Rattle.std.proofs.lemmas.Bool.{eqb-true, eqb-false, eq-eqb, ne_eqb, lt-ltb, ltb-true, ltb-false, le-ltb, and_parts, or_parts, not-true}
use Rattle.std.proofs.lemmas.List.Elements.{All-head, All-tail}
use Rattle.sym_parts.specs.Laws.Fresh.{is_one_of, are_different}

-- the number at `there` comes to the first place, and those from the first up to it move up
abbrev pub moved : ℕ → ℕ → ℕ → ℕ
moved first there x = if x == there then first else (if ltb x first then x else (if ltb x there then suc x else x))

-- and back
abbrev pub moved_back : ℕ → ℕ → ℕ → ℕ
moved_back first there y = if y == first then there else (if ltb y first then y else (if ltb there y then y else y - 1))

module _ (first there : ℕ) (low : first ≤ there) where
  moved-there : (x : ℕ) → x ≡ there → moved first there x ≡ first
  moved-there x e = rw (eq-eqb x there e) refl

  moved-below : (x : ℕ) → x < first → moved first there x ≡ x
  moved-below x h = let other : (x == there) ≡ false = ne_eqb x there (λ e. omega arith) in rw (other, lt-ltb x first h) refl

  moved-up : (x : ℕ) → first ≤ x → x < there → moved first there x ≡ suc x
  moved-up x h k = let other : (x == there)
      ≡ false = ne_eqb x there (λ e. omega arith) in rw (other, le-ltb x first h, lt-ltb x there k) refl

  moved-above : (x : ℕ) → there < x → moved first there x ≡ x
  moved-above x h = let other : (x == there)
      ≡ false = ne_eqb x there (λ e. omega arith) in rw (other, le-ltb x first (omega arith), le-ltb x there (omega arith)) refl

  back-first : moved_back first there first ≡ there
  back-first = rw (eq-eqb first first refl) refl

  back-below : (y : ℕ) → y < first → moved_back first there y ≡ y
  back-below y h = let other : (y == first) ≡ false = ne_eqb y first (λ e. omega arith) in rw (other, lt-ltb y first h) refl

  back-down : (y : ℕ) → first < y → y ≤ there → moved_back first there y ≡ y - 1
  back-down y h k = let other : (y == first)
      ≡ false = ne_eqb y first (λ e. omega arith) in rw (other, le-ltb y first (omega arith), le-ltb there y k) refl

  back-above : (y : ℕ) → there < y → moved_back first there y ≡ y
  back-above y h = let other : (y == first)
      ≡ false = ne_eqb y first (λ e. omega arith) in rw (other, le-ltb y first (omega arith), lt-ltb there y h) refl

  moved-at_least : (x : ℕ) → first ≤ x → first ≤ moved first there x
  moved-at_least x h = by_there (x == there) refl
    where
      by_place : (b : Bool) → ltb x there ≡ b → x ≢ there → first ≤ moved first there x
      by_place true e other = rw (moved-up x h (ltb-true x there e)) (omega arith)
      by_place false e other =
          let past : there ≤ x = ltb-false x there e in
          let above : there < x = omega arith in
          rw (moved-above x above) h

      by_there : (b : Bool) → (x == there) ≡ b → first ≤ moved first there x
      by_there true e = rw (moved-there x (eqb-true x there e)) (omega arith)
      by_there false e = by_place (ltb x there) refl (eqb-false x there e)

  moved-under : (limit x : ℕ) → there < limit → x < limit → moved first there x < limit
  moved-under limit x inside h = by_there (x == there) refl
    where
      by_place : (b : Bool) → ltb x there ≡ b → x ≢ there → first ≤ x → moved first there x < limit
      by_place true e other low_x =
          let up : x < there = ltb-true x there e in
          rw (moved-up x low_x up) (omega arith)
      by_place false e other low_x =
          let past : there ≤ x = ltb-false x there e in
          let above : there < x = omega arith in
          rw (moved-above x above) h

      by_first : (b : Bool) → ltb x first ≡ b → x ≢ there → moved first there x < limit
      by_first true e other = rw (moved-below x (ltb-true x first e)) h
      by_first false e other = by_place (ltb x there) refl other (ltb-false x first e)

      by_there : (b : Bool) → (x == there) ≡ b → moved first there x < limit
      by_there true e = rw (moved-there x (eqb-true x there e)) (omega arith)
      by_there false e = by_first (ltb x first) refl (eqb-false x there e)

  moved-undone : (x : ℕ) → moved_back first there (moved first there x) ≡ x
  moved-undone x = by_there (x == there) refl
    where
      by_place : (b : Bool) → ltb x there ≡ b → x ≢ there → first ≤ x → moved_back first there (moved first there x) ≡ x
      by_place true e other low_x =
          let up : x < there = ltb-true x there e in
          rw (moved-up x low_x up, back-down (suc x) (omega arith) (omega arith)) (omega arith)
      by_place false e other low_x =
          let past : there ≤ x = ltb-false x there e in
          let above : there < x = omega arith in
          rw (moved-above x above, back-above x above) refl

      by_first : (b : Bool) → ltb x first ≡ b → x ≢ there → moved_back first there (moved first there x) ≡ x
      by_first true e other = rw (moved-below x (ltb-true x first e), back-below x (ltb-true x first e)) refl
      by_first false e other = by_place (ltb x there) refl other (ltb-false x first e)

      by_there : (b : Bool) → (x == there) ≡ b → moved_back first there (moved first there x) ≡ x
      by_there true e = rw (moved-there x (eqb-true x there e), back-first) (sym (eqb-true x there e))
      by_there false e = by_first (ltb x first) refl (eqb-false x there e)

  moved-redone : (y : ℕ) → moved first there (moved_back first there y) ≡ y
  moved-redone y = by_first (y == first) refl
    where
      by_place : (b : Bool) → ltb there y ≡ b → first < y → moved first there (moved_back first there y) ≡ y
      by_place true e low_y =
          let above : there < y = ltb-true there y e in
          rw (back-above y above, moved-above y above) refl
      by_place false e low_y =
          let past : y ≤ there = ltb-false there y e in
          rw (back-down y low_y past, moved-up (y - 1) (omega arith) (omega arith)) (omega arith)

      by_below : (b : Bool) → ltb y first ≡ b → y ≢ first → moved first there (moved_back first there y) ≡ y
      by_below true e other = rw (back-below y (ltb-true y first e), moved-below y (ltb-true y first e)) refl
      by_below false e other =
          let past : first ≤ y = ltb-false y first e in
          by_place (ltb there y) refl (omega arith)

      by_first : (b : Bool) → (y == first) ≡ b → moved first there (moved_back first there y) ≡ y
      by_first true e = rw (eqb-true y first e, back-first, moved-there there refl) refl
      by_first false e = by_below (ltb y first) refl (eqb-false y first e)

-- the numbers of the list come to the front, the last one first
abbrev pub to_front : ℕ → List ℕ → ℕ → ℕ
to_front first [] x = x
to_front first (y ∷ seen) x = moved first (to_front first seen y) (to_front first seen x)

-- and back
abbrev pub from_front : ℕ → List ℕ → ℕ → ℕ
from_front first [] x = x
from_front first (y ∷ seen) x = from_front first seen (moved_back first (to_front first seen y) x)

-- each of the numbers is at least the first
abbrev pub AreFrom : ℕ → List ℕ → Type 0
AreFrom first seen = All (λ y. first ≤ y) seen

module _ (first : ℕ) where
  pub front-at_least : (seen : List ℕ) → AreFrom first seen → (x : ℕ) → first ≤ x → first ≤ to_front first seen x
  front-at_least [] from x h = h
  front-at_least (y ∷ seen) from x h =
      let rest = All-tail (λ y. first ≤ y) y seen from in
      moved-at_least first (to_front first seen y) (front-at_least seen rest y (All-head (λ y. first ≤ y) y seen from))
      (to_front first seen x) (front-at_least seen rest x h)

  -- where the first of the list goes before it is moved
  there-low : (y : ℕ) (seen : List ℕ) → AreFrom first (y ∷ seen) → first ≤ to_front first seen y
  there-low y seen from = front-at_least seen (All-tail (λ y. first ≤ y) y seen from) y (All-head (λ y. first ≤ y) y seen from)

  pub front-below : (seen : List ℕ) → AreFrom first seen → (x : ℕ) → x < first → to_front first seen x ≡ x
  front-below [] from x h = refl
  front-below (y ∷ seen) from x h =
      let rest : to_front first seen x ≡ x = front-below seen (All-tail (λ y. first ≤ y) y seen from) x h in
      rw rest (moved-below first (to_front first seen y) (there-low y seen from) x h)

  pub front-undone : (seen : List ℕ) → AreFrom first seen → (x : ℕ) → from_front first seen (to_front first seen x) ≡ x
  front-undone [] from x = refl
  front-undone (y ∷ seen) from x =
      ap (from_front first seen) (moved-undone first (to_front first seen y) (there-low y seen from) (to_front first seen x))
      ∙ front-undone seen (All-tail (λ y. first ≤ y) y seen from) x

  pub front-redone : (seen : List ℕ) → AreFrom first seen → (y : ℕ) → to_front first seen (from_front first seen y) ≡ y
  front-redone [] from x = refl
  front-redone (y ∷ seen) from x =
      ap (moved first (to_front first seen y))
      (front-redone seen (All-tail (λ y. first ≤ y) y seen from) (moved_back first (to_front first seen y) x))
      ∙ moved-redone first (to_front first seen y) (there-low y seen from) x

  -- below a limit
  module _ (limit : ℕ) where
    pub front-under : (seen : List ℕ) → AreFrom first seen → All (λ y. y < limit) seen → (x : ℕ) → x < limit → to_front first seen x < limit
    front-under [] from under x h = h
    front-under (y ∷ seen) from under x h =
        let rest = All-tail (λ y. first ≤ y) y seen from in
        let few = All-tail (λ y. y < limit) y seen under in
        moved-under first (to_front first seen y) (there-low y seen from) limit (to_front first seen x)
        (front-under seen rest few y (All-head (λ y. y < limit) y seen under)) (front-under seen rest few x h)

    pub front-over : (seen : List ℕ) → AreFrom first seen → All (λ y. y < limit) seen → (x : ℕ) → limit ≤ x → to_front first seen x ≡ x
    front-over [] from under x h = refl
    front-over (y ∷ seen) from under x h =
        let rest = All-tail (λ y. first ≤ y) y seen from in
        let few = All-tail (λ y. y < limit) y seen under in
        let there : to_front first seen y < limit = front-under seen rest few y (All-head (λ y. y < limit) y seen under) in
        let same : to_front first seen x ≡ x = front-over seen rest few x h in
        rw same (moved-above first (to_front first seen y) (there-low y seen from) x (omega arith))

  -- a number that is not in the list goes behind all that are
  pub front-unseen : (seen : List ℕ) → AreFrom first seen → (x : ℕ) → first ≤ x → is_one_of seen x ≡ false → are_different seen ≡ true →
      first + length seen ≤ to_front first seen x
  front-unseen [] from x h new different = omega arith
  front-unseen (y ∷ seen) from x h new different =
      let rest = All-tail (λ y. first ≤ y) y seen from in
      let parts = or_parts (x == y) (is_one_of seen x) new in
      let apart = and_parts (not (is_one_of seen y)) (are_different seen) different in
      let there : first + length seen ≤ to_front first seen y =
      front-unseen seen rest y (All-head (λ y. first ≤ y) y seen from) (not-true (is_one_of seen y) apart.0) apart.1 in
      let here : first + length seen ≤ to_front first seen x = front-unseen seen rest x h parts.1 apart.1 in
      let other : to_front first seen x ≢ to_front first seen y =
      λ same. eqb-false x y parts.0 (sym (front-undone seen rest x) ∙ (ap (from_front first seen) same ∙ front-undone seen rest y)) in
      by_place (ltb (to_front first seen x) (to_front first seen y)) refl there here other (there-low y seen from)
    where
      by_place : (b : Bool) → ltb (to_front first seen x) (to_front first seen y) ≡ b → first + length seen ≤ to_front first seen y →
          first + length seen ≤ to_front first seen x →
          to_front first seen x ≢ to_front first seen y → first ≤ to_front first seen y →
          first + length (y ∷ seen) ≤ to_front first (y ∷ seen) x
      by_place true e there here other low =
          rw (moved-up first (to_front first seen y) low (to_front first seen x) (omega arith)
          (ltb-true (to_front first seen x) (to_front first seen y) e)) (omega arith)
      by_place false e there here other low =
          let past : to_front first seen y ≤ to_front first seen x = ltb-false (to_front first seen x) (to_front first seen y) e in
          let above : to_front first seen y < to_front first seen x = omega arith in
          rw (moved-above first (to_front first seen y) low (to_front first seen x) above) (omega arith)

  -- different numbers from the first up to a limit are at most so many
  pub front-fit : (limit : ℕ) → first ≤ limit → (seen : List ℕ) → AreFrom first seen → All (λ y. y < limit) seen →
      are_different seen ≡ true → first + length seen ≤ limit
  front-fit limit inside [] from under different = omega arith
  front-fit limit inside (y ∷ seen) from under different =
      let rest = All-tail (λ y. first ≤ y) y seen from in
      let few = All-tail (λ y. y < limit) y seen under in
      let apart = and_parts (not (is_one_of seen y)) (are_different seen) different in
      let there : first + length seen ≤ to_front first seen y =
      front-unseen seen rest y (All-head (λ y. first ≤ y) y seen from) (not-true (is_one_of seen y) apart.0) apart.1 in
      let under_limit : to_front first seen y < limit = front-under limit seen rest few y (All-head (λ y. y < limit) y seen under) in
      omega arith

  -- a number of the list has the number of its place
  pub front-place : (seen : List ℕ) → AreFrom first seen → are_different seen ≡ true → (x place : ℕ) →
      position_or_len (λ y. x == y) seen ≡ place → place < length seen → to_front first seen x ≡ first + place
  front-place [] from different x place is inside = absurd (omega arith)
  front-place (y ∷ seen) from different x place is inside =
      let rest = All-tail (λ y. first ≤ y) y seen from in
      let apart = and_parts (not (is_one_of seen y)) (are_different seen) different in
      let there : first + length seen ≤ to_front first seen y =
      front-unseen seen rest y (All-head (λ y. first ≤ y) y seen from) (not-true (is_one_of seen y) apart.0) apart.1 in
      by_test (x == y) refl place is inside there (there-low y seen from) (λ k e l. front-place seen rest apart.1 x k e l)
    where
      by_test : (b : Bool) → (x == y) ≡ b → (place : ℕ) → position_or_len (λ z. x == z) (y ∷ seen) ≡ place → place < length (y ∷ seen) →
          first + length seen ≤ to_front first seen y → first ≤ to_front first seen y →
          ((k : ℕ) → position_or_len (λ z. x == z) seen ≡ k → k < length seen → to_front first seen x ≡ first + k) →
          to_front first (y ∷ seen) x ≡ first + place
      by_test true e place is inside there low go_on =
          let zero_place : 0 ≡ place = rw e at is in
          let same : to_front first seen x ≡ to_front first seen y = ap (to_front first seen) (eqb-true x y e) in
          moved-there first (to_front first seen y) low (to_front first seen x) same ∙ omega arith
      by_test false e zero is inside there low go_on =
          let wrong : 1 + position_or_len (λ z. x == z) seen ≡ zero = rw e at is in absurd (omega arith)
      by_test false e (suc k) is inside there low go_on =
          let next : 1 + position_or_len (λ z. x == z) seen ≡ suc k = rw e at is in
          let here : to_front first seen x ≡ first + k = go_on k (omega arith) (omega arith) in
          let up : to_front first seen x < to_front first seen y = omega arith in
          moved-up first (to_front first seen y) low (to_front first seen x) (omega arith) up ∙ omega arith
