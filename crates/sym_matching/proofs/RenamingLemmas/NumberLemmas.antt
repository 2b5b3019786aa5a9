-- New numbers are existential, free and different; and an assignment can give them values.
use Rattle.std.specs.Prelude.{◌≡◌, ℕ, zero, suc, ◌+◌, ◌<◌, ◌≤◌, ◌==◌, ℤ, Bool, true, false, not, ◌&&◌, List, [], ◌∷◌, ◌++◌, length, map}
use Rattle.std.proofs.Common.{refl, sym, subst, ◌∙◌, arith, ⊎_elim}
use Rattle.std.proofs.lemmas.Bool.{and_parts, eqb-true, eq-eqb, not-true, or_cases, or_right}
use Rattle.std.proofs.lemmas.List.{length-map, length_push}
use Rattle.std.proofs.lemmas.List.Elements.{All-cons, All-nil}
use Rattle.shape_data.specs.declared.symbolic.Exp.TheVariants.{Var}
use Rattle.shape_data.specs.Meaning.{value}
use Rattle.sym_parts.specs.Laws.Fresh.{are_different, is_one_of}
use Rattle.sym_matching.specs.Laws.{AgreesOn}
use Rattle.sym_matching.specs.NewVariables.{at_its_place, distinct, distinct_behind, fresh, fresh_variables}
use Rattle.sym_matching.proofs.KeptLaws.{one_of-first, one_of-left, one_of-right}
use Rattle.sym_matching.proofs.NewNumberLaws.{distinct-has, place-none}
use Rattle.sym_matching.proofs.NewVariableLaws.{fresh_existential, fresh_free, fresh_values, length-fresh_variables, with_values}
use Rattle.sym_matching.proofs.RoomLaws.{free_near}
use Rattle.sym_matching.specs.declared.renaming.parts.Numbers.{Numbers}
use Rattle.sym_matching.specs.Renaming.Apart.{number_of, numbers_apart}
use Rattle.sym_matching.specs.Renaming.Laws.{NumbersAreApart}
use Rattle.sym_matching.specs.Renaming.Sizes.{AreSmall}

-- ---- each once

few_behind : (xs names : List ℕ) → length (distinct_behind names xs) ≤ length names + length xs
few_behind [] names = omega arith
few_behind (x ∷ xs) names = by_test (is_one_of names x) refl (few_behind xs names) (few_behind xs (names ++ x ∷ []))
  where
    by_test : (b : Bool) → is_one_of names x ≡ b → length (distinct_behind names xs) ≤ length names + length xs →
        length (distinct_behind (names ++ x ∷ []) xs) ≤ length (names ++ x ∷ []) + length xs →
        length (distinct_behind names (x ∷ xs)) ≤ length names + length (x ∷ xs)
    by_test true e there new = rw e (omega arith)
    by_test false e there new = let more : length (names ++ x ∷ []) ≡ length names + 1 = length_push names x in rw e (omega arith)

pub few_distinct : (xs : List ℕ) → length (distinct xs) ≤ length xs
few_distinct xs = let all : length (distinct_behind [] xs) ≤ 0 + length xs = few_behind xs [] in omega arith

-- ---- new variables

unless_true : (a b : Bool) → (a ≡ true → b ≡ true) → b ≡ false → a ≡ false
unless_true true b from is = let wrong : b ≡ true = from refl in cc
unless_true false b from is = refl

-- a new variable is existential, and not in use
pub fresh_new : (count : ℕ) (used : List ℕ) (x : ℕ) → is_one_of (fresh_variables count used) x ≡ true →
    (65536 ≤ x) × (is_one_of used x ≡ false)
fresh_new zero used x is = cc
fresh_new (suc count) used x is =
    ⊎_elim here (λ h. after (fresh_new count (used ++ fresh used ∷ []) x h))
    (or_cases (x == fresh used) (is_one_of (fresh_variables count (used ++ fresh used ∷ [])) x) is)
  where
    here : (x == fresh used) ≡ true → (65536 ≤ x) × (is_one_of used x ≡ false)
    here h = let same : x ≡ fresh used = eqb-true x (fresh used) h in rw same (fresh_existential used, fresh_free used)

    after : (65536 ≤ x) × (is_one_of (used ++ fresh used ∷ []) x ≡ false) → (65536 ≤ x) × (is_one_of used x ≡ false)
    after later =
        (later.0, unless_true (is_one_of used x) (is_one_of (used ++ fresh used ∷ []) x) (one_of-left used (fresh used ∷ []) x) later.1)

pub fresh_different : (count : ℕ) (used : List ℕ) → are_different (fresh_variables count used) ≡ true
fresh_different zero used = refl
fresh_different (suc count) used =
    by_test (is_one_of (fresh_variables count (used ++ fresh used ∷ [])) (fresh used)) refl
    (fresh_different count (used ++ fresh used ∷ []))
  where
    by_test : (b : Bool) → is_one_of (fresh_variables count (used ++ fresh used ∷ [])) (fresh used) ≡ b →
        are_different (fresh_variables count (used ++ fresh used ∷ [])) ≡ true →
        (not b && are_different (fresh_variables count (used ++ fresh used ∷ []))) ≡ true
    by_test true e later =
        let never : is_one_of (used ++ fresh used ∷ []) (fresh used) ≡ false =
        (fresh_new count (used ++ fresh used ∷ []) (fresh used) e).1 in
        let there : is_one_of (used ++ fresh used ∷ []) (fresh used) ≡ true =
        one_of-right used (fresh used ∷ []) (fresh used) (one_of-first (fresh used) []) in
        cc
    by_test false e later = later

-- a new variable is below 65,536 plus how many there are and are in use
pub fresh_near : (count : ℕ) (used : List ℕ) (x : ℕ) → is_one_of (fresh_variables count used) x ≡ true → x < 65536 + length used + count
fresh_near zero used x is = cc
fresh_near (suc count) used x is =
    ⊎_elim here (λ h. after (fresh_near count (used ++ fresh used ∷ []) x h))
    (or_cases (x == fresh used) (is_one_of (fresh_variables count (used ++ fresh used ∷ [])) x) is)
  where
    here : (x == fresh used) ≡ true → x < 65536 + length used + suc count
    here h =
        let same : x ≡ fresh used = eqb-true x (fresh used) h in
        let near : fresh used ≤ 65536 + length used = free_near (length used) 65536 used in
        omega arith

    after : x < 65536 + length (used ++ fresh used ∷ []) + count → x < 65536 + length used + suc count
    after later = let more : length (used ++ fresh used ∷ []) ≡ length used + 1 = length_push used (fresh used) in omega arith

-- so new numbers are small where few are in use
pub fresh_small : (count : ℕ) (used : List ℕ) → 65536 + length used + count ≤ 2147483648 → AreSmall (fresh_variables count used)
fresh_small zero used room = All-nil (λ x. x < 2147483648)
fresh_small (suc count) used room =
    let near : fresh used ≤ 65536 + length used = free_near (length used) 65536 used in
    let more : length (used ++ fresh used ∷ []) ≡ length used + 1 = length_push used (fresh used) in
    All-cons (λ x. x < 2147483648) (fresh used) (fresh_variables count (used ++ fresh used ∷ [])) (omega arith)
    (fresh_small count (used ++ fresh used ∷ []) (omega arith))

-- ---- places

-- a listed variable has one of the numbers
pub place-in : (variables numbers : List ℕ) (x : ℕ) → length numbers ≡ length variables → is_one_of variables x ≡ true →
    is_one_of numbers (at_its_place variables numbers x) ≡ true
place-in [] numbers x same is = cc
place-in (variable ∷ variables) [] x same is = absurd (omega arith)
place-in (variable ∷ variables) (number ∷ numbers) x same is = by_test (x == variable) refl (place-in variables numbers x (omega arith))
  where
    by_test : (b : Bool) → (x == variable) ≡ b →
        (is_one_of variables x ≡ true → is_one_of numbers (at_its_place variables numbers x) ≡ true) →
        is_one_of (number ∷ numbers) (at_its_place (variable ∷ variables) (number ∷ numbers) x) ≡ true
    by_test true e later =
        let same_place : number ≡ at_its_place (variable ∷ variables) (number ∷ numbers) x = rw e refl in
        subst (λ y. is_one_of (number ∷ numbers) y ≡ true) same_place (one_of-first number numbers)
    by_test false e later =
        let rest : is_one_of variables x ≡ true = rw e at is in
        let same_place : at_its_place variables numbers x ≡ at_its_place (variable ∷ variables) (number ∷ numbers) x = rw e refl in
        subst (λ y. is_one_of (number ∷ numbers) y ≡ true) same_place
        (or_right (at_its_place variables numbers x == number) (is_one_of numbers (at_its_place variables numbers x)) (later rest))

pub eqb_false : (x y : ℕ) → (x ≡ y → ⊥) → (x == y) ≡ false
eqb_false x y apart = by_test (x == y) refl
  where
    by_test : (b : Bool) → (x == y) ≡ b → b ≡ false
    by_test true e = absurd (apart (eqb-true x y e))
    by_test false e = refl

-- different numbers can be undone
pub place-undone : (variables numbers : List ℕ) (x : ℕ) → length numbers ≡ length variables → are_different numbers ≡ true →
    is_one_of variables x ≡ true →
    at_its_place numbers variables (at_its_place variables numbers x) ≡ x
place-undone [] numbers x same different is = cc
place-undone (variable ∷ variables) [] x same different is = absurd (omega arith)
place-undone (variable ∷ variables) (number ∷ numbers) x same different is =
    by_test (x == variable) refl (place-undone variables numbers x (omega arith) parts.1) (place-in variables numbers x (omega arith))
  where
    parts : (not (is_one_of numbers number) ≡ true) × (are_different numbers ≡ true)
    parts = and_parts (not (is_one_of numbers number)) (are_different numbers) different

    by_test : (b : Bool) → (x == variable) ≡ b →
        (is_one_of variables x ≡ true → at_its_place numbers variables (at_its_place variables numbers x) ≡ x) →
        (is_one_of variables x ≡ true → is_one_of numbers (at_its_place variables numbers x) ≡ true) →
        at_its_place (number ∷ numbers) (variable ∷ variables) (at_its_place (variable ∷ variables) (number ∷ numbers) x) ≡ x
    by_test true e later there = let same_one : x ≡ variable = eqb-true x variable e in rw (e, eq-eqb number number refl) (sym same_one)
    by_test false e later there =
        let rest : is_one_of variables x ≡ true = rw e at is in
        let other : (at_its_place variables numbers x == number) ≡ false =
        eqb_false (at_its_place variables numbers x) number
        (λ one. let none : is_one_of numbers number ≡ false = not-true (is_one_of numbers number) parts.0 in
        let some : is_one_of numbers number ≡ true = subst (λ y. is_one_of numbers y ≡ true) one (there rest) in
        absurd (true_false some none)) in
        rw (e, other) (later rest)
      where
        true_false : {b : Bool} → b ≡ true → b ≡ false → ⊥
        true_false yes_is no_is = let wrong : true ≡ false = sym yes_is ∙ no_is in cc

-- ---- numbers

pub numbers_are_apart : NumbersAreApart
numbers_are_apart used variables = record {
  existential = λ x is. (new x is).0;
  free = λ x is. (new x is).1;
  undone = λ x is. place-undone names numbers x lengths (fresh_different (length names) used) (listed x is);
  near = λ x is. let near : number_of apart x
      < 65536 + length used + length names = fresh_near (length names) used (number_of apart x) (numbered x is) in
      let few : length names ≤ length variables = few_distinct variables in omega arith;
  others = λ x none. place-none names numbers x (distinct-has variables x ∙ none);
}
  where
    apart : Numbers
    apart = numbers_apart used variables

    names : List ℕ
    names = distinct variables

    numbers : List ℕ
    numbers = fresh_variables (length names) used

    lengths : length numbers ≡ length names
    lengths = length-fresh_variables (length names) used

    listed : (x : ℕ) → is_one_of variables x ≡ true → is_one_of names x ≡ true
    listed x is = distinct-has variables x ∙ is

    numbered : (x : ℕ) → is_one_of variables x ≡ true → is_one_of numbers (number_of apart x) ≡ true
    numbered x is = place-in names numbers x lengths (listed x is)

    new : (x : ℕ) → is_one_of variables x ≡ true → (65536 ≤ number_of apart x) × (is_one_of used (number_of apart x) ≡ false)
    new x is = fresh_new (length names) used (number_of apart x) (numbered x is)

-- ---- values

placed_value : (variables numbers : List ℕ) (w f : ℕ → ℤ) → map (value w) (map Var numbers) ≡ map f variables → (x : ℕ) →
    is_one_of variables x ≡ true → w (at_its_place variables numbers x) ≡ f x
placed_value [] numbers w f same x is = cc
placed_value (variable ∷ variables) [] w f same x is = cc
placed_value (variable ∷ variables) (number ∷ numbers) w f same x is =
    by_test (x == variable) refl (placed_value variables numbers w f others x)
  where
    others : map (value w) (map Var numbers) ≡ map f variables
    others = cc

    first : w number ≡ f variable
    first = cc

    by_test : (b : Bool) → (x == variable) ≡ b → (is_one_of variables x ≡ true → w (at_its_place variables numbers x) ≡ f x) →
        w (at_its_place (variable ∷ variables) (number ∷ numbers) x) ≡ f x
    by_test true e later = let same_one : x ≡ variable = eqb-true x variable e in rw (e, same_one) first
    by_test false e later = let rest : is_one_of variables x ≡ true = rw e at is in rw e (later rest)

-- the assignment under which each variable's new number has a value, and what is in use keeps its own
pub renumbered_values : (used variables : List ℕ) (t f : ℕ → ℤ) →
    (w : ℕ → ℤ) × AgreesOn used t w × ((x : ℕ) → is_one_of variables x ≡ true → w (number_of (numbers_apart used variables) x) ≡ f x)
renumbered_values used variables t f =
    let names : List ℕ = distinct variables in
    let numbers : List ℕ = fresh_variables (length names) used in
    let given = fresh_values (length names) used t (map f names) (length-map names f) in (
      with_values t numbers (map f names),
      given.0,
      λ x is. placed_value names numbers (with_values t numbers (map f names)) f given.1 x
          (distinct-has variables x ∙ is),
    )
