-- Whom a component calls stands before it.
use Rattle.std.proofs.Common.{◌≡◌, ℕ, zero, suc, ◌<◌, ◌≤◌, ◌==◌, Bool, true, false, cond, ◌||◌, not, List, [], ◌∷◌, ◌++◌, length, slice_get}
use Rattle.std.proofs.Common.{Some, None, Option, refl, sym, ap, ◌∙◌, subst, ⊎_elim, ◌⊎◌, inl, inr, filter, filter_map, find, arith}
use Rattle.std.specs.List.{list_any, list_all, cons_option}
use Rattle.std.proofs.lemmas.Bool.Decides.{Decides-eqb}
use Rattle.std.proofs.lemmas.Option.{slice_get_within}
use Rattle.shape_data.specs.declared.program.Flow.{Flow}
use Rattle.shape_data.specs.declared.program.Program.{Program}
use Rattle.component_keys.specs.Components.{same_names, names_at, is_next, with_next, listed_after, components, classes, by_name, holds}
use Rattle.component_keys.specs.Components.{calls_of}
use Rattle.component_keys.specs.Keys.{Component, Outer, is_outer, outer_at, place_of, component_of, program_components, flows_of, names_of}
use Rattle.component_keys.specs.Keys.{calls_in}
use Rattle.component_keys.proofs.Basics.{both_true, one_true, not_true, not_none, some_same, mapped_some, at_left, at_push, at_map, found}

pub some_passes : {X : Type 0} (p : X → Bool) (xs : List X) → list_any p xs ≡ true →
    (i : ℕ) × (x : X) × (slice_get xs i ≡ Some x) × (p x ≡ true)
some_passes p [] e = cc
some_passes p (x ∷ xs) e =
    ⊎_elim (λ first. (0, x, refl, first)) (λ later. let rest = some_passes p xs later in (suc rest.0, rest.1, rest.2, rest.3))
    (one_true (p x) (list_any p xs) e)

pub each_passes : {X : Type 0} (p : X → Bool) (xs : List X) (i : ℕ) (x : X) → list_all p xs ≡ true → slice_get xs i ≡ Some x → p x ≡ true
each_passes p [] i x e at = not_none at
each_passes p (first ∷ xs) zero x e at = subst (λ y. p y ≡ true) (some_same at) (both_true (p first) (list_all p xs) e).0
each_passes p (first ∷ xs) (suc i) x e at = each_passes p xs i x (both_true (p first) (list_all p xs) e).1 at

-- whom a class calls is in it or stands before it
abbrev pub IsInOrBefore : List (List ℕ) → ℕ → List ℕ → ℕ → Type 0
IsInOrBefore listed i class callee =
    (holds class callee ≡ true) ⊎ ((j : ℕ) × (other : List ℕ) × (j < i) × (slice_get listed j ≡ Some other) × (holds other callee ≡ true))

abbrev pub AreInOrder : List (List ℕ) → List (List ℕ) → Type 0
AreInOrder calls listed = (i : ℕ) (class : List ℕ) (k number callee : ℕ) → slice_get listed i ≡ Some class →
    slice_get class k ≡ Some number → holds (calls_of calls number) callee ≡ true →
    IsInOrBefore listed i class callee

-- a callee that is held stands at a place
pub held_at : (numbers : List ℕ) (number : ℕ) → holds numbers number ≡ true → (i : ℕ) × (slice_get numbers i ≡ Some number)
held_at numbers number e =
    let one = some_passes (λ other. other == number) numbers e in
    (one.0, one.2 ∙ ap (λ n. Some n) ((Decides-eqb one.1 number).0 one.3))

AreInOrder-push : (calls listed : List (List ℕ)) (class : List ℕ) →
    list_all (λ number. list_all (λ callee. holds class callee || list_any (λ other. holds other callee) listed)
    (calls_of calls number)) class ≡ true →
    AreInOrder calls listed → AreInOrder calls (listed ++ class ∷ [])
AreInOrder-push calls listed class ready ordered i c k number callee at member calls_it =
    ⊎_elim
    (λ old. ⊎_elim inl (λ before. inr (before.0, before.1, before.2, at_left listed (class ∷ []) before.0 before.1 before.3, before.4))
    (ordered i c k number callee old member calls_it))
    (λ last.
    let is_class : c ≡ class = last.1 in
    let here : slice_get class k ≡ Some number = ap (λ d. slice_get d k) (sym is_class) ∙ member in
    let place = held_at (calls_of calls number) callee calls_it in
    let test : (holds class callee || list_any (λ other. holds other callee) listed) ≡ true =
    each_passes (λ n. holds class n || list_any (λ other. holds other n) listed) (calls_of calls number) place.0 callee
    (each_passes
    (λ n. list_all (λ m. holds class m || list_any (λ other. holds other m) listed)
    (calls_of calls n)) class k number ready here) place.1 in
    ⊎_elim (λ own. inl (ap (λ d. holds d callee) is_class ∙ own))
    (λ earlier.
    let one = some_passes (λ other. holds other callee) listed earlier in
    let lt : one.0 < length listed = slice_get_within listed one.0 one.1 one.2 in
    inr (one.0, one.1, omega (arith, lt, last.0), at_left listed (class ∷ []) one.0 one.1 one.2, one.3))
    (one_true (holds class callee) _ test))
    (at_push listed class i c at)

AreInOrder-listed : (turns : ℕ) (names calls all listed : List (List ℕ)) → AreInOrder calls listed →
    AreInOrder calls (listed_after turns names calls all listed)
AreInOrder-listed zero names calls all listed ordered = ordered
AreInOrder-listed (suc turns) names calls all listed ordered =
    by_found (find (is_next names calls listed) all) refl (AreInOrder-listed turns names calls all)
  where
    by_found : (o : Option (List ℕ)) → find (is_next names calls listed) all ≡ o →
        ((more : List (List ℕ)) → AreInOrder calls more → AreInOrder calls (listed_after turns names calls all more)) →
        AreInOrder calls (with_next (listed_after turns names calls all) listed o)
    by_found None e again = ordered
    by_found (Some class) e again =
        again (listed ++ class ∷ []) (AreInOrder-push calls listed class
        (both_true (not (list_any (λ other. same_names (names_at names other) (names_at names class)) listed)) _
        (found (is_next names calls listed) all class e).0).1 ordered)

pub components_in_order : (names calls : List (List ℕ)) → AreInOrder calls (components names calls)
unfolding components
components_in_order names calls =
    AreInOrder-listed (length names) names calls (classes calls (by_name names (length names))) []
    (λ i class k number callee at member calls_it. not_none at)

place_before : (number : ℕ) (all : List (List ℕ)) (j : ℕ) (class : List ℕ) → slice_get all j ≡ Some class → holds class number ≡ true →
    place_of number all ≤ j
place_before number [] j class at held = not_none at
place_before number (first ∷ others) zero class at held =
    rw (subst (λ c. holds c number ≡ true) (sym (some_same at)) held) (omega arith)
place_before number (first ∷ others) (suc j) class at held = by_test (holds first number) (place_before number others j class at held)
  where
    by_test : (b : Bool) → place_of number others ≤ j → cond b zero (suc (place_of number others)) ≤ suc j
    by_test true le = omega arith
    by_test false le = omega (arith, le)

-- what a filter with a function keeps comes from an element that passes
mapped_from : {X Y : Type 0} (f : X → Option Y) (p : X → Bool) (xs : List X) (k : ℕ) (y : Y) →
    slice_get (filter_map f (filter p xs)) k ≡ Some y → (x : X) × (p x ≡ true) × (f x ≡ Some y)
mapped_from f p [] k y e = not_none e
mapped_from {X = X} {Y = Y} f p (x ∷ xs) k y e = by_test (p x) refl (f x) refl (mapped_from f p xs) k e
  where
    by_test : (b : Bool) → p x ≡ b → (o : Option Y) → f x ≡ o →
        ((n : ℕ) (z : Y) → slice_get (filter_map f (filter p xs)) n ≡ Some z → (x : X) × (p x ≡ true) × (f x ≡ Some z)) →
        (n : ℕ) → slice_get (filter_map f (cond b (x ∷ filter p xs) (filter p xs))) n ≡ Some y → (x : X) × (p x ≡ true) × (f x ≡ Some y)
    by_test false t o is again n at = again n y at
    by_test true t None is again n at = again n y (subst (λ r. slice_get (cons_option r (filter_map f (filter p xs))) n ≡ Some y) is at)
    by_test true t (Some z) is again zero at =
        (x, t, is ∙ subst (λ r. slice_get (cons_option r (filter_map f (filter p xs))) zero ≡ Some y) is at)
    by_test true t (Some z) is again (suc n) at =
        again n y (subst (λ r. slice_get (cons_option r (filter_map f (filter p xs))) (suc n) ≡ Some y) is at)

-- each procedure outside that a component calls is of a component before it
pub callees_before : (program : Program) (i k : ℕ) (part : Component) (outer : Outer) →
    slice_get (program_components program) i ≡ Some part → slice_get part.outer k ≡ Some outer → outer.component < i
unfolding program_components
callees_before program i k part outer at member =
    let flows : List Flow = flows_of program in
    let calls : List (List ℕ) = calls_in flows in
    let all : List (List ℕ) = components (names_of flows) calls in
    let class =
    mapped_some (component_of flows calls all) (slice_get all i) part (sym (at_map (component_of flows calls all) all i) ∙ at) in
    let from =
    mapped_from (outer_at flows all) (is_outer calls class.0) (by_name (names_of flows) (length flows)) k outer
    (ap (λ p. slice_get p.outer k) (sym class.2) ∙ member) in
    let flow = mapped_some _ (slice_get flows from.0) outer from.2 in
    let tests = both_true (not (holds class.0 from.0)) _ from.1 in
    let caller = some_passes (λ one. holds (calls_of calls one) from.0) class.0 tests.1 in
    let before : (j : ℕ) × (other : List ℕ) × (j < i) × (slice_get all j ≡ Some other) × (holds other from.0 ≡ true) =
    ⊎_elim (λ own. absurd (let away : holds class.0 from.0 ≡ false = not_true (holds class.0 from.0) tests.0 in cc)) (λ b. b)
    (components_in_order (names_of flows) calls i class.0 caller.0 caller.1 from.0 class.1 caller.2 caller.3) in
    let least : place_of from.0 all ≤ before.0 = place_before from.0 all before.0 before.1 before.3 before.4 in
    let is_place : outer.component ≡ place_of from.0 all = ap (λ o. o.component) flow.2 in
    omega (arith, least, is_place, before.2)
