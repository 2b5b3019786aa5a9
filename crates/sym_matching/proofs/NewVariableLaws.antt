-- New variables are in no use, and an assignment can give them values.
use Rattle.std.specs.Prelude.{◌≡◌, ◌≢◌, ℕ, zero, suc, ◌==◌, ◌+◌, ◌<◌, ◌≤◌, ltb, ℤ, Bool, true, false, not, if◌then◌else◌, List, [], ◌∷◌}
use Rattle.std.specs.Prelude.{◌++◌, length, map, filter}
use Rattle.std.proofs.Common.{refl, sym, ◌∙◌, arith, ⊎_elim}
use Rattle.std.proofs.lemmas.Bool.{eqb-true, eq-eqb, or_cases, ltb-true}
use Rattle.shape_data.specs.declared.symbolic.Exp.TheVariants.{Var}
use Rattle.shape_data.specs.Meaning.{value}
use Rattle.sym_parts.specs.Laws.Fresh.{is_one_of}
use Rattle.sym_matching.specs.Laws.{is_kept, AgreesOn}
use Rattle.sym_matching.specs.NewVariables.{first_free, fresh, fresh_variables}
use Rattle.sym_matching.proofs.KeptLaws.{one_of-left, one_of-right, one_of-first, kept-more, kept-name}

-- the names without one of them
abbrev without_name : ℕ → List ℕ → List ℕ
without_name x used = filter (λ y. not (x == y)) used

no_longer : (x : ℕ) (used : List ℕ) → length (without_name x used) ≤ length used
no_longer x [] = omega arith
no_longer x (y ∷ used) = by_test (no_longer x used) (x == y) refl
  where
    by_test : length (without_name x used) ≤ length used → (b : Bool) → (x == y) ≡ b →
        length (without_name x (y ∷ used)) ≤ length (y ∷ used)
    by_test later true e = rw e (omega arith)
    by_test later false e = rw e (omega arith)

shorter : (x : ℕ) (used : List ℕ) → is_one_of used x ≡ true → length (without_name x used) < length used
shorter x [] h = cc
shorter x (y ∷ used) h = by_test (shorter x used) (x == y) refl
  where
    by_test : (is_one_of used x ≡ true → length (without_name x used) < length used) → (b : Bool) → (x == y) ≡ b →
        length (without_name x (y ∷ used)) < length (y ∷ used)
    by_test later true e = let l : length (without_name x used) ≤ length used = no_longer x used in rw e (omega arith)
    by_test later false e =
        let rest : is_one_of used x ≡ true = rw e at h in
        let l : length (without_name x used) < length used = later rest in
        rw e (omega arith)

used_without : (x z : ℕ) (used : List ℕ) → x ≢ z → is_one_of (without_name x used) z ≡ is_one_of used z
used_without x z [] apart = refl
used_without x z (y ∷ used) apart = by_test (used_without x z used apart) (x == y) refl (z == y) refl
  where
    by_test : is_one_of (without_name x used) z ≡ is_one_of used z → (b : Bool) → (x == y) ≡ b → (d : Bool) → (z == y) ≡ d →
        is_one_of (without_name x (y ∷ used)) z ≡ is_one_of (y ∷ used) z
    by_test later true e true f = absurd (apart (eqb-true x y e ∙ sym (eqb-true z y f)))
    by_test later true e false f = rw (e, f) later
    by_test later false e true f = rw (e, f) refl
    by_test later false e false f = rw (e, f) later

none_in_empty : (used : List ℕ) (z : ℕ) → length used ≤ 0 → is_one_of used z ≡ false
none_in_empty [] z h = refl
none_in_empty (y ∷ used) z h = absurd (omega arith)

same_free : (turns x : ℕ) (used other : List ℕ) → ((y : ℕ) → x ≤ y → is_one_of other y ≡ is_one_of used y) →
    first_free turns x other ≡ first_free turns x used
same_free zero x used other same = refl
same_free (suc turns) x used other same =
    let here : is_one_of other x ≡ is_one_of used x = same x (omega arith) in
    let later : first_free turns (x + 1) other ≡ first_free turns (x + 1) used =
    same_free turns (x + 1) used other (λ y above. same y (omega arith)) in
    rw (here, later) refl

-- the least number from x on that is free is at least x, and in no use
pub least_free : (turns x : ℕ) (used : List ℕ) → length used ≤ turns →
    (x ≤ first_free turns x used) × (is_one_of used (first_free turns x used) ≡ false)
least_free zero x used room = (omega arith, none_in_empty used x room)
least_free (suc turns) x used room = by_test (least_free turns (x + 1) (without_name x used)) (is_one_of used x) refl
  where
    by_test : (length (without_name x used) ≤ turns →
        (x + 1 ≤ first_free turns (x + 1) (without_name x used))
        × (is_one_of (without_name x used) (first_free turns (x + 1) (without_name x used)) ≡ false)) → (b : Bool) → is_one_of used x ≡ b →
        (x ≤ first_free (suc turns) x used) × (is_one_of used (first_free (suc turns) x used) ≡ false)
    by_test later true e =
        let l : length (without_name x used) < length used = shorter x used e in
        let small : length (without_name x used) ≤ turns = omega arith in
        let same : first_free turns (x + 1) (without_name x used) ≡ first_free turns (x + 1) used =
        same_free turns (x + 1) used (without_name x used) (λ y above. used_without x y used (omega arith)) in
        let found : (x + 1 ≤ first_free turns (x + 1) used) × (is_one_of (without_name x used) (first_free turns (x + 1) used) ≡ false) =
        rw same at (later small) in
        let above : x + 1 ≤ first_free turns (x + 1) used = found.0 in
        rw e (omega arith, sym (used_without x (first_free turns (x + 1) used) used (omega arith)) ∙ found.1)
    by_test later false e = rw e (omega arith, e)

pub fresh_free : (used : List ℕ) → is_one_of used (fresh used) ≡ false
fresh_free used = (least_free (length used) 65536 used (omega arith)).1

pub fresh_existential : (used : List ℕ) → 65536 ≤ fresh used
fresh_existential used = (least_free (length used) 65536 used (omega arith)).0

pub length-fresh_variables : (count : ℕ) (used : List ℕ) → length (fresh_variables count used) ≡ count
length-fresh_variables zero used = refl
length-fresh_variables (suc count) used = let later : length (fresh_variables count (used ++ fresh used ∷ []))
    ≡ count = length-fresh_variables count (used ++ fresh used ∷ []) in omega arith

-- ---- assignments

-- the assignment with a value for a variable
abbrev pub with_value : (ℕ → ℤ) → ℕ → ℤ → ℕ → ℤ
with_value s x n y = if x == y then n else s y

-- and with values for several
abbrev pub with_values : (ℕ → ℤ) → List ℕ → List ℤ → ℕ → ℤ
with_values s [] ns = s
with_values s (x ∷ xs) [] = s
with_values s (x ∷ xs) (n ∷ ns) = with_values (with_value s x n) xs ns

-- a new variable is not kept
not_kept : (used : List ℕ) → is_kept used (fresh used) ≡ true → ⊥
not_kept used h =
    ⊎_elim (λ low. let under : fresh used < 65536 = ltb-true (fresh used) 65536 low in let above : 65536
    ≤ fresh used = fresh_existential used in omega arith)
    (λ is. let free : is_one_of used (fresh used) ≡ false = fresh_free used in cc)
    (or_cases (ltb (fresh used) 65536) (is_one_of used (fresh used)) h)

with_value-agrees : (s : ℕ → ℤ) (n : ℤ) (used : List ℕ) → AgreesOn used s (with_value s (fresh used) n)
with_value-agrees s n used y h = by_test (fresh used == y) refl
  where
    by_test : (b : Bool) → (fresh used == y) ≡ b → with_value s (fresh used) n y ≡ s y
    by_test true e = let same : fresh used ≡ y = eqb-true (fresh used) y e in absurd (not_kept used (rw same h))
    by_test false e = rw e refl

-- the new variables get the values, and what is kept keeps its value
pub fresh_values : (count : ℕ) (used : List ℕ) (s : ℕ → ℤ) (ns : List ℤ) → length ns ≡ count →
    AgreesOn used s (with_values s (fresh_variables count used) ns)
    × (map (value (with_values s (fresh_variables count used) ns)) (map Var (fresh_variables count used)) ≡ ns)
fresh_values zero used s [] is = (λ x h. refl, refl)
fresh_values zero used s (n ∷ ns) is = cc
fresh_values (suc count) used s [] is = cc
fresh_values (suc count) used s (n ∷ ns) is =
    let x : ℕ = fresh used in
    let later = fresh_values count (used ++ x ∷ []) (with_value s x n) ns (omega arith) in
    let here : with_values (with_value s x n) (fresh_variables count (used ++ x ∷ [])) ns x ≡ n =
    later.0 x (kept-name (used ++ x ∷ []) x (one_of-right used (x ∷ []) x (one_of-first x []))) ∙ rw (eq-eqb x x refl) refl in (
      λ y h. later.0 y (kept-more used (used ++ x ∷ []) (one_of-left used (x ∷ [])) y h)
          ∙ with_value-agrees s n used y h,
      rw (here, later.1) refl,
    )
