-- The turns of the loops.
use Rattle.std.specs.Prelude.{◌≡◌, ℕ, zero, suc, ◌+◌, ◌-◌, ◌<◌, ◌≤◌, ◌==◌, false, List, [], ◌∷◌, ◌++◌, length, drop}
use Rattle.std.proofs.Common.{refl, sym, ap, ◌∙◌, arith, append_assoc, drop-cons, get_or}
use Rattle.sym_matching.specs.NewVariables.{at_its_place}
use Rattle.sym_matching.specs.Renaming.Calls.{variables_from}
use Rattle.sym_matching.proofs.RenamingLemmas.NumberLemmas.{eqb_false}

pub parameters_turn : (count x : ℕ) (names more : List ℕ) → x < count → variables_from 0 count ≡ names ++ variables_from x (count - x) →
    more ≡ names ++ x ∷ [] → variables_from 0 count ≡ more ++ variables_from (x + 1) (count - (x + 1))
parameters_turn count x names more inside now grown =
    let left : count - x ≡ suc (count - (x + 1)) = omega arith in
    let next : variables_from x (count - x) ≡ x ∷ variables_from (x + 1) (count - (x + 1)) = rw left refl in
    rw grown (now ∙ ap (λ xs. names ++ xs) next ∙ sym (append_assoc names (x ∷ []) (variables_from (x + 1) (count - (x + 1)))))

-- past the numbers a variable keeps its own
pub past_numbers : (variables numbers : List ℕ) (place x : ℕ) → length numbers ≤ place →
    at_its_place (drop place variables) (drop place numbers) x ≡ x
past_numbers variables numbers place x past = by_list (drop place variables) (none numbers place past)
  where
    none : (xs : List ℕ) (k : ℕ) → length xs ≤ k → drop k xs ≡ []
    none [] zero h = refl
    none [] (suc k) h = refl
    none (y ∷ ys) zero h = absurd (omega arith)
    none (y ∷ ys) (suc k) h = none ys k (omega arith)

    by_list : (xs : List ℕ) → drop place numbers ≡ [] → at_its_place xs (drop place numbers) x ≡ x
    by_list [] e = refl
    by_list (y ∷ ys) e = rw e refl

-- a turn passes over a variable
pub passes_over : (variables numbers : List ℕ) (place x : ℕ) → place < length variables → place < length numbers →
    (x ≡ get_or variables place 0 → ⊥) →
    at_its_place (drop place variables) (drop place numbers) x ≡ at_its_place (drop (place + 1) variables) (drop (place + 1) numbers) x
passes_over variables numbers place x inside within differs =
    let one : drop place variables ≡ get_or variables place 0 ∷ drop (suc place) variables = drop-cons variables place 0 inside in
    let other : drop place numbers ≡ get_or numbers place 0 ∷ drop (suc place) numbers = drop-cons numbers place 0 within in
    let apart : (x == get_or variables place 0) ≡ false = eqb_false x (get_or variables place 0) differs in
    let next : place + 1 ≡ suc place = omega arith in
    rw (one, other, next, apart) refl
