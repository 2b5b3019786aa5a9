-- As many turns as there are atoms are enough.
use Rattle.std.specs.Prelude.{◌≡◌, ℕ, zero, suc, ◌+◌, ◌<◌, ◌≤◌, pos, Bool, true, false, not, List, [], ◌∷◌, ◌++◌, length, filter, drop}
use Rattle.std.specs.Prelude.{position, slice_index_or, Option}
use Rattle.std.specs.List.{list_any}
use Rattle.std.specs.declared.option.Option.TheVariants.{None, Some}
use Rattle.std.proofs.Common.{refl, ap, ◌∙◌, arith}
use Rattle.std.proofs.lemmas.List.Quantifiers.{position-Some}
use Rattle.shape_data.specs.declared.symbolic.Atom.{Atom}
use Rattle.shape_data.specs.declared.symbolic.Exp.{Exp}
use Rattle.shape_data.specs.declared.symbolic.Exp.TheVariants.{Const}
use Rattle.sym_canon.specs.Laws.{MoreTurnsChangeNothing}
use Rattle.sym_canon.specs.Placing.{exps_of, all_lead_to, is_placed, places_some, place_by, place_first, place_at, place}

-- what no test passes is as long; where one passes, the rest is shorter
others-few : (test : Atom → Bool) (atoms : List Atom) → length (filter (λ atom. not (test atom)) atoms) ≤ length atoms
others-few test [] = omega arith
others-few test (atom ∷ atoms) = by_test (test atom) refl (others-few test atoms)
  where
    by_test : (b : Bool) → test atom ≡ b → length (filter (λ x. not (test x)) atoms) ≤ length atoms →
        length (filter (λ x. not (test x)) (atom ∷ atoms)) ≤ length (atom ∷ atoms)
    by_test true e h = rw e (omega arith)
    by_test false e h = rw e (omega arith)

others-fewer : (test : Atom → Bool) (atoms : List Atom) → list_any test atoms ≡ true →
    length (filter (λ atom. not (test atom)) atoms) < length atoms
others-fewer test [] some = cc
others-fewer test (atom ∷ atoms) some = by_test (test atom) refl some (others-few test atoms) (others-fewer test atoms)
  where
    by_test : (b : Bool) → test atom ≡ b → list_any test (atom ∷ atoms) ≡ true → length (filter (λ x. not (test x)) atoms) ≤ length atoms →
        (list_any test atoms ≡ true → length (filter (λ x. not (test x)) atoms) < length atoms) →
        length (filter (λ x. not (test x)) (atom ∷ atoms)) < length (atom ∷ atoms)
    by_test true e k few go_on = rw e (omega arith)
    by_test false e k few go_on =
        let told : list_any test atoms ≡ true = rw e at k in
        let inner : length (filter (λ x. not (test x)) atoms) < length atoms = go_on told in
        rw e (omega arith)

-- where no atom is left, none is placed
none-at : (again : List Exp → List Atom → List Atom) → ((queue : List Exp) → again queue [] ≡ []) → (queue : List Exp) (o : Option ℕ) →
    place_at again queue [] o ≡ []
none-at again none queue None = none []
none-at again none queue (Some k) = none (drop (k + 1) queue ++ [])

place-none : (turns : ℕ) (queue : List Exp) → place turns queue [] ≡ []
place-none zero queue = refl
place-none (suc turns) queue =
    none-at (λ later others. place turns later others) (λ later. place-none turns later) queue (position (places_some []) queue)

module _ (again other : List Exp → List Atom → List Atom) (limit : ℕ)
    (alike : (queue : List Exp) (left : List Atom) → length left ≤ limit → again queue left ≡ other queue left) where
  first-alike : (left : List Atom) → length left ≤ suc limit → place_first again left ≡ place_first other left
  first-alike [] few = alike [] [] (omega arith)
  first-alike (first ∷ rest) few = ap (λ atoms. first ∷ atoms) (alike (exps_of first) rest (omega arith))

  by-alike : (queue : List Exp) (left : List Atom) (e : Exp) → length left ≤ suc limit → places_some left e ≡ true →
      place_by again queue left e ≡ place_by other queue left e
  by-alike queue left e few some =
      let fewer : length (filter (λ atom. not (is_placed left e atom)) left) < length left = others-fewer (is_placed left e) left some in
      ap (λ atoms. filter (is_placed left e) left ++ atoms)
      (alike (queue ++ all_lead_to (filter (is_placed left e) left)) (filter (λ atom. not (is_placed left e atom)) left) (omega arith))

  at-alike : (queue : List Exp) (left : List Atom) (o : Option ℕ) → position (places_some left) queue ≡ o → length left ≤ suc limit →
      place_at again queue left o ≡ place_at other queue left o
  at-alike queue left None is few = first-alike left few
  at-alike queue left (Some k) is few =
      let found = position-Some (places_some left) queue k (Const (pos 0)) is in
      by-alike (drop (k + 1) queue) left (slice_index_or queue k (Const (pos 0))) few found.1

place-alike : (turns more : ℕ) (queue : List Exp) (left : List Atom) → length left ≤ turns →
    place (turns + more) queue left ≡ place turns queue left
place-alike zero more queue [] few = place-none (0 + more) queue
place-alike zero more queue (first ∷ rest) few = absurd (omega arith)
place-alike (suc turns) more queue left few =
    let next : suc turns + more ≡ suc (turns + more) = omega arith in
    ap (λ n. place n queue left) next
    ∙ at-alike (λ later others. place (turns + more) later others) (λ later others. place turns later others) turns
    (λ later others fewer. place-alike turns more later others fewer) queue left
    (position (places_some left) queue) refl few

pub more_turns_change_nothing : MoreTurnsChangeNothing
more_turns_change_nothing more queue left = place-alike (length left) more queue left (omega arith)
