-- The steps on pairs, by counts.
use Rattle.std.specs.Prelude.{◌≡◌, ℕ, ◌+◌, min, Bool, true, false, not, ◌||◌, List, [], ◌∷◌, ◌++◌, is_some, option_map, leb, ◌==◌}
use Rattle.std.specs.declared.option.Option.{Option}
use Rattle.std.proofs.Common.{refl, sym, ap, subst, ◌∙◌, arith, append_assoc}
use Rattle.shape_data.specs.declared.symbolic.Atom.{Atom}
use Rattle.shape_data.specs.declared.symbolic.Exp.{Exp}
use Rattle.shape_data.specs.declared.symbolic.Exp.TheVariants.{Var}
use Rattle.shape_data.specs.declared.symbolic.SymHeap.{SymHeap}
use Rattle.shape_data.specs.declared.symbolic.SymState.{SymState}
use Rattle.sym_parts.specs.Laws.Mapped.{on_state}
use Rattle.sym_canon.specs.declared.parts.Pair.{Pair}
use Rattle.sym_canon.specs.Placing.{exps_of}
use Rattle.abstraction_laws.specs.Joining.{find_join}
use Rattle.abstraction_laws.specs.Occurrences.{exps_of_atoms, exps_of_heap, times_in}
use Rattle.abstraction_laws.specs.Pairs.{exps_beside_facts, is_absent_or_joint, made_existential}
use Rattle.sym_abstract.specs.declared.joining.Place.{Place}
use Rattle.sym_abstract.specs.Counted.{Adds, Counts, Times, counted, made_existential_by}
use Rattle.sym_abstract.specs.Places.{place_of}
use Rattle.sym_abstract.proofs.Adding.{times-append}
use Rattle.sym_abstract.proofs.CountedLaws.{counted-among, existential-same}
use Rattle.sym_abstract.proofs.JoinTurns.{some-mapped}

module _ (counts : Times) (atoms : List Atom) (are : Counts counts (exps_of_atoms atoms)) (x : ℕ) where
  pub absent : (b : Bool) → b ≡ leb 1 (counted counts x) → b ≡ false → true ≡ is_absent_or_joint atoms x
  absent b is none =
      sym (ap (λ d. not d || is_some (find_join (λ y. y == x) atoms)) (sym (is ∙ counted-among counts (exps_of_atoms atoms) are x) ∙ none))

  pub joint : (b d : Bool) → b ≡ leb 1 (counted counts x) → b ≡ true → (found : Option Place) →
      found ≡ option_map place_of (find_join (λ y. y == x) atoms) → d ≡ is_some found → d ≡ is_absent_or_joint atoms x
  joint b d is some found there answer =
      answer ∙ (ap is_some there ∙ (some-mapped (find_join (λ y. y == x) atoms)
      ∙ sym (ap (λ c. not c || is_some (find_join (λ y. y == x) atoms))
      (sym (is ∙ counted-among counts (exps_of_atoms atoms) are x) ∙ some))))

-- the state with variables made existential
pub existential-state : (params : ℕ) (counts : Times) (missing : SymHeap) (are : Counts counts (exps_of_heap missing)) (first : ℕ)
    (state : SymState) →
    on_state (made_existential_by params first counts) state ≡ on_state (made_existential params first missing) state
existential-state params counts missing are first state =
    ap (λ f. on_state f state) (λ i e. existential-same params counts missing are first e i)

exps-append : (xs ys : List Atom) → exps_of_atoms (xs ++ ys) ≡ exps_of_atoms xs ++ exps_of_atoms ys
exps-append [] ys = refl
exps-append (x ∷ xs) ys = ap (λ rest. exps_of x ++ rest) (exps-append xs ys)
    ∙ sym (append_assoc (exps_of x) (exps_of_atoms xs) (exps_of_atoms ys))

-- one list more is counted
pub counts-more : (old new : Times) (xs ys : List Exp) → Counts old xs → Adds old new ys → Counts new (xs ++ ys)
counts-more old new xs ys are adds = λ x.
    let told : counted new x ≡ min 3 (times_in (Var x) xs + times_in (Var x) ys) = adds.adds x (times_in (Var x) xs) (are x) in
    let parts : times_in (Var x) (xs ++ ys) ≡ times_in (Var x) xs + times_in (Var x) ys = times-append (Var x) xs ys in
    omega (arith, told, parts)

pub beside-facts : (pair : Pair) (old new : Times) → Counts old (pair.state.locals ++ exps_of_atoms pair.state.heap.spatial) →
    Adds old new (exps_of_atoms pair.missing.spatial) → Counts new (exps_beside_facts pair)
beside-facts pair old new are adds =
    subst (λ es. Counts new es)
    (append_assoc pair.state.locals (exps_of_atoms pair.state.heap.spatial) (exps_of_atoms pair.missing.spatial)
    ∙ ap (λ rest. pair.state.locals ++ rest) (sym (exps-append pair.state.heap.spatial pair.missing.spatial)))
    (counts-more old new (pair.state.locals ++ exps_of_atoms pair.state.heap.spatial) (exps_of_atoms pair.missing.spatial) are adds)

pub from_not : (b : Bool) → not b ≡ false → b ≡ true
from_not true h = refl
from_not false h = cc
