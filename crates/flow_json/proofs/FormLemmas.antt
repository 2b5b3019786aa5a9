-- How parts of forms are read.
use Rattle.std.specs.Prelude.{◌≡◌, ℕ, Bool, true, false, List, [], ◌∷◌, ◌++◌, map, length, ◌==◌}
use Rattle.std.specs.declared.option.Option.{Option}
use Rattle.std.specs.declared.option.Option.TheVariants.{None, Some}
use Rattle.std.proofs.Common.{refl, sym, ap, arith}
use Rattle.std.proofs.lemmas.Bool.{eqb-true}
use Rattle.std.proofs.lemmas.List.{append_assoc}
use Rattle.serde_json.specs.Data.{Data, no_members}
use Rattle.serde_json.specs.View.{items_of}
use Rattle.flow_json.specs.Forms.{go_on, list_of, names_are, read_each}

-- what an array is made of, it is of
pub list_of_items : (ds : List Data) → list_of (items_of ds) ≡ ds
list_of_items [] = refl
list_of_items (d ∷ ds) = ap (λ others. d ∷ others) (list_of_items ds)

-- things that were read, and those that are still to be
abbrev pub with_front : {A : Type 0} → List A → Option (List A) → Option (List A)
with_front things None = None
with_front things (Some others) = Some (things ++ others)

pub read_next : {A : Type 0} (read : Data → Option A) (things : List A) (d : Data) (ds : List Data) (thing : A) → read d ≡ Some thing →
    with_front things (read_each read (d ∷ ds)) ≡ with_front (things ++ thing ∷ []) (read_each read ds)
unfolding go_on
read_next {A = A} read things d ds thing is = rw is (by_others (read_each read ds))
  where
    by_others : (others : Option (List A)) →
        with_front things (go_on others (λ more. Some (thing ∷ more))) ≡ with_front (things ++ thing ∷ []) others
    by_others None = refl
    by_others (Some others) = ap (λ all. Some all) (sym (append_assoc things (thing ∷ []) others))

-- where one is not read, nothing is
pub read_stops : {A : Type 0} (read : Data → Option A) (things : List A) (d : Data) (ds : List Data) → read d ≡ None →
    with_front things (read_each read (d ∷ ds)) ≡ None
unfolding go_on
read_stops read things d ds is = rw is refl

-- at the end of the members no name may be left
pub names_end : {A : Type 0} (name_of : A → List ℕ) (things : List A) → (length things == 0) ≡ names_are (map name_of things) no_members
names_end name_of [] = refl
names_end name_of (thing ∷ things) = by_test (length (thing ∷ things) == 0) refl
  where
    by_test : (b : Bool) → (length (thing ∷ things) == 0) ≡ b → b ≡ false
    by_test true is = let none : length (thing ∷ things) ≡ 0 = eqb-true (length (thing ∷ things)) 0 is in absurd (omega arith)
    by_test false is = refl
