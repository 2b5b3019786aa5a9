-- Atoms at places: what is in none of the atoms is in none that are left; a cell in another's place.
use Rattle.std.specs.Prelude.{◌≡◌, ℕ, zero, suc, ℤ, Bool, true, false, ◌||◌, List, [], ◌∷◌, slice_get, slice_set}
use Rattle.std.specs.List.{list_any, remove}
use Rattle.std.specs.declared.option.Option.TheVariants.{Some}
use Rattle.std.proofs.Common.{refl}
use Rattle.shape_data.specs.declared.machine.Cell.{Cell}
use Rattle.shape_data.specs.declared.program.StructDef.{StructDef}
use Rattle.shape_data.specs.declared.symbolic.Atom.{Atom}
use Rattle.shape_data.specs.Meaning.{HoldsAtoms}
use Rattle.sym_parts.proofs.ShapesLemmas.Sums.{IsSum-rebuild}

neither : (a b : Bool) → (a || b) ≡ false → (a ≡ false) × (b ≡ false)
neither true b h = cc
neither false b h = (refl, h)

-- a test that no element passes is not passed by the one at a place or by one of the others
pub none_moved : {A : Type 0} (test : A → Bool) (xs : List A) (place : ℕ) (x : A) → slice_get xs place ≡ Some x → list_any test xs ≡ false →
    list_any test (x ∷ remove xs place) ≡ false
none_moved test [] place x is none = cc
none_moved test (first ∷ xs) zero x is none = let same : x ≡ first = cc in rw same none
none_moved test (first ∷ xs) (suc place) x is none =
    let parts = neither (test first) (list_any test xs) none in
    let later = none_moved test xs place x is parts.1 in
    let others = neither (test x) (list_any test (remove xs place)) later in
    rw (others.0, parts.0, others.1) refl

-- another atom in the place of one
pub HoldsAtoms-set : (structs : List StructDef) (s : ℕ → ℤ) (atoms : List Atom) (place : ℕ) (old new : Atom) {heap : List Cell} →
    slice_get atoms place ≡ Some old →
    HoldsAtoms structs s (new ∷ remove atoms place) heap → HoldsAtoms structs s (slice_set atoms place new) heap
HoldsAtoms-set structs s [] place old new is holds = cc
HoldsAtoms-set structs s (first ∷ atoms) zero old new is holds = holds
HoldsAtoms-set structs s (first ∷ atoms) (suc place) old new is holds =
    let swapped = IsSum-rebuild holds.2 holds.4.2 in
    let inner : HoldsAtoms structs s (slice_set atoms place new) swapped.0 =
    HoldsAtoms-set structs s atoms place old new is (holds.0, holds.4.1, swapped.2, holds.3, holds.4.4) in
    (holds.4.0, swapped.0, swapped.1, holds.4.3, inner)
