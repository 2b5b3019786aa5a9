-- The order of atoms does not matter.
use Rattle.std.specs.Prelude.{◌≡◌, ℕ, ℤ, Bool, true, false, not, List, [], ◌∷◌, ◌++◌, filter}
use Rattle.std.proofs.Common.{refl}
use Rattle.shape_data.specs.declared.machine.Cell.{Cell}
use Rattle.shape_data.specs.declared.program.StructDef.{StructDef}
use Rattle.shape_data.specs.declared.symbolic.Atom.{Atom}
use Rattle.shape_data.specs.Meaning.{HoldsAtoms}
use Rattle.sym_parts.proofs.ShapesLemmas.Atoms.{HoldsAtoms-append, HoldsAtoms-split}
use Rattle.sym_parts.proofs.ShapesLemmas.Sums.{IsSum-rebuild}
use Rattle.sym_parts.specs.Laws.Orders.{SayTheSame, AtomMayMove, AtomsMayPart, PartMayChange}

pub same-refl : (xs : List Atom) → SayTheSame xs xs
same-refl xs structs t heap = (λ h. h, λ h. h)

pub same-sym : (xs ys : List Atom) → SayTheSame xs ys → SayTheSame ys xs
same-sym xs ys e structs t heap = ((e structs t heap).1, (e structs t heap).0)

pub same-trans : (xs ys zs : List Atom) → SayTheSame xs ys → SayTheSame ys zs → SayTheSame xs zs
same-trans xs ys zs e f structs t heap =
    (λ h. (f structs t heap).0 ((e structs t heap).0 h), λ h. (e structs t heap).1 ((f structs t heap).1 h))

pub same-cons : (atom : Atom) (xs ys : List Atom) → SayTheSame xs ys → SayTheSame (atom ∷ xs) (atom ∷ ys)
same-cons atom xs ys e structs t heap =
    (λ h. (h.0, h.1, h.2, h.3, (e structs t h.1).0 h.4), λ h. (h.0, h.1, h.2, h.3, (e structs t h.1).1 h.4))

-- the first two atoms change places
pub HoldsAtoms-swap : (structs : List StructDef) (t : ℕ → ℤ) (a b : Atom) (atoms : List Atom) (heap : List Cell)
    → HoldsAtoms structs t (a ∷ b ∷ atoms) heap → HoldsAtoms structs t (b ∷ a ∷ atoms) heap
HoldsAtoms-swap structs t a b atoms heap h =
    let inner : HoldsAtoms structs t (b ∷ atoms) h.1 = h.4 in
    let turned = IsSum-rebuild h.2 inner.2 in
    (inner.0, turned.0, turned.1, inner.3, (h.0, inner.1, turned.2, h.3, inner.4))

pub same-swap : (a b : Atom) (atoms : List Atom) → SayTheSame (a ∷ b ∷ atoms) (b ∷ a ∷ atoms)
same-swap a b atoms structs t heap = (HoldsAtoms-swap structs t a b atoms heap, HoldsAtoms-swap structs t b a atoms heap)

pub same-middle : AtomMayMove
same-middle [] atom after = same-refl (atom ∷ after)
same-middle (first ∷ before) atom after =
    same-trans (first ∷ before ++ atom ∷ after) (first ∷ atom ∷ before ++ after) (atom ∷ first ∷ before ++ after)
    (same-cons first (before ++ atom ∷ after) (atom ∷ before ++ after) (same-middle before atom after))
    (same-swap first atom (before ++ after))

pub same-parted : AtomsMayPart
same-parted test [] = same-refl []
same-parted test (x ∷ xs) = by_test (test x) refl (same-parted test xs)
  where
    by_test : (b : Bool) → test x ≡ b → SayTheSame xs (filter test xs ++ filter (λ y. not (test y)) xs)
        → SayTheSame (x ∷ xs) (filter test (x ∷ xs) ++ filter (λ y. not (test y)) (x ∷ xs))
    by_test true e later = rw e (same-cons x xs (filter test xs ++ filter (λ y. not (test y)) xs) later)
    by_test false e later =
        rw e (same-trans (x ∷ xs) (x ∷ filter test xs ++ filter (λ y. not (test y)) xs)
        (filter test xs ++ x ∷ filter (λ y. not (test y)) xs)
        (same-cons x xs (filter test xs ++ filter (λ y. not (test y)) xs) later)
        (same-sym (filter test xs ++ x ∷ filter (λ y. not (test y)) xs) (x ∷ filter test xs ++ filter (λ y. not (test y)) xs)
        (same-middle (filter test xs) x (filter (λ y. not (test y)) xs))))

-- what stands in front may stay as it is
pub same-append_right : (before xs ys : List Atom) → SayTheSame xs ys → SayTheSame (before ++ xs) (before ++ ys)
same-append_right [] xs ys e = e
same-append_right (atom ∷ before) xs ys e = same-cons atom (before ++ xs) (before ++ ys) (same-append_right before xs ys e)

-- what stands behind may stay as it is
pub same-append_left : (xs ys after : List Atom) → SayTheSame xs ys → SayTheSame (xs ++ after) (ys ++ after)
same-append_left xs ys after e structs t heap = (
  λ h. let parts =
      HoldsAtoms-split structs t xs after h in HoldsAtoms-append structs t ys after parts.2 ((e structs t parts.0).0 parts.3) parts.4,
  λ h. let parts =
      HoldsAtoms-split structs t ys after h in HoldsAtoms-append structs t xs after parts.2 ((e structs t parts.0).1 parts.3) parts.4,
)

pub same-part : PartMayChange
same-part before xs ys after e = same-append_left (before ++ xs) (before ++ ys) after (same-append_right before xs ys e)
