-- Junk takes in whatever stands beside it.
use Rattle.std.specs.Prelude.{ℕ, ℤ, Bool, true, false, not, List, ◌∷◌, filter}
use Rattle.shape_data.specs.declared.machine.Cell.{Cell}
use Rattle.shape_data.specs.declared.program.StructDef.{StructDef}
use Rattle.shape_data.specs.declared.symbolic.Atom.{Atom}
use Rattle.shape_data.specs.declared.symbolic.Atom.TheVariants.{Points, Seg, Junk}
use Rattle.shape_data.specs.Heap.{IsSum}
use Rattle.shape_data.specs.Meaning.{HoldsAtoms}
use Rattle.sym_parts.specs.Laws.Orders.{SayTheSame}

-- the atom is Junk
abbrev pub is_junk : Atom → Bool
is_junk Junk = true
is_junk (Points at kind fields) = false
is_junk (Seg kind link from to) = false

-- the atom says something of its memory
abbrev pub is_other : Atom → Bool
is_other atom = not (is_junk atom)

-- beside Junk any more memory may stand
abbrev pub JunkAbsorbs : Type 0
JunkAbsorbs =
    (structs : List StructDef) (t : ℕ → ℤ) (atoms : List Atom) (whole own rest : List Cell) → IsSum structs whole own rest →
    HoldsAtoms structs t (Junk ∷ atoms) rest →
    HoldsAtoms structs t (Junk ∷ atoms) whole

-- beside Junk the atoms that fail a test may be forgotten
abbrev pub JunkForgets : Type 0
JunkForgets =
    (structs : List StructDef) (t : ℕ → ℤ) (test : Atom → Bool) (atoms : List Atom) (heap : List Cell) →
    HoldsAtoms structs t (Junk ∷ atoms) heap →
    HoldsAtoms structs t (Junk ∷ filter test atoms) heap

-- one Junk says as much as several
abbrev pub OneJunkIsEnough : Type 0
OneJunkIsEnough = (atoms : List Atom) → SayTheSame (Junk ∷ atoms) (Junk ∷ filter is_other atoms)
