-- Segments beside other atoms: a segment is empty or a cell and a segment; a cell is a segment; two that meet are one.
use Rattle.std.specs.Prelude.{◌≡◌, ◌⊎◌, ℕ, ℤ, true, List, ◌∷◌, map, length, slice_get}
use Rattle.std.specs.declared.option.Option.TheVariants.{Some}
use Rattle.shape_data.specs.declared.machine.Cell.{Cell}
use Rattle.shape_data.specs.declared.program.StructDef.{StructDef}
use Rattle.shape_data.specs.declared.symbolic.Atom.{Atom}
use Rattle.shape_data.specs.declared.symbolic.Atom.TheVariants.{Points, Seg}
use Rattle.shape_data.specs.declared.symbolic.Exp.{Exp}
use Rattle.shape_data.specs.declared.symbolic.Exp.TheVariants.{Var}
use Rattle.shape_data.specs.Heap.{struct_named}
use Rattle.shape_data.specs.Meaning.{value, HoldsAtoms}
use Rattle.sym_parts.specs.Laws.Fresh.{are_different, AgreeButFor, AreNewIn}

-- new variables for the fields of a cell: one each, all different, and none that occurs; `next` is that of the link
pub record AreFieldNames (structs : List StructDef) (kind : List ℕ) (link : ℕ) (atoms : List Atom) (names : List ℕ)
    (next : ℕ) : Type 0 where
  pub def : StructDef
  pub listed : struct_named structs kind ≡ Some def
  pub one_each : length names ≡ length def.fields
  pub next_is : slice_get names link ≡ Some next
  pub different : are_different names ≡ true
  pub new : AreNewIn atoms names

-- a segment beside other atoms is empty and its ends are equal; or, under values for new variables and no other change,
-- it is a cell and a segment from the cell's link. (Where it is a cell, its ends may be equal: a cycle.)
abbrev pub SegmentUnfolds : Type 0
SegmentUnfolds =
    (structs : List StructDef) (t : ℕ → ℤ) (kind : List ℕ) (link : ℕ) (from to : Exp) (others : List Atom) (names : List ℕ) (next : ℕ)
    (heap : List Cell) →
    AreFieldNames structs kind link (Seg kind link from to ∷ others) names next →
    HoldsAtoms structs t (Seg kind link from to ∷ others) heap →
    ((value t from ≡ value t to) × HoldsAtoms structs t others heap)
    ⊎ ((u : ℕ → ℤ) × AgreeButFor names t u
    × HoldsAtoms structs u (Points from kind (map Var names) ∷ Seg kind link (Var next) to ∷ others) heap)

-- a segment whose ends are equal may be empty
abbrev pub SegmentMayBeEmpty : Type 0
SegmentMayBeEmpty =
    (structs : List StructDef) (t : ℕ → ℤ) (kind : List ℕ) (link : ℕ) (from to : Exp) (others : List Atom) (heap : List Cell) →
    value t from ≡ value t to →
    HoldsAtoms structs t others heap → HoldsAtoms structs t (Seg kind link from to ∷ others) heap

-- a cell is a segment to what its link holds
abbrev pub CellIsSegment : Type 0
CellIsSegment =
    (structs : List StructDef) (t : ℕ → ℤ) (at : Exp) (kind : List ℕ) (fields : List Exp) (link : ℕ) (to : Exp) (others : List Atom)
    (heap : List Cell) → slice_get fields link ≡ Some to →
    HoldsAtoms structs t (Points at kind fields ∷ others) heap → HoldsAtoms structs t (Seg kind link at to ∷ others) heap

-- two segments, the second from where the first leads to, are one
abbrev pub SegmentsJoin : Type 0
SegmentsJoin =
    (structs : List StructDef) (t : ℕ → ℤ) (kind : List ℕ) (link : ℕ) (from middle to : Exp) (others : List Atom) (heap : List Cell) →
    HoldsAtoms structs t (Seg kind link from middle ∷ Seg kind link middle to ∷ others) heap →
    HoldsAtoms structs t (Seg kind link from to ∷ others) heap
