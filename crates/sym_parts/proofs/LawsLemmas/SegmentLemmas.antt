-- Segments beside other atoms: empty, a cell and a segment, a cell alone, and two that meet.
use Rattle.std.specs.Prelude.{◌≡◌, ◌⊎◌, ℕ, zero, suc, ℤ, pos, true, false, List, [], ◌∷◌, map, length, slice_get, slice_index_or}
use Rattle.std.proofs.Common.{refl, sym, ◌∙◌, inl, inr}
use Rattle.std.specs.List.{list_any}
use Rattle.std.specs.declared.option.Option.TheVariants.{Some}
use Rattle.std.proofs.lemmas.Bool.{or_parts}
use Rattle.shape_data.specs.declared.machine.Cell.{Cell}
use Rattle.shape_data.specs.declared.program.StructDef.{StructDef}
use Rattle.shape_data.specs.declared.symbolic.Atom.{Atom}
use Rattle.shape_data.specs.declared.symbolic.Atom.TheVariants.{Points, Seg}
use Rattle.shape_data.specs.declared.symbolic.Exp.{Exp}
use Rattle.shape_data.specs.declared.symbolic.Exp.TheVariants.{Var, Const}
use Rattle.shape_data.specs.Heap.{HasShape, IsSum}
use Rattle.shape_data.specs.Meaning.{value, IsChain, IsSumOf, HoldsAtom, HoldsAtoms}
use Rattle.sym_parts.specs.Shapes.Symbolic.{is_variable, occurs_in_atom}
use Rattle.sym_parts.proofs.ShapesLemmas.Atoms.{HoldsAtoms-is_heap}
use Rattle.sym_parts.proofs.ShapesLemmas.Chains.{IsSegment, IsSegment-append, Points-segment}
use Rattle.sym_parts.proofs.ShapesLemmas.Sums.{IsSum-unit, IsSum-empty_left, IsSum-to_left, IsSum-to_right}
use Rattle.sym_parts.specs.Laws.Fresh.{is_one_of, AgreeButFor, AreNewIn}
use Rattle.sym_parts.specs.Laws.Segments.{AreFieldNames, SegmentUnfolds, SegmentMayBeEmpty, CellIsSegment, SegmentsJoin}
use Rattle.sym_parts.proofs.LawsLemmas.FreshLemmas.{assign, assign-agrees, assign-names, names-get, value-new, HoldsAtoms-new}

-- a segment whose ends are equal may be empty
pub segment_may_be_empty : SegmentMayBeEmpty
segment_may_be_empty structs t kind link from to others heap same h =
    ([], heap, IsSum-unit (HoldsAtoms-is_heap structs t others h), ([], same, refl), h)

module _ (structs : List StructDef) (t : ℕ → ℤ) (kind : List ℕ) (link : ℕ) (from to : Exp) (others : List Atom) (names : List ℕ) (next : ℕ)
    (heap : List Cell)
    (fit : AreFieldNames structs kind link (Seg kind link from to ∷ others) names next) where
  new_in_segment : (x : ℕ) → is_one_of names x ≡ true → (is_variable x from ≡ false) × (is_variable x to ≡ false)
  new_in_segment x is =
      or_parts (is_variable x from) (is_variable x to)
      (or_parts (occurs_in_atom x (Seg kind link from to)) (list_any (occurs_in_atom x) others) (fit.new x is)).0

  new_in_others : AreNewIn others names
  new_in_others x is = (or_parts (occurs_in_atom x (Seg kind link from to)) (list_any (occurs_in_atom x) others) (fit.new x is)).1

  -- the first cell of the chain, with its numbers for the new variables
  unfolded_at : (own rest : List Cell) → IsSum structs heap own rest → HoldsAtoms structs t others rest →
      (cell : Cell) (cells inner : List Cell) → cell.at ≡ value t from → cell.kind ≡ kind →
      IsChain kind link (slice_index_or cell.fields link (pos 0)) (value t to) cells →
      IsSum structs own (cell ∷ []) inner → IsSumOf structs cells inner →
      HoldsAtoms structs (assign names cell.fields t) (Points from kind (map Var names) ∷ Seg kind link (Var next) to ∷ others) heap
  unfolded_at own rest sum others_hold cell cells inner at_is kind_is chain first parts =
      (cell ∷ [], split.0, split.1, is_cell, (inner, rest, split.2, (cells, is_chain, parts), others_are))
    where
      split : (beside : List Cell) × IsSum structs heap (cell ∷ []) beside × IsSum structs beside inner rest
      split = IsSum-to_right sum first

      agree : AgreeButFor names t (assign names cell.fields t)
      agree = assign-agrees names cell.fields t

      count : length names ≡ length cell.fields
      count =
          let shaped : HasShape structs cell = first.left_is_heap.shaped.0 in
          let has : length cell.fields ≡ length fit.def.fields = rw (kind_is, fit.listed) at shaped in
          fit.one_each ∙ sym has

      fields_are : map (value (assign names cell.fields t)) (map Var names) ≡ cell.fields
      fields_are = assign-names names cell.fields t fit.different count

      from_is : value t from ≡ value (assign names cell.fields t) from
      from_is = value-new names t (assign names cell.fields t) agree from (λ x is. (new_in_segment x is).0)

      to_is : value t to ≡ value (assign names cell.fields t) to
      to_is = value-new names t (assign names cell.fields t) agree to (λ x is. (new_in_segment x is).1)

      is_cell : HoldsAtom structs (assign names cell.fields t) (Points from kind (map Var names)) (cell ∷ [])
      is_cell = rw (fields_are, ← from_is, ← at_is, ← kind_is) refl

      is_chain : IsChain kind link (assign names cell.fields t next) (value (assign names cell.fields t) to) cells
      is_chain = rw (names-get names cell.fields (assign names cell.fields t) link next fields_are fit.next_is, ← to_is) chain

      others_are : HoldsAtoms structs (assign names cell.fields t) others rest
      others_are = HoldsAtoms-new names t (assign names cell.fields t) agree structs others rest new_in_others others_hold

  pub segment-unfolds : HoldsAtoms structs t (Seg kind link from to ∷ others) heap →
      ((value t from ≡ value t to) × HoldsAtoms structs t others heap)
      ⊎ ((u : ℕ → ℤ) × AgreeButFor names t u
      × HoldsAtoms structs u (Points from kind (map Var names) ∷ Seg kind link (Var next) to ∷ others) heap)
  segment-unfolds h = by_cells h.3.0 h.3.1 h.3.2
    where
      by_cells : (cells : List Cell) → IsChain kind link (value t from) (value t to) cells → IsSumOf structs cells h.0 →
          ((value t from ≡ value t to) × HoldsAtoms structs t others heap)
          ⊎ ((u : ℕ → ℤ) × AgreeButFor names t u
          × HoldsAtoms structs u (Points from kind (map Var names) ∷ Seg kind link (Var next) to ∷ others) heap)
      by_cells [] chain parts =
          let alone : IsSum structs heap [] h.1 = rw parts at h.2 in
          let same : heap ≡ h.1 = IsSum-empty_left alone in
          inl (chain, rw same h.4)
      by_cells (cell ∷ cells) chain parts =
          inr (
            assign names cell.fields t,
            assign-agrees names cell.fields t,
            unfolded_at h.0 h.1 h.2 h.4 cell cells parts.0 chain.0 chain.1
                chain.2 parts.1 parts.2,
          )

pub segment_unfolds : SegmentUnfolds
segment_unfolds structs t kind link from to others names next heap fit h =
    segment-unfolds structs t kind link from to others names next heap fit h

get_is : (fields : List Exp) (link : ℕ) (to : Exp) → slice_get fields link ≡ Some to → slice_index_or fields link (Const (pos 0)) ≡ to
get_is [] link to is = cc
get_is (field ∷ fields) zero to is = cc
get_is (field ∷ fields) (suc link) to is = get_is fields link to is

pub cell_is_segment : CellIsSegment
cell_is_segment structs t at kind fields link to others heap is h =
    let segment : IsSegment structs kind link (value t at) (value t (slice_index_or fields link (Const (pos 0)))) h.0 =
    Points-segment structs t at kind fields link h.0 h.2.left_is_heap h.3 in
    let to_is : slice_index_or fields link (Const (pos 0)) ≡ to = get_is fields link to is in
    let told : IsSegment structs kind link (value t at) (value t to) h.0 = rw to_is at segment in
    (h.0, h.1, h.2, told, h.4)

pub segments_join : SegmentsJoin
segments_join structs t kind link from middle to others heap h =
    let inner : HoldsAtoms structs t (Seg kind link middle to ∷ others) h.1 = h.4 in
    let grouped = IsSum-to_left h.2 inner.2 in (
      grouped.0,
      inner.1,
      grouped.1,
      IsSegment-append structs kind link (value t from) (value t middle)
          (value t to) grouped.0 h.0 inner.0 grouped.2 h.3 inner.3,
      inner.4,
    )
