-- The machine's steps on cells, where atoms of which the first is the cell hold of the heap.
use Rattle.std.specs.Prelude.{◌≡◌, ℕ, ℤ, pos, ◌<ℤ◌, Bool, true, false, ◌&&◌, int_lt, is_none, List, [], ◌∷◌, map, slice_set, slice_index_or}
use Rattle.std.specs.Ordering.{int_eq}
use Rattle.std.specs.Str.{bytes_eq}
use Rattle.std.specs.declared.option.Option.{Option}
use Rattle.std.specs.declared.option.Option.TheVariants.{None, Some}
use Rattle.std.proofs.Common.{refl, sym, ap, ◌∙◌, arith}
use Rattle.std.proofs.Math.ListN.{get_or-map}
use Rattle.std.proofs.lemmas.Bool.Decides.{Decides-int_eq}
use Rattle.std.proofs.lemmas.Int.{ints}
use Rattle.std.proofs.lemmas.List.{map-set}
use Rattle.std.proofs.lemmas.Slice.Eq.{bytes_eq-Decides}
use Rattle.shape_data.specs.declared.machine.Cell.{Cell}
use Rattle.shape_data.specs.declared.machine.Choice.{Choice}
use Rattle.shape_data.specs.declared.machine.Stepped.{Stepped}
use Rattle.shape_data.specs.declared.machine.Stepped.TheVariants as stepped
use Rattle.shape_data.specs.declared.program.Cmd.TheVariants as cmd
use Rattle.shape_data.specs.declared.program.Operand.{Operand}
use Rattle.shape_data.specs.declared.program.Program.{Program}
use Rattle.shape_data.specs.declared.program.StructDef.{StructDef}
use Rattle.shape_data.specs.declared.symbolic.Atom.{Atom}
use Rattle.shape_data.specs.declared.symbolic.Atom.TheVariants.{Points}
use Rattle.shape_data.specs.declared.symbolic.Exp.{Exp}
use Rattle.shape_data.specs.declared.symbolic.Exp.TheVariants.{Const}
use Rattle.shape_data.specs.Heap.{cell_at, put, with_field, struct_named, IsSum}
use Rattle.shape_data.specs.Machine.{at_cell, can_be_new, fit_struct, operand_value, step_cmd}
use Rattle.shape_data.specs.Meaning.{value, HoldsAtoms}
use Rattle.sym_parts.proofs.ShapesLemmas.Atoms.{HoldsAtoms-is_heap}
use Rattle.sym_parts.proofs.ShapesLemmas.FrameSteps.{new_cell_fits}
use Rattle.sym_parts.proofs.ShapesLemmas.Sums.{IsSum-cell_left, at_first}
use Rattle.sym_parts.proofs.LawsLemmas.CellLemmas.{put_is_sum, without_is_rest, written_is_sum}
use Rattle.sound_laws.specs.Commands.{alone}

not_null : (at : ℤ) → pos 0 <ℤ at → int_eq at (pos 0) ≡ false
not_null at above = by_test (int_eq at (pos 0)) refl
  where
    by_test : (b : Bool) → int_eq at (pos 0) ≡ b → int_eq at (pos 0) ≡ false
    by_test true e =
        let same : at ≡ pos 0 = (Decides-int_eq at (pos 0)).0 e in
        absurd (grind (arith, ints))
    by_test false e = e

-- the cell of a sum with one cell, and that it is not at null
module _ {structs : List StructDef} {whole rest : List Cell} (cell : Cell) (sum : IsSum structs whole (cell ∷ []) rest) where
  there : cell_at whole cell.at ≡ Some cell
  there = IsSum-cell_left sum cell.at cell (at_first cell [])

  at_address : int_eq cell.at (pos 0) ≡ false
  at_address = not_null cell.at sum.left_is_heap.rising.0

  same_kind : bytes_eq cell.kind cell.kind ≡ true
  same_kind = (bytes_eq-Decides cell.kind cell.kind).1 refl

  pub cell_found : (at : ℤ) → at ≡ cell.at → (line : ℕ) (use_cell : Cell → Stepped) →
      at_cell whole at cell.kind line use_cell ≡ use_cell cell
  cell_found at is line use_cell = rw (is, at_address, there, same_kind) refl

pub loads :
    (program : Program) (t : ℕ → ℤ) (at : Exp) (kind : List ℕ) (fields : List Exp) (others : List Atom) (number node : ℕ) (locals : List ℤ)
    (heap : List Cell) (choice : Choice) (line to base field next : ℕ) →
    slice_index_or locals base (pos 0) ≡ value t at → HoldsAtoms program.structs t (Points at kind fields ∷ others) heap →
    step_cmd program [] (alone number node locals) heap choice line (cmd.Load to base kind field next)
    ≡ stepped.On
    (record { stack = alone number next (slice_set locals to (value t (slice_index_or fields field (Const (pos 0))))) ∷ []; heap = heap })
loads program t at kind fields others number node locals heap choice line to base field next is holds =
    let cell : Cell = record { at = value t at; kind = kind; fields = map (value t) fields } in
    let sum : IsSum program.structs heap (cell ∷ []) holds.1 = rw holds.3 at holds.2 in
    cell_found cell sum (slice_index_or locals base (pos 0)) is line _ ∙
    ap (λ number'. stepped.On (record { stack = alone number next (slice_set locals to number') ∷ []; heap = heap }))
    (get_or-map (value t) fields field (Const (pos 0)))

pub stores :
    (program : Program) (t : ℕ → ℤ) (at : Exp) (kind : List ℕ) (fields : List Exp) (others : List Atom) (number node : ℕ) (locals : List ℤ)
    (heap : List Cell) (choice : Choice) (line base field : ℕ) (from : Operand) (e : Exp) (next : ℕ) →
    slice_index_or locals base (pos 0) ≡ value t at → operand_value locals from ≡ value t e →
    HoldsAtoms program.structs t (Points at kind fields ∷ others) heap →
    (after : List Cell)
    × (step_cmd program [] (alone number node locals) heap choice line (cmd.Store base kind field from next)
    ≡ stepped.On (record { stack = alone number next locals ∷ []; heap = after })) ×
    HoldsAtoms program.structs t (Points at kind (slice_set fields field e) ∷ others) after
stores program t at kind fields others number node locals heap choice line base field from e next is said holds =
    let cell : Cell = record { at = value t at; kind = kind; fields = map (value t) fields } in
    let sum : IsSum program.structs heap (cell ∷ []) holds.1 = rw holds.3 at holds.2 in
    let after = with_field heap (value t at) field (value t e) in
    let written = written_is_sum program.structs cell heap holds.1 field (value t e) sum in
    let fields_are : slice_set (map (value t) fields) field (value t e) ≡ map (value t) (slice_set fields field e) =
    sym (map-set (value t) fields field e) in (
      after,
      cell_found cell sum (slice_index_or locals base (pos 0)) is line _ ∙ rw (is, said) refl,
      (_, holds.1, written, rw fields_are refl, holds.4),
    )

pub frees :
    (program : Program) (t : ℕ → ℤ) (at : Exp) (kind : List ℕ) (fields : List Exp) (others : List Atom) (number node : ℕ) (locals : List ℤ)
    (heap : List Cell) (choice : Choice) (line base : ℕ) (asked : List ℕ) (next : ℕ) →
    slice_index_or locals base (pos 0) ≡ value t at → HoldsAtoms program.structs t (Points at kind fields ∷ others) heap →
    (after : List Cell)
    × (step_cmd program [] (alone number node locals) heap choice line (cmd.Free base asked next)
    ≡ stepped.On (record { stack = alone number next locals ∷ []; heap = after })) ×
    HoldsAtoms program.structs t others after
frees program t at kind fields others number node locals heap choice line base asked next is holds =
    let cell : Cell = record { at = value t at; kind = kind; fields = map (value t) fields } in
    let sum : IsSum program.structs heap (cell ∷ []) holds.1 = rw holds.3 at holds.2 in
    (holds.1, rw (is, at_address cell sum, there cell sum, without_is_rest program.structs cell heap holds.1 sum) refl, holds.4)

none_there : (found : Option Cell) → is_none found ≡ true → found ≡ None
none_there None e = refl
none_there (Some cell) e = cc

both : (a b : Bool) → a && b ≡ true → (a ≡ true) × (b ≡ true)
both true true e = (refl, refl)
both true false e = cc
both false b e = cc

pub makes :
    (program : Program) (t : ℕ → ℤ) (at : Exp) (fields : List Exp) (others : List Atom) (heap : List Cell) (kind : List ℕ) (address : ℤ)
    (numbers : List ℤ) →
    can_be_new program heap kind address numbers ≡ true → value t at ≡ address → map (value t) fields ≡ numbers →
    HoldsAtoms program.structs t others heap →
    HoldsAtoms program.structs t (Points at kind fields ∷ others) (put (record { at = address; kind = kind; fields = numbers }) heap)
makes program t at fields others heap kind address numbers fits is_at are_fields holds =
    let cell : Cell = record { at = address; kind = kind; fields = numbers } in
    let shaped = new_cell_fits program heap kind address numbers fits in
    let tests =
    both (int_lt (pos 0) address && is_none (cell_at heap address)) (fit_struct numbers (struct_named program.structs kind)) fits in
    let none : cell_at heap address ≡ None =
    none_there (cell_at heap address) (both (int_lt (pos 0) address) (is_none (cell_at heap address)) tests.0).1 in (
      cell ∷ [],
      heap,
      put_is_sum program.structs cell heap shaped.0 shaped.1 none (HoldsAtoms-is_heap program.structs t others holds),
      rw
          (is_at, are_fields) refl,
      holds,
    )
