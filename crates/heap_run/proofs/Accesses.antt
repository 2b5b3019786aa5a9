-- What an access to a structure finds, and that the structure has the field that a well-formed command names.
use Rattle.std.proofs.Common.{◌≡◌, ◌≢◌, ◌∙◌, ℕ, ◌<◌, ℤ, pos, Bool, true, false, List, length, get_or, Option, Some, None, Ok, Err, IfSome}
use Rattle.std.proofs.Common.{IsSomeAnd, slice_get, refl, sym, ap, zero, suc, [], ◌∷◌}
use Rattle.std.specs.Ordering.{int_eq}
use Rattle.std.specs.Str.{bytes_eq}
use Rattle.std.proofs.lemmas.Bool.Decides.{Decides-int_eq}
use Rattle.std.proofs.lemmas.Option.{get_or_from_slice_get}
use Rattle.std.proofs.lemmas.Slice.Eq.{bytes_eq-Decides}
use Rattle.shape_data.specs.declared.answer.Fault.TheVariants as fault
use Rattle.shape_data.specs.declared.machine.Cell.{Cell}
use Rattle.shape_data.specs.declared.machine.Stepped.{Stepped}
use Rattle.shape_data.specs.declared.machine.Stepped.TheVariants as stepped
use Rattle.shape_data.specs.declared.program.StructDef.{StructDef}
use Rattle.shape_data.specs.Heap.{cell_at, struct_named, AreRising, HasShape, HaveShapes, IsHeap}
use Rattle.shape_data.specs.Machine.{at_cell}
use Rattle.shape_data.specs.WellFormed.{IsField}
use Rattle.heap_run.specs.Access.{HaveField, IsAccess, IsUsed}
use Rattle.heap_run.specs.Places.{IsPlace}
use Rattle.heap_run.proofs.Addresses.{cell_at_is, cell_at-gap}

differs : (x y : ℤ) → x ≢ y → int_eq x y ≡ false
differs x y apart = by_test (int_eq x y) refl
  where
    by_test : (b : Bool) → int_eq x y ≡ b → int_eq x y ≡ false
    by_test true e = absurd (apart ((Decides-int_eq x y).0 e))
    by_test false e = e

-- the cell at the place is of the kind
pub access_finds : (heap : List Cell) (at : ℤ) (kind : List ℕ) (place : ℕ) (cell : Cell) → AreRising (pos 0) heap → at ≢ pos 0 →
    IsPlace heap at (Ok place) → cell ≡ get_or heap place cell →
    bytes_eq cell.kind kind ≡ true → IsAccess heap at kind (Ok place)
access_finds heap at kind place cell rising not_null placed is test = by_found (slice_get heap place) refl placed
  where
    by_found : (found : Option Cell) → slice_get heap place ≡ found → IsSomeAnd found (λ (cell : Cell). cell.at ≡ at) →
        IsSomeAnd found (IsUsed heap at kind)
    by_found None there is_at = absurd is_at
    by_found (Some found) there is_at =
        let same : cell ≡ found = is ∙ get_or_from_slice_get heap place found cell there in
        let of_kind : bytes_eq found.kind kind ≡ true = rw same at test in
        let live : cell_at heap at ≡ Some found = cell_at_is heap at place found rising there is_at in
        record {
          address = is_at;
          kind_is = (bytes_eq-Decides found.kind kind).0 of_kind;
          used = λ line use_cell. rw (differs at (pos 0) not_null, live, of_kind) refl;
        }

-- the cell at the place is of another kind
pub access_of_kind : (heap : List Cell) (at : ℤ) (kind : List ℕ) (place : ℕ) (cell : Cell) → AreRising (pos 0) heap → at ≢ pos 0 →
    IsPlace heap at (Ok place) → cell ≡ get_or heap place cell →
    bytes_eq cell.kind kind ≡ false → IsAccess heap at kind (Err fault.Kind)
access_of_kind heap at kind place cell rising not_null placed is test line use_cell = by_found (slice_get heap place) refl placed
  where
    by_found : (found : Option Cell) → slice_get heap place ≡ found → IsSomeAnd found (λ (cell : Cell). cell.at ≡ at) →
        at_cell heap at kind line use_cell ≡ stepped.Fault line fault.Kind
    by_found None there is_at = absurd is_at
    by_found (Some found) there is_at =
        let same : cell ≡ found = is ∙ get_or_from_slice_get heap place found cell there in
        let other : bytes_eq found.kind kind ≡ false = rw same at test in
        let live : cell_at heap at ≡ Some found = cell_at_is heap at place found rising there is_at in
        rw (differs at (pos 0) not_null, live, other) refl

-- there is no cell
pub access_of_none : (heap : List Cell) (at : ℤ) (kind : List ℕ) (place : ℕ) → at ≢ pos 0 → IsPlace heap at (Err place) →
    IsAccess heap at kind (Err fault.Unowned)
access_of_none heap at kind place not_null gap line use_cell = rw (differs at (pos 0) not_null, cell_at-gap heap at place gap) refl

-- what an access comes to that finds its cell
pub at_cell-found : (heap : List Cell) (at : ℤ) (kind : List ℕ) (line place : ℕ) (cell : Cell) (use_cell : Cell → Stepped) →
    IsAccess heap at kind (Ok place) → cell ≡ get_or heap place cell →
    at_cell heap at kind line use_cell ≡ use_cell cell
at_cell-found heap at kind line place cell use_cell access is = by_found (slice_get heap place) refl access
  where
    by_found : (found : Option Cell) → slice_get heap place ≡ found → IsSomeAnd found (IsUsed heap at kind) →
        at_cell heap at kind line use_cell ≡ use_cell cell
    by_found None there used = absurd used
    by_found (Some found) there used =
        let same : cell ≡ found = is ∙ get_or_from_slice_get heap place found cell there in
        used.used line use_cell ∙ ap use_cell (sym same)

-- a cell of a heap has the shape of its structure
shape_at : (structs : List StructDef) (heap : List Cell) (place : ℕ) (cell : Cell) → HaveShapes structs heap →
    slice_get heap place ≡ Some cell → HasShape structs cell
shape_at structs [] place cell shapes is = cc
shape_at structs (first ∷ others) zero cell shapes is = let same : first ≡ cell = cc in rw (← same) shapes.0
shape_at structs (first ∷ others) (suc place) cell shapes is = shape_at structs others place cell shapes.1 is

-- in a heap over the structures each cell of a kind has the fields of that structure
pub have_field : (structs : List StructDef) (heap : List Cell) (kind : List ℕ) (field : ℕ) → IsHeap structs heap →
    IsField structs kind field → HaveField heap kind field
have_field structs heap kind field is_heap is_field place = by_cell (slice_get heap place) refl
  where
    by_def : (cell : Cell) (def : Option StructDef) → IsSomeAnd def (λ (def : StructDef). length cell.fields ≡ length def.fields) →
        IsSomeAnd def (λ (def : StructDef). field < length def.fields) → field < length cell.fields
    by_def cell None shaped within = absurd within
    by_def cell (Some def) shaped within = rw shaped within

    by_cell : (cell : Option Cell) → slice_get heap place ≡ cell →
        IfSome cell (λ (cell : Cell). cell.kind ≡ kind → field < length cell.fields)
    by_cell None is = tt
    by_cell (Some cell) is = λ is_kind.
        let shaped : HasShape structs cell = shape_at structs heap place cell is_heap.shaped is in
        by_def cell (struct_named structs kind) (rw is_kind at shaped) is_field
