-- What the machine does to a heap, cell by cell: a cell put in, one taken out, a number written into a field.
use Rattle.std.specs.Prelude.{◌≡◌, ℕ, ℤ, pos, ◌<ℤ◌, ◌≤ℤ◌, int_lt, Bool, true, false, List, [], ◌∷◌, length, slice_set}
use Rattle.std.specs.Option.{IsSomeAnd}
use Rattle.std.specs.Ordering.{int_eq}
use Rattle.std.specs.declared.option.Option.{Option}
use Rattle.std.specs.declared.option.Option.TheVariants.{None, Some}
use Rattle.std.proofs.Common.{refl, ◌∙◌, arith}
use Rattle.std.proofs.lemmas.Bool.Decides.{Decides-int_eq}
use Rattle.std.proofs.lemmas.Int.{ints}
use Rattle.std.proofs.lemmas.List.{length-set}
use Rattle.shape_data.specs.declared.machine.Cell.{Cell}
use Rattle.shape_data.specs.declared.program.StructDef.{StructDef}
use Rattle.shape_data.specs.Heap.{cell_at, put, without, with_field, struct_named, first_of_two, AreRising, HasShape, HaveShapes, IsHeap}

int_eq_itself : (z : ℤ) → int_eq z z ≡ true
int_eq_itself z = (Decides-int_eq z z).1 refl

-- ---- rising addresses

pub lower_rising : (low lower : ℤ) (heap : List Cell) → lower ≤ℤ low → AreRising low heap → AreRising lower heap
lower_rising low lower [] under rising = tt
lower_rising low lower (cell ∷ cells) under rising =
    let here : low <ℤ cell.at = rising.0 in
    let first : lower <ℤ cell.at = grind (arith, ints) in
    (first, rising.1)

-- at or below the bound there is no cell
pub low_none : (low at : ℤ) (heap : List Cell) → AreRising low heap → at ≤ℤ low → cell_at heap at ≡ None
low_none low at [] rising under = refl
low_none low at (cell ∷ cells) rising under =
    let above : low <ℤ cell.at = rising.0 in
    let later : at ≤ℤ cell.at = grind (arith, ints) in
    by_test (low_none cell.at at cells rising.1 later) (int_eq cell.at at) refl
  where
    by_test : cell_at cells at ≡ None → (b : Bool) → int_eq cell.at at ≡ b → cell_at (cell ∷ cells) at ≡ None
    by_test later true e =
        let same : cell.at ≡ at = (Decides-int_eq cell.at at).0 e in
        let above : low <ℤ cell.at = rising.0 in
        absurd (grind (arith, ints))
    by_test later false e = simp (e, later)

-- ---- a cell that is put

pub cell_at-put_same : (cell : Cell) (heap : List Cell) → cell_at (put cell heap) cell.at ≡ Some cell
cell_at-put_same cell [] = simp (int_eq_itself cell.at)
cell_at-put_same cell (first ∷ others) =
    by_test (cell_at-put_same cell others) (int_lt cell.at first.at) refl (int_eq first.at cell.at) refl
  where
    by_test : cell_at (put cell others) cell.at ≡ Some cell → (b : Bool) → int_lt cell.at first.at ≡ b → (d : Bool) →
        int_eq first.at cell.at ≡ d →
        cell_at (put cell (first ∷ others)) cell.at ≡ Some cell
    by_test later true e d f = simp (e, int_eq_itself cell.at)
    by_test later false e true f = rw (f, e, int_eq_itself cell.at) refl
    by_test later false e false f = rw (f, e, f) later

pub cell_at-put_other : (cell : Cell) (heap : List Cell) (other : ℤ) → int_eq cell.at other ≡ false →
    cell_at (put cell heap) other ≡ cell_at heap other
cell_at-put_other cell [] other apart = simp apart
cell_at-put_other cell (first ∷ others) other apart =
    by_test (cell_at-put_other cell others other apart) (int_lt cell.at first.at) refl (int_eq first.at cell.at) refl
  where
    by_test : cell_at (put cell others) other ≡ cell_at others other → (b : Bool) → int_lt cell.at first.at ≡ b → (d : Bool) →
        int_eq first.at cell.at ≡ d →
        cell_at (put cell (first ∷ others)) other ≡ cell_at (first ∷ others) other
    by_test later true e d f = simp (e, apart)
    by_test later false e true f =
        let same : first.at ≡ cell.at = (Decides-int_eq first.at cell.at).0 f in
        let not_other : int_eq first.at other ≡ false = rw same apart in
        rw (f, e, apart, not_other) refl
    by_test later false e false f = rw (f, e, later) refl

pub rising-put : (low : ℤ) (cell : Cell) (heap : List Cell) → AreRising low heap → low <ℤ cell.at → AreRising low (put cell heap)
rising-put low cell [] rising above = (above, tt)
rising-put low cell (first ∷ others) rising above =
    by_test (rising-put first.at cell others rising.1) (int_lt cell.at first.at) refl (int_eq first.at cell.at) refl
  where
    by_test : (first.at <ℤ cell.at → AreRising first.at (put cell others)) → (b : Bool) → int_lt cell.at first.at ≡ b → (d : Bool) →
        int_eq first.at cell.at ≡ d →
        AreRising low (put cell (first ∷ others))
    by_test later true e d f = let under : cell.at <ℤ first.at = grind (arith, ints) in simp e (above, (under, rising.1))
    by_test later false e true f =
        let same : first.at ≡ cell.at = (Decides-int_eq first.at cell.at).0 f in
        rw (f, e) (above, rw same at rising.1)
    by_test later false e false f =
        let under : first.at <ℤ cell.at = grind (arith, ints, (Decides-int_eq first.at cell.at).1) in
        rw (f, e) (rising.0, later under)

pub shapes-put : (structs : List StructDef) (cell : Cell) (heap : List Cell) → HasShape structs cell → HaveShapes structs heap →
    HaveShapes structs (put cell heap)
shapes-put structs cell [] one all = (one, tt)
shapes-put structs cell (first ∷ others) one all =
    by_test (shapes-put structs cell others one all.1) (int_lt cell.at first.at) refl (int_eq first.at cell.at) refl
  where
    by_test : HaveShapes structs (put cell others) → (b : Bool) → int_lt cell.at first.at ≡ b → (d : Bool) → int_eq first.at cell.at ≡ d →
        HaveShapes structs (put cell (first ∷ others))
    by_test later true e d f = rw e (one, all)
    by_test later false e true f = rw (f, e) (one, all.1)
    by_test later false e false f = rw (f, e) (all.0, later)

pub IsHeap-put : {structs : List StructDef} {heap : List Cell} (cell : Cell) → pos 0 <ℤ cell.at → HasShape structs cell →
    IsHeap structs heap → IsHeap structs (put cell heap)
IsHeap-put {structs} {heap} cell above has_shape is_heap = record {
  rising = rising-put (pos 0) cell heap is_heap.rising above;
  shaped = shapes-put structs cell heap has_shape is_heap.shaped;
}

-- ---- a cell that goes

pub cell_at-without_same : (low at : ℤ) (heap : List Cell) → AreRising low heap → cell_at (without at heap) at ≡ None
cell_at-without_same low at [] rising = refl
cell_at-without_same low at (first ∷ others) rising = by_test (cell_at-without_same first.at at others rising.1) (int_eq first.at at) refl
  where
    by_test : cell_at (without at others) at ≡ None → (b : Bool) → int_eq first.at at ≡ b → cell_at (without at (first ∷ others)) at ≡ None
    by_test later true e =
        let same : first.at ≡ at = (Decides-int_eq first.at at).0 e in
        let under : at ≤ℤ first.at = grind (arith, ints) in
        rw e (low_none first.at at others rising.1 under)
    by_test later false e = rw (e, e) later

pub cell_at-without_other : (at : ℤ) (heap : List Cell) (other : ℤ) → int_eq at other ≡ false →
    cell_at (without at heap) other ≡ cell_at heap other
cell_at-without_other at [] other apart = refl
cell_at-without_other at (first ∷ others) other apart = by_test (cell_at-without_other at others other apart) (int_eq first.at at) refl
  where
    by_test : cell_at (without at others) other ≡ cell_at others other → (b : Bool) → int_eq first.at at ≡ b →
        cell_at (without at (first ∷ others)) other ≡ cell_at (first ∷ others) other
    by_test later true e =
        let same : first.at ≡ at = (Decides-int_eq first.at at).0 e in
        let not_other : int_eq first.at other ≡ false = rw same apart in
        rw (e, not_other) refl
    by_test later false e = simp (e, later)

pub rising-without : (low at : ℤ) (heap : List Cell) → AreRising low heap → AreRising low (without at heap)
rising-without low at [] rising = tt
rising-without low at (first ∷ others) rising = by_test (rising-without first.at at others rising.1) (int_eq first.at at) refl
  where
    by_test : AreRising first.at (without at others) → (b : Bool) → int_eq first.at at ≡ b → AreRising low (without at (first ∷ others))
    by_test later true e =
        let above : low <ℤ first.at = rising.0 in
        let under : low ≤ℤ first.at = grind (arith, ints) in
        rw e (lower_rising first.at low others under rising.1)
    by_test later false e = rw e (rising.0, later)

pub shapes-without : (structs : List StructDef) (at : ℤ) (heap : List Cell) → HaveShapes structs heap → HaveShapes structs (without at heap)
shapes-without structs at [] all = tt
shapes-without structs at (first ∷ others) all = by_test (shapes-without structs at others all.1) (int_eq first.at at) refl
  where
    by_test : HaveShapes structs (without at others) → (b : Bool) → int_eq first.at at ≡ b →
        HaveShapes structs (without at (first ∷ others))
    by_test later true e = rw e all.1
    by_test later false e = rw e (all.0, later)

pub IsHeap-without : {structs : List StructDef} {heap : List Cell} (at : ℤ) → IsHeap structs heap → IsHeap structs (without at heap)
IsHeap-without {structs} {heap} at is_heap = record {
  rising = rising-without (pos 0) at heap is_heap.rising;
  shaped = shapes-without structs at heap is_heap.shaped;
}

-- ---- a number that is stored

-- a cell with a number in a field
abbrev pub with_number : ℕ → ℤ → Option Cell → Option Cell
with_number field value None = None
with_number field value (Some cell) = Some (record cell { fields = slice_set cell.fields field value })

pub cell_at-with_field_same : (heap : List Cell) (at : ℤ) (field : ℕ) (value : ℤ) →
    cell_at (with_field heap at field value) at ≡ with_number field value (cell_at heap at)
cell_at-with_field_same [] at field value = refl
cell_at-with_field_same (first ∷ others) at field value = by_test (cell_at-with_field_same others at field value) (int_eq first.at at) refl
  where
    by_test : cell_at (with_field others at field value) at ≡ with_number field value (cell_at others at) → (b : Bool) →
        int_eq first.at at ≡ b →
        cell_at (with_field (first ∷ others) at field value) at ≡ with_number field value (cell_at (first ∷ others) at)
    by_test later true e = simp e
    by_test later false e = simp (e, later)

pub cell_at-with_field_other : (heap : List Cell) (at : ℤ) (field : ℕ) (value : ℤ) (other : ℤ) → int_eq at other ≡ false →
    cell_at (with_field heap at field value) other ≡ cell_at heap other
cell_at-with_field_other [] at field value other apart = refl
cell_at-with_field_other (first ∷ others) at field value other apart =
    by_test (cell_at-with_field_other others at field value other apart) (int_eq first.at at) refl
  where
    by_test : cell_at (with_field others at field value) other ≡ cell_at others other → (b : Bool) → int_eq first.at at ≡ b →
        cell_at (with_field (first ∷ others) at field value) other ≡ cell_at (first ∷ others) other
    by_test later true e =
        let same : first.at ≡ at = (Decides-int_eq first.at at).0 e in
        let not_other : int_eq first.at other ≡ false = rw same apart in
        simp (e, not_other)
    by_test later false e = simp (e, later)

pub rising-with_field : (low : ℤ) (heap : List Cell) (at : ℤ) (field : ℕ) (value : ℤ) → AreRising low heap →
    AreRising low (with_field heap at field value)
rising-with_field low [] at field value rising = tt
rising-with_field low (first ∷ others) at field value rising =
    by_test (rising-with_field first.at others at field value rising.1) (int_eq first.at at) refl
  where
    by_test : AreRising first.at (with_field others at field value) → (b : Bool) → int_eq first.at at ≡ b →
        AreRising low (with_field (first ∷ others) at field value)
    by_test later true e = rw e rising
    by_test later false e = rw e (rising.0, later)

-- a number in a field leaves the count of fields
shape-set : (structs : List StructDef) (cell : Cell) (field : ℕ) (value : ℤ) → HasShape structs cell →
    HasShape structs (record cell { fields = slice_set cell.fields field value })
shape-set structs cell field value has_shape = by_struct (struct_named structs cell.kind) has_shape
  where
    by_struct : (def : Option StructDef) → IsSomeAnd def (λ def. length cell.fields ≡ length def.fields) →
        IsSomeAnd def (λ def. length (slice_set cell.fields field value) ≡ length def.fields)
    by_struct None has = has
    by_struct (Some def) has = length-set cell.fields field value ∙ has

pub shapes-with_field : (structs : List StructDef) (heap : List Cell) (at : ℤ) (field : ℕ) (value : ℤ) → HaveShapes structs heap →
    HaveShapes structs (with_field heap at field value)
shapes-with_field structs [] at field value all = tt
shapes-with_field structs (first ∷ others) at field value all =
    by_test (shapes-with_field structs others at field value all.1) (int_eq first.at at) refl
  where
    by_test : HaveShapes structs (with_field others at field value) → (b : Bool) → int_eq first.at at ≡ b →
        HaveShapes structs (with_field (first ∷ others) at field value)
    by_test later true e = rw e (shape-set structs first field value all.0, all.1)
    by_test later false e = rw e (all.0, later)

pub IsHeap-with_field : {structs : List StructDef} {heap : List Cell} (at : ℤ) (field : ℕ) (value : ℤ) → IsHeap structs heap →
    IsHeap structs (with_field heap at field value)
IsHeap-with_field {structs} {heap} at field value is_heap = record {
  rising = rising-with_field (pos 0) heap at field value is_heap.rising;
  shaped = shapes-with_field structs heap at field value is_heap.shaped;
}

-- where the second is not there, the first of two is the first
pub first_right_none : (left right : Option Cell) → right ≡ None → first_of_two left right ≡ left
first_right_none None right e = e
first_right_none (Some cell) right e = refl
