-- What stands at a place of a heap that rises, and what an edit at that place does.
use Rattle.std.proofs.Common.{◌≡◌, ◌∙◌, ℕ, zero, suc, ◌+◌, ◌<◌, ◌≤◌, ℤ, pos, ◌<ℤ◌, Bool, true, false, List, [], ◌∷◌, length, get_or, IfSome}
use Rattle.std.proofs.Common.{IsSomeAnd, is_some, is_ok, Option, Some, None, Result, Ok, Err, slice_get, slice_set, refl, sym, ap, subst}
use Rattle.std.proofs.Common.{arith}
use Rattle.std.specs.Prelude.{int_lt}
use Rattle.std.specs.List.{insert, remove}
use Rattle.std.specs.List.Sorted.{IsSearchInRange, IsBinarySearchResult, IsPartitionPoint, IsSortedBy}
use Rattle.std.specs.Ordering.{int_cmp, int_eq, is_lt}
use Rattle.std.specs.declared.cmp.Ordering.TheVariants.{Less, Equal, Greater}
use Rattle.std.specs.Cmp.{int_ranks}
use Rattle.std.proofs.lemmas.Bool.Decides.{Decides-int_eq}
use Rattle.std.proofs.lemmas.Cmp.{int_cmp_total}
use Rattle.std.proofs.lemmas.Int.{ints}
use Rattle.std.proofs.lemmas.List.Sorted.{searchable_from_sorted}
use Rattle.std.proofs.lemmas.Option.{get_or_from_slice_get, slice_get_within}
use Rattle.shape_data.specs.declared.machine.Cell.{Cell}
use Rattle.shape_data.specs.Heap.{cell_at, put, with_field, without, AreRising}
use Rattle.sym_parts.proofs.ShapesLemmas.StepsStacks.{within-some}
use Rattle.heap_run.specs.Places.{IsGap, IsPlace}

int_eq_itself : (z : ℤ) → int_eq z z ≡ true
int_eq_itself z = (Decides-int_eq z z).1 refl

below_is_other : (x y : ℤ) → x <ℤ y → int_eq x y ≡ false
below_is_other x y below = by_test (int_eq x y) refl
  where
    by_test : (b : Bool) → int_eq x y ≡ b → int_eq x y ≡ false
    by_test true e = let same : x ≡ y = (Decides-int_eq x y).0 e in absurd (grind (arith, ints))
    by_test false e = e

above_is_other : (x y : ℤ) → x <ℤ y → int_eq y x ≡ false
above_is_other x y below = by_test (int_eq y x) refl
  where
    by_test : (b : Bool) → int_eq y x ≡ b → int_eq y x ≡ false
    by_test true e = let same : y ≡ x = (Decides-int_eq y x).0 e in absurd (grind (arith, ints))
    by_test false e = e

-- ---- a cell at a place

-- each cell is above the bound
place_above : (low : ℤ) (heap : List Cell) (place : ℕ) (cell : Cell) → AreRising low heap → slice_get heap place ≡ Some cell →
    low <ℤ cell.at
place_above low [] place cell rising is = cc
place_above low (first ∷ others) zero cell rising is = let same : first ≡ cell = cc in rw (← same) rising.0
place_above low (first ∷ others) (suc place) cell rising is =
    let here : low <ℤ first.at = rising.0 in
    let there : first.at <ℤ cell.at = place_above first.at others place cell rising.1 is in
    grind (arith, ints)

-- the first of more than one is at another address
first_is_other : (low : ℤ) (first : Cell) (others : List Cell) (place : ℕ) (cell : Cell) → AreRising low (first ∷ others) →
    slice_get others place ≡ Some cell → int_eq first.at cell.at ≡ false
first_is_other low first others place cell rising is = below_is_other first.at cell.at (place_above first.at others place cell rising.1 is)

pub cell_at-place : (low : ℤ) (heap : List Cell) (place : ℕ) (cell : Cell) → AreRising low heap → slice_get heap place ≡ Some cell →
    cell_at heap cell.at ≡ Some cell
cell_at-place low [] place cell rising is = cc
cell_at-place low (first ∷ others) zero cell rising is = let same : first ≡ cell = cc in rw (← same, int_eq_itself first.at) refl
cell_at-place low (first ∷ others) (suc place) cell rising is =
    rw (first_is_other low first others place cell rising is) (cell_at-place first.at others place cell rising.1 is)

pub with_field-place : (low : ℤ) (heap : List Cell) (place : ℕ) (cell : Cell) (field : ℕ) (value : ℤ) → AreRising low heap →
    slice_get heap place ≡ Some cell →
    with_field heap cell.at field value ≡ slice_set heap place (record cell { fields = slice_set cell.fields field value })
with_field-place low [] place cell field value rising is = cc
with_field-place low (first ∷ others) zero cell field value rising is =
    let same : first ≡ cell = cc in rw (← same, int_eq_itself first.at) refl
with_field-place low (first ∷ others) (suc place) cell field value rising is =
    rw (first_is_other low first others place cell rising is)
    (ap (λ rest. first ∷ rest) (with_field-place first.at others place cell field value rising.1 is))

pub without-place : (low : ℤ) (heap : List Cell) (place : ℕ) (cell : Cell) → AreRising low heap → slice_get heap place ≡ Some cell →
    without cell.at heap ≡ remove heap place
without-place low [] place cell rising is = cc
without-place low (first ∷ others) zero cell rising is = let same : first ≡ cell = cc in rw (← same, int_eq_itself first.at) refl
without-place low (first ∷ others) (suc place) cell rising is =
    rw (first_is_other low first others place cell rising is)
    (ap (λ rest. first ∷ rest) (without-place first.at others place cell rising.1 is))

-- the same where the address is known by an equation
pub cell_at_is : (heap : List Cell) (at : ℤ) (place : ℕ) (cell : Cell) → AreRising (pos 0) heap → slice_get heap place ≡ Some cell →
    cell.at ≡ at → cell_at heap at ≡ Some cell
cell_at_is heap at place cell rising is is_at =
    subst (λ (a : ℤ). cell_at heap a ≡ Some cell) is_at (cell_at-place (pos 0) heap place cell rising is)

pub without_is : (heap : List Cell) (at : ℤ) (place : ℕ) (cell : Cell) → AreRising (pos 0) heap → slice_get heap place ≡ Some cell →
    cell.at ≡ at → without at heap ≡ remove heap place
without_is heap at place cell rising is is_at =
    subst (λ (a : ℤ). without a heap ≡ remove heap place) is_at (without-place (pos 0) heap place cell rising is)

-- ---- a gap

gap_behind : (first : Cell) (others : List Cell) (at : ℤ) (place : ℕ) → IsGap (first ∷ others) at (suc place) → IsGap others at place
gap_behind first others at place gap = record {
  within = omega (arith, gap.within);
  lower = λ k under. gap.lower (suc k) (omega arith);
  higher = λ k over. gap.higher (suc k) (omega arith);
}

gap_before : (first : Cell) (others : List Cell) (at : ℤ) → IsGap (first ∷ others) at zero → IsGap others at zero
gap_before first others at gap = record {
  within = omega arith;
  lower = λ k under. absurd (omega arith);
  higher = λ k over. gap.higher (suc k) (omega arith);
}

pub cell_at-gap : (heap : List Cell) (at : ℤ) (place : ℕ) → IsGap heap at place → cell_at heap at ≡ None
cell_at-gap [] at place gap = refl
cell_at-gap (first ∷ others) at zero gap =
    let above : at <ℤ first.at = gap.higher 0 (omega arith) in
    rw (above_is_other at first.at above) (cell_at-gap others at zero (gap_before first others at gap))
cell_at-gap (first ∷ others) at (suc place) gap =
    let below : first.at <ℤ at = gap.lower 0 (omega arith) in
    rw (below_is_other first.at at below) (cell_at-gap others at place (gap_behind first others at place gap))

pub without-gap : (heap : List Cell) (at : ℤ) (place : ℕ) → IsGap heap at place → without at heap ≡ heap
without-gap [] at place gap = refl
without-gap (first ∷ others) at zero gap =
    let above : at <ℤ first.at = gap.higher 0 (omega arith) in
    rw (above_is_other at first.at above) (ap (λ rest. first ∷ rest) (without-gap others at zero (gap_before first others at gap)))
without-gap (first ∷ others) at (suc place) gap =
    let below : first.at <ℤ at = gap.lower 0 (omega arith) in
    rw (below_is_other first.at at below) (ap (λ rest. first ∷ rest) (without-gap others at place (gap_behind first others at place gap)))

lt_is : (x y : ℤ) → x <ℤ y → int_lt x y ≡ true
lt_is x y below = by_test (int_lt x y) refl
  where
    by_test : (b : Bool) → int_lt x y ≡ b → int_lt x y ≡ true
    by_test true e = e
    by_test false e = absurd (grind (arith, ints))

not_lt_is : (x y : ℤ) → y <ℤ x → int_lt x y ≡ false
not_lt_is x y above = by_test (int_lt x y) refl
  where
    by_test : (b : Bool) → int_lt x y ≡ b → int_lt x y ≡ false
    by_test true e = absurd (grind (arith, ints))
    by_test false e = e

pub put-gap : (heap : List Cell) (cell : Cell) (place : ℕ) → IsGap heap cell.at place → put cell heap ≡ insert heap place cell
put-gap [] cell zero gap = refl
put-gap [] cell (suc place) gap = absurd (omega (arith, gap.within))
put-gap (first ∷ others) cell zero gap =
    let above : cell.at <ℤ first.at = gap.higher 0 (omega arith) in
    rw (lt_is cell.at first.at above) refl
put-gap (first ∷ others) cell (suc place) gap =
    let below : first.at <ℤ cell.at = gap.lower 0 (omega arith) in
    rw (below_is_other first.at cell.at below, not_lt_is cell.at first.at below)
    (ap (λ rest. first ∷ rest) (put-gap others cell place (gap_behind first others cell.at place gap)))

-- ---- a binary search

-- a heap that rises is sorted by its addresses
rising_sorted : (low : ℤ) (heap : List Cell) → AreRising low heap → IsSortedBy (λ (a b : Cell). is_lt (int_cmp a.at b.at)) heap
rising_sorted low [] rising k d over under = absurd (omega arith)
rising_sorted low (first ∷ []) rising k d over under = absurd (omega arith)
rising_sorted low (first ∷ next ∷ others) rising zero d over under =
    let below : first.at <ℤ next.at = rising.1.0 in
    rw (not_lt_is next.at first.at below, lt_is first.at next.at below) refl
rising_sorted low (first ∷ next ∷ others) rising (suc k) d over under =
    let next_is : suc k + 1 ≡ suc (k + 1) = omega arith in
    rw next_is (rising_sorted first.at (next ∷ others) rising.1 k d (omega arith) (omega arith))

-- what a comparison of addresses answers
equal_is : (x y : ℤ) → int_cmp x y ≡ Equal → x ≡ y
equal_is x y e = rw e at (int_ranks x y)

less_is : (x y : ℤ) → int_cmp x y ≡ Less → x <ℤ y
less_is x y e = rw e at (int_ranks x y)

greater_is : (x y : ℤ) → int_cmp x y ≡ Greater → y <ℤ x
greater_is x y e = rw e at (int_ranks x y)

-- where the search answers
pub searched : (heap : List Cell) (at : ℤ) (result : Result ℕ ℕ) → AreRising (pos 0) heap → IsSearchInRange result (length heap) →
    IsBinarySearchResult (λ (cell : Cell). int_cmp cell.at at) heap result → IsPlace heap at result
searched heap at (Ok place) rising range found =
    let there = within-some heap place range in
    let cell : Cell = there.0 in
    let is : get_or heap place cell ≡ cell = get_or_from_slice_get heap place cell cell there.1 in
    let equal : int_cmp cell.at at ≡ Equal = rw is at (found cell) in
    rw there.1 (equal_is cell.at at equal)
searched heap at (Err place) rising range found = record {
  within = range;
  lower = λ k under. by_lower k under (slice_get heap k) refl;
  higher = λ k over. by_higher k over (slice_get heap k) refl;
}
  where
    points : IsPartitionPoint (λ (cell : Cell). int_cmp cell.at at ≡ Less) (λ (cell : Cell). int_cmp cell.at at ≡ Greater) heap place
    points = found (searchable_from_sorted int_cmp_total (λ (cell : Cell). cell.at) heap at (rising_sorted (pos 0) heap rising))

    by_lower : (k : ℕ) → k < place → (cell : Option Cell) → slice_get heap k ≡ cell → IfSome cell (λ (cell : Cell). cell.at <ℤ at)
    by_lower k under None is = tt
    by_lower k under (Some cell) is =
        let here : get_or heap k cell ≡ cell = get_or_from_slice_get heap k cell cell is in
        less_is cell.at at (rw here at (points.0 k cell (omega arith) under))

    by_higher : (k : ℕ) → place ≤ k → (cell : Option Cell) → slice_get heap k ≡ cell → IfSome cell (λ (cell : Cell). at <ℤ cell.at)
    by_higher k over None is = tt
    by_higher k over (Some cell) is =
        let here : get_or heap k cell ≡ cell = get_or_from_slice_get heap k cell cell is in
        greater_is cell.at at (rw here at (points.1 k cell over (slice_get_within heap k cell is)))

-- ---- what a place tells

-- whether there is a cell
pub is_some-place : (heap : List Cell) (at : ℤ) (result : Result ℕ ℕ) → AreRising (pos 0) heap → IsPlace heap at result →
    is_ok result ≡ is_some (cell_at heap at)
is_some-place heap at (Ok place) rising placed = by_found (slice_get heap place) refl placed
  where
    by_found : (found : Option Cell) → slice_get heap place ≡ found → IsSomeAnd found (λ (cell : Cell). cell.at ≡ at) →
        true ≡ is_some (cell_at heap at)
    by_found None there is_at = absurd is_at
    by_found (Some found) there is_at = rw (cell_at_is heap at place found rising there is_at) refl
is_some-place heap at (Err place) rising gap = rw (cell_at-gap heap at place gap) refl

-- the heap without the cell
pub without-found : (heap : List Cell) (at : ℤ) (place : ℕ) → AreRising (pos 0) heap → IsPlace heap at (Ok place) →
    remove heap place ≡ without at heap
without-found heap at place rising placed = by_found (slice_get heap place) refl placed
  where
    by_found : (found : Option Cell) → slice_get heap place ≡ found → IsSomeAnd found (λ (cell : Cell). cell.at ≡ at) →
        remove heap place ≡ without at heap
    by_found None there is_at = absurd is_at
    by_found (Some found) there is_at = sym (without_is heap at place found rising there is_at)

-- the heap with a number in a field of the cell
pub with_field-found : (heap new : List Cell) (place : ℕ) (cell : Cell) (field : ℕ) (value : ℤ) → AreRising (pos 0) heap →
    cell ≡ get_or heap place cell →
    new ≡ slice_set heap place (record cell { fields = slice_set cell.fields field value }) →
    IfSome (slice_get heap place) (λ (cell : Cell). new ≡ with_field heap cell.at field value)
with_field-found heap new place cell field value rising is written = by_found (slice_get heap place) refl
  where
    by_found : (found : Option Cell) → slice_get heap place ≡ found →
        IfSome found (λ (cell : Cell). new ≡ with_field heap cell.at field value)
    by_found None there = tt
    by_found (Some found) there =
        let same : cell ≡ found = is ∙ get_or_from_slice_get heap place found cell there in
        (rw same at written) ∙ sym (with_field-place (pos 0) heap place found field value rising there)
