-- Sums of heaps: commutative, associative, with the empty heap as unit.
use Rattle.std.specs.Prelude.{◌≡◌, ℤ, pos, ◌<ℤ◌, ◌≤ℤ◌, int_lt, Bool, true, false, List, [], ◌∷◌, IsSome}
use Rattle.std.proofs.Common.{refl, sym, ap, ◌∙◌, arith}
use Rattle.std.specs.Ordering.{int_eq}
use Rattle.std.specs.declared.option.Option.{Option}
use Rattle.std.specs.declared.option.Option.TheVariants.{None, Some}
use Rattle.std.proofs.lemmas.Bool.Decides.{Decides-int_eq}
use Rattle.std.proofs.lemmas.Int.{ints}
use Rattle.shape_data.specs.declared.machine.Cell.{Cell}
use Rattle.shape_data.specs.declared.program.StructDef.{StructDef}
use Rattle.shape_data.specs.Heap.{cell_at, union, first_of_two, AreRising, Disjoint, HaveShapes, IsHeap, IsSum}
use Rattle.sym_parts.proofs.ShapesLemmas.Cells.{first_right_none, low_none, lower_rising, rising-put, shapes-put}
use Rattle.sym_parts.proofs.ShapesLemmas.Unions.{cell_at-union}

first_none : (left right : Option Cell) → first_of_two left right ≡ None → (left ≡ None) × (right ≡ None)
first_none None right e = (refl, e)
first_none (Some cell) right e = cc

first_swaps : (left right : Option Cell) → (IsSome left → right ≡ None) → first_of_two left right ≡ first_of_two right left
first_swaps None right apart = sym (first_right_none right None refl)
first_swaps (Some cell) right apart = rw (apart refl) refl

swapped_apart : (left right : Option Cell) → (IsSome left → right ≡ None) → IsSome right → left ≡ None
swapped_apart None right apart some = refl
swapped_apart (Some cell) None apart some = cc
swapped_apart (Some cell) (Some other) apart some = let e : Some other ≡ None = apart refl in cc

first_assoc : (a b c : Option Cell) → first_of_two (first_of_two a b) c ≡ first_of_two a (first_of_two b c)
first_assoc None b c = refl
first_assoc (Some cell) b c = refl

some_of_first : (a b : Option Cell) (P : Type 0) → (IsSome a → P) → (IsSome b → P) → IsSome (first_of_two a b) → P
some_of_first None b P on_left on_right some = on_right some
some_of_first (Some cell) b P on_left on_right some = on_left refl

-- a cell's address lies above the bound, and so do those of the later cells
rising_from : (low : ℤ) (cell : Cell) (cells : List Cell) → low <ℤ cell.at → AreRising cell.at cells → AreRising low cells
rising_from low cell cells above rising = let under : low ≤ℤ cell.at = grind (arith, ints) in lower_rising cell.at low cells under rising

pub rising-union : (low : ℤ) (left right : List Cell) → AreRising low left → AreRising low right → AreRising low (union left right)
rising-union low [] right rising others = others
rising-union low (cell ∷ cells) right rising others =
    rising-put low cell (union cells right) (rising-union low cells right (rising_from low cell cells rising.0 rising.1) others) rising.0

shapes-union : (structs : List StructDef) (left right : List Cell) → HaveShapes structs left → HaveShapes structs right →
    HaveShapes structs (union left right)
shapes-union structs [] right all others = others
shapes-union structs (cell ∷ cells) right all others =
    shapes-put structs cell (union cells right) all.0 (shapes-union structs cells right all.1 others)

pub IsHeap-union : (structs : List StructDef) (left right : List Cell) → IsHeap structs left → IsHeap structs right →
    IsHeap structs (union left right)
IsHeap-union structs left right is_left is_right = record {
  rising = rising-union (pos 0) left right is_left.rising is_right.rising;
  shaped = shapes-union structs left right is_left.shaped is_right.shaped;
}

pub IsHeap-empty : (structs : List StructDef) → IsHeap structs []
IsHeap-empty structs = record { rising = tt; shaped = tt }

pub IsSum-sym : {structs : List StructDef} {whole left right : List Cell} → IsSum structs whole left right → IsSum structs whole right left
IsSum-sym {structs} {whole} {left} {right} sum = record {
  is_heap = sum.is_heap;
  left_is_heap = sum.right_is_heap;
  right_is_heap = sum.left_is_heap;
  cells = λ at. sum.cells at ∙ first_swaps (cell_at left at) (cell_at right at) (sum.apart at);
  apart = λ at. swapped_apart (cell_at left at) (cell_at right at) (sum.apart at);
}

pub IsSum-unit : {structs : List StructDef} {heap : List Cell} → IsHeap structs heap → IsSum structs heap [] heap
IsSum-unit {structs} is_heap = record {
  is_heap = is_heap;
  left_is_heap = IsHeap-empty structs;
  right_is_heap = is_heap;
  cells = λ at. refl;
  apart = λ at some. cc;
}

-- the union of the two left parts of a sum of three
pub IsSum-left : {structs : List StructDef} {whole first others second third : List Cell} → IsSum structs whole first others →
    IsSum structs others second third →
    IsSum structs (union first second) first second
IsSum-left {structs} {whole} {first} {others} {second} {third} outer inner = record {
  is_heap = IsHeap-union structs first second outer.left_is_heap inner.left_is_heap;
  left_is_heap = outer.left_is_heap;
  right_is_heap = inner.left_is_heap;
  cells = λ at. cell_at-union first second at;
  apart = λ at some. (first_none (cell_at second at) (cell_at third at) (sym (inner.cells at) ∙ outer.apart at some)).0;
}

pub IsSum-assoc : {structs : List StructDef} {whole first others second third : List Cell} → IsSum structs whole first others →
    IsSum structs others second third →
    IsSum structs whole (union first second) third
IsSum-assoc {structs} {whole} {first} {others} {second} {third} outer inner = record {
  is_heap = outer.is_heap;
  left_is_heap = IsHeap-union structs first second outer.left_is_heap inner.left_is_heap;
  right_is_heap = inner.right_is_heap;
  cells =
      λ at. rw (cell_at-union first second at, first_assoc (cell_at first at) (cell_at second at) (cell_at third at), ← inner.cells at)
      (outer.cells at);
  apart = λ at some. some_of_first (cell_at first at) (cell_at second at) (cell_at third at ≡ None)
      (λ in_first. (first_none (cell_at second at) (cell_at third at) (sym (inner.cells at) ∙ outer.apart at in_first)).1)
      (inner.apart at)
      (rw (cell_at-union first second at) at some);
}

pub at_first : (cell : Cell) (cells : List Cell) → cell_at (cell ∷ cells) cell.at ≡ Some cell
at_first cell cells = simp ((Decides-int_eq cell.at cell.at).1 refl)

pub at_later : (cell : Cell) (cells : List Cell) (at : ℤ) → cell.at <ℤ at → cell_at (cell ∷ cells) at ≡ cell_at cells at
at_later cell cells at above = by_test (int_eq cell.at at) refl
  where
    by_test : (b : Bool) → int_eq cell.at at ≡ b → cell_at (cell ∷ cells) at ≡ cell_at cells at
    by_test true e =
        let same : cell.at ≡ at = (Decides-int_eq cell.at at).0 e in
        absurd (grind (arith, ints))
    by_test false e = simp e

-- a heap whose look-ups are all empty is empty
no_cells : (low : ℤ) (heap : List Cell) → ((at : ℤ) → cell_at heap at ≡ None) → heap ≡ []
no_cells low [] none = refl
no_cells low (cell ∷ cells) none = let e : None ≡ Some cell = sym (none cell.at) ∙ at_first cell cells in cc

pub same_cells : (low : ℤ) (left right : List Cell) → AreRising low left → AreRising low right →
    ((at : ℤ) → cell_at left at ≡ cell_at right at) → left ≡ right
same_cells low [] right rising others equal = sym (no_cells low right (λ at. sym (equal at)))
same_cells low (cell ∷ cells) [] rising others equal = no_cells low (cell ∷ cells) equal
same_cells low (cell ∷ cells) (other ∷ rest) rising others equal =
    by_order (λ rising_rest. same_cells cell.at cells rest rising.1 rising_rest) (int_lt cell.at other.at) refl
    (int_lt other.at cell.at) refl
  where
    later : cell ≡ other → cells ≡ rest → cell ∷ cells ≡ other ∷ rest
    later e f = cc

    tails : cell ≡ other → (at : ℤ) → cell_at cells at ≡ cell_at rest at
    tails e at = by_test (int_lt cell.at at) refl
      where
        by_test : (b : Bool) → int_lt cell.at at ≡ b → cell_at cells at ≡ cell_at rest at
        by_test true f =
            let above : cell.at <ℤ at = grind (arith, ints) in
            let other_above : other.at <ℤ at = rw (← e) above in
            sym (at_later cell cells at above) ∙ equal at ∙ at_later other rest at other_above
        by_test false f =
            let under : at ≤ℤ cell.at = grind (arith, ints) in
            let other_under : at ≤ℤ other.at = rw (← e) under in
            low_none cell.at at cells rising.1 under ∙ sym (low_none other.at at rest others.1 other_under)

    by_order : (AreRising cell.at rest → ((at : ℤ) → cell_at cells at ≡ cell_at rest at) → cells ≡ rest) → (b : Bool) →
        int_lt cell.at other.at ≡ b → (d : Bool) → int_lt other.at cell.at ≡ d → cell ∷ cells ≡ other ∷ rest
    by_order go_on true e d f =
        let above : cell.at <ℤ other.at = grind (arith, ints) in
        let under : cell.at ≤ℤ cell.at = grind (arith, ints) in
        let none : cell_at (other ∷ rest) cell.at ≡ None = low_none cell.at cell.at (other ∷ rest) (above, others.1) under in
        let g : Some cell ≡ None = sym (at_first cell cells) ∙ equal cell.at ∙ none in
        cc
    by_order go_on false e true f =
        let above : other.at <ℤ cell.at = grind (arith, ints) in
        let under : other.at ≤ℤ other.at = grind (arith, ints) in
        let none : cell_at (cell ∷ cells) other.at ≡ None = low_none other.at other.at (cell ∷ cells) (above, rising.1) under in
        let g : Some other ≡ None = sym (at_first other rest) ∙ sym (equal other.at) ∙ none in
        cc
    by_order go_on false e false f =
        let same : cell.at ≡ other.at = grind (arith, ints) in
        let g : Some cell ≡ Some other =
        sym (at_first cell cells) ∙ equal cell.at ∙ ap (cell_at (other ∷ rest)) same ∙ at_first other rest in
        let one : cell ≡ other = cc in
        let other_rising : AreRising cell.at rest = rw same others.1 in
        later one (go_on other_rising (tails one))

-- a sum with the empty heap
pub IsSum-empty_left : {structs : List StructDef} {whole right : List Cell} → IsSum structs whole [] right → whole ≡ right
IsSum-empty_left {structs} {whole} {right} sum = same_cells (pos 0) whole right sum.is_heap.rising sum.right_is_heap.rising sum.cells

pub IsSum-empty_right : {structs : List StructDef} {whole left : List Cell} → IsSum structs whole left [] → whole ≡ left
IsSum-empty_right sum = IsSum-empty_left (IsSum-sym sum)

pub IsSum-unit_right : {structs : List StructDef} {heap : List Cell} → IsHeap structs heap → IsSum structs heap heap []
IsSum-unit_right is_heap = IsSum-sym (IsSum-unit is_heap)

-- two heaps that a third heap can be put beside
pub IsSum-rebuild : {structs : List StructDef} {whole first others second third : List Cell} → IsSum structs whole first others →
    IsSum structs others second third →
    (both : List Cell) × IsSum structs whole second both × IsSum structs both first third
IsSum-rebuild {structs} {whole} {first} {others} {second} {third} outer inner =
    let turned : IsSum structs others third second = IsSum-sym inner in
    (union first third, IsSum-sym (IsSum-assoc outer turned), IsSum-left outer turned)

-- the first of two beside a third: both regrouped to the left, and back
pub IsSum-to_left : {structs : List StructDef} {whole first others second third : List Cell} → IsSum structs whole first others →
    IsSum structs others second third →
    (both : List Cell) × IsSum structs whole both third × IsSum structs both first second
IsSum-to_left {structs} {whole} {first} {others} {second} {third} outer inner =
    (union first second, IsSum-assoc outer inner, IsSum-left outer inner)

pub IsSum-to_right : {structs : List StructDef} {whole both first second third : List Cell} → IsSum structs whole both third →
    IsSum structs both first second →
    (others : List Cell) × IsSum structs whole first others × IsSum structs others second third
IsSum-to_right {structs} {whole} {both} {first} {second} {third} outer inner =
    let turned : IsSum structs both second first = IsSum-sym inner in
    let far : IsSum structs whole third both = IsSum-sym outer in
    (union third second, IsSum-sym (IsSum-assoc far turned), IsSum-sym (IsSum-left far turned))

-- the cell of the left part stands in the whole
pub IsSum-cell_left : {structs : List StructDef} {whole left right : List Cell} → IsSum structs whole left right → (at : ℤ) (cell : Cell) →
    cell_at left at ≡ Some cell → cell_at whole at ≡ Some cell
IsSum-cell_left sum at cell e = sum.cells at ∙ rw e refl

-- the cell of the right part stands in the whole
pub IsSum-cell_right : {structs : List StructDef} {whole left right : List Cell} → IsSum structs whole left right → (at : ℤ) (cell : Cell) →
    cell_at right at ≡ Some cell → cell_at whole at ≡ Some cell
IsSum-cell_right sum at cell e = IsSum-cell_left (IsSum-sym sum) at cell e

-- two disjoint heaps have a sum, their union, and no other
pub IsSum-union : (structs : List StructDef) (left right : List Cell) → IsHeap structs left → IsHeap structs right → Disjoint left right →
    IsSum structs (union left right) left right
IsSum-union structs left right is_left is_right apart = record {
  is_heap = IsHeap-union structs left right is_left is_right;
  left_is_heap = is_left;
  right_is_heap = is_right;
  cells = cell_at-union left right;
  apart = apart;
}

pub IsSum-same : {structs : List StructDef} {whole other left right : List Cell} → IsSum structs whole left right →
    IsSum structs other left right → whole ≡ other
IsSum-same {structs} {whole} {other} sum also =
    same_cells (pos 0) whole other sum.is_heap.rising also.is_heap.rising (λ at. sum.cells at ∙ sym (also.cells at))

pub IsSum-is_union : {structs : List StructDef} {whole left right : List Cell} → IsSum structs whole left right → whole ≡ union left right
IsSum-is_union {structs} {whole} {left} {right} sum =
    IsSum-same sum (IsSum-union structs left right sum.left_is_heap sum.right_is_heap sum.apart)

pub Disjoint-sym : (left right : List Cell) → Disjoint left right → Disjoint right left
Disjoint-sym left right apart at = swapped_apart (cell_at left at) (cell_at right at) (apart at)

pub union-comm : (structs : List StructDef) (left right : List Cell) → IsHeap structs left → IsHeap structs right → Disjoint left right →
    union left right ≡ union right left
union-comm structs left right is_left is_right apart = IsSum-is_union (IsSum-sym (IsSum-union structs left right is_left is_right apart))

-- this needs no disjointness: in both the cell of the first heap that has one stands
pub union-assoc : (structs : List StructDef) (first second third : List Cell) → IsHeap structs first → IsHeap structs second →
    IsHeap structs third →
    union (union first second) third ≡ union first (union second third)
union-assoc structs first second third is_first is_second is_third =
    let one : IsHeap structs (union (union first second) third) =
    IsHeap-union structs (union first second) third (IsHeap-union structs first second is_first is_second) is_third in
    let other : IsHeap structs (union first (union second third)) =
    IsHeap-union structs first (union second third) is_first (IsHeap-union structs second third is_second is_third) in
    same_cells (pos 0) _ _ one.rising other.rising (λ at. alike at)
  where
    alike : (at : ℤ) → cell_at (union (union first second) third) at ≡ cell_at (union first (union second third)) at
    alike at =
        cell_at-union (union first second) third at
        ∙ ap (λ c. first_of_two c (cell_at third at)) (cell_at-union first second at)
        ∙ first_assoc (cell_at first at) (cell_at second at) (cell_at third at)
        ∙ ap (λ c. first_of_two (cell_at first at) c) (sym (cell_at-union second third at))
        ∙ sym (cell_at-union first (union second third) at)
