-- Runs that show specs to be wrong, and heaps that show symbolic heaps to be apart.
use Rattle.std.specs.Prelude.{◌≡◌, ℕ, ◌==◌, ℤ, pos, if◌then◌else◌, List, [], ◌∷◌, map, slice_index_or}
use Rattle.std.proofs.Common.{refl, sym, ap, ◌∙◌, arith, inl, inr, lit<}
use Rattle.std.specs.declared.option.Option.{Option}
use Rattle.std.specs.declared.option.Option.TheVariants.{None, Some}
use Rattle.shape_data.specs.declared.machine.Cell.{Cell}
use Rattle.shape_data.specs.declared.machine.Choice.TheVariants as choice
use Rattle.shape_data.specs.declared.program.StructDef.{StructDef}
use Rattle.shape_data.specs.declared.symbolic.Exp.TheVariants.{Var, Const}
use Rattle.shape_data.specs.Heap.{IsHeap, IsSum, cell_at}
use Rattle.shape_data.specs.Meaning.{value, IsChain, IsSumOf, MeetsOne}
use Rattle.shape_data.specs.Valid.{Valid}
use Rattle.sym_parts.specs.Shapes.Examples.{bad_flow, node_cell, node_struct}
use Rattle.sym_parts.specs.Shapes.Refuted.{cell_at_x, drop_flow, list_between, set_flow, CycleMeets, IsNeverValid, NoEmptySegment}
use Rattle.sym_parts.specs.Shapes.Refuted.{TwoCellsAreApart}
use Rattle.sym_parts.specs.Shapes.Returns.{identity_program, returns_value}
use Rattle.sym_parts.specs.Shapes.Symbolic.{emp}
use Rattle.sym_parts.proofs.ShapesLemmas.Meets.{Meets-emp}
use Rattle.sym_parts.proofs.ShapesLemmas.Sums.{IsHeap-empty, IsSum-unit, IsSum-unit_right, IsSum-cell_left, IsSum-cell_right, at_first}

-- each variable is 1, but for `$1`, which is 2
abbrev values : ℕ → ℤ
values x = if x == 1 then pos 2 else pos 1

not_two : (structs : List StructDef) (heap : List Cell) →
    MeetsOne structs values (pos 1) heap (record { ret = Const (pos 2); heap = emp } ∷ []) → ⊥
not_two structs heap (inl m) = cc
not_two structs heap (inr n) = n

not_further : (structs : List StructDef) (heap : List Cell) →
    MeetsOne structs values (pos 1) heap (record { ret = Var 1; heap = emp } ∷ []) → ⊥
not_further structs heap (inl m) = let same : pos 1 ≡ pos 2 = m.2 ∙ m.1 1 (lit< tt) in cc
not_further structs heap (inr n) = n

-- the result is not 2, which is another number, nor `$1`, which may be another
pub wrong_number : Valid identity_program 0 (returns_value (Const (pos 2))) → ⊥
wrong_number valid =
    let ended = valid values [] [] [] ((Meets-emp [] values []).1 refl) (IsSum-unit (IsHeap-empty [])) (choice.Go ∷ []) in
    not_two [] ended.0 ended.2

pub wrong_variable : Valid identity_program 0 (returns_value (Var 1)) → ⊥
wrong_variable valid =
    let ended = valid values [] [] [] ((Meets-emp [] values []).1 refl) (IsSum-unit (IsHeap-empty [])) (choice.Go ∷ []) in
    not_further [] ended.0 ended.2

-- the cell at 1 that the precondition `x|->node(data:$1,next:$2)` then says
abbrev one_node : List Cell
one_node = node_cell (pos 1) (pos 2) (pos 1) ∷ []

one_is_heap : IsHeap (node_struct ∷ []) one_node
one_is_heap = record { rising = (omega arith, tt); shaped = (refl, tt) }

-- the cell is freed and then read
pub use_after_free : IsNeverValid bad_flow cell_at_x
use_after_free posts valid =
    valid values one_node [] one_node
    (values, λ x below. refl, record { facts = tt; atoms = (one_node, [], IsSum-unit_right one_is_heap, refl, refl) })
    (IsSum-unit_right one_is_heap) (choice.Go ∷ choice.Go ∷ [])

none_some : (cell : Cell) → cell_at [] (pos 1) ≡ Some cell → ⊥
none_some cell e = cc

-- where the segment is empty, the cell at x is the frame's, and it is freed
pub frees_the_frame : IsNeverValid drop_flow (list_between (Var 0) (Var 0))
frees_the_frame posts valid =
    let ended = valid values [] one_node one_node
    (values, λ x below. refl, record { facts = tt; atoms = ([], [], IsSum-unit (IsHeap-empty (node_struct ∷ [])), ([], refl, refl), refl) })
    (IsSum-unit one_is_heap) (choice.Go ∷ choice.Go ∷ []) in
    none_some _ (IsSum-cell_right ended.1 (pos 1) (node_cell (pos 1) (pos 2) (pos 1)) refl)

-- the first number of a cell, if it is there
abbrev first_number : Option Cell → ℤ
first_number None = pos 0
first_number (Some cell) = slice_index_or cell.fields 0 (pos 0)

changed : Some (node_cell (pos 1) (pos 1) (pos 1)) ≡ Some (node_cell (pos 1) (pos 2) (pos 1)) → ⊥
changed e = let same : pos 1 ≡ pos 2 = ap first_number e in cc

-- the cell at x is the frame's, and it is written
pub writes_the_frame : IsNeverValid set_flow emp
writes_the_frame posts valid =
    let ended =
    valid values [] one_node one_node ((Meets-emp (node_struct ∷ []) values []).1 refl) (IsSum-unit one_is_heap)
    (choice.Go ∷ choice.Go ∷ []) in
    changed (IsSum-cell_right ended.1 (pos 1) (node_cell (pos 1) (pos 2) (pos 1)) refl)

cycle_is_heap : (number : ℤ) → IsHeap (node_struct ∷ []) (node_cell (pos 1) number (pos 1) ∷ [])
cycle_is_heap number = record { rising = (omega arith, tt); shaped = (refl, tt) }

pub cycle_meets : CycleMeets
cycle_meets s number is =
    let cell : Cell = node_cell (pos 1) number (pos 1) in
    let whole : IsSum (node_struct ∷ []) (cell ∷ []) (cell ∷ []) [] = IsSum-unit_right (cycle_is_heap number) in (
      s,
      λ x below. refl,
      record { facts = tt; atoms = (cell ∷ [], [], whole, (cell ∷ [], (sym is, refl, sym is), ([], whole, refl)), refl) },
    )

none_at : (at : ℤ) (cell : Cell) → cell_at [] at ≡ Some cell → ⊥
none_at at cell e = cc

no_chain : (structs : List StructDef) (kind : List ℕ) (own others : List Cell) (cells : List Cell) → IsSum structs [] own others →
    IsChain kind 1 (pos 1) (pos 0) cells → IsSumOf structs cells own → ⊥
no_chain structs kind own others [] sum chain parts = cc
no_chain structs kind own others (cell ∷ cells) sum chain parts =
    none_at cell.at cell (IsSum-cell_left sum cell.at cell (IsSum-cell_left parts.1 cell.at cell (at_first cell [])))

pub no_empty_segment : NoEmptySegment
no_empty_segment structs s meets =
    let atoms = meets.2.atoms in
    let holds = atoms.3 in
    no_chain structs _ atoms.0 atoms.1 holds.0 atoms.2 holds.1 holds.2

pub two_cells_apart : TwoCellsAreApart
two_cells_apart structs s heap at kind other fields others meets =
    let t = meets.0 in
    let atoms = meets.2.atoms in
    let second = atoms.4 in
    let one : Cell = record { at = value t at; kind = kind; fields = map (value t) fields } in
    let two : Cell = record { at = value t at; kind = other; fields = map (value t) others } in
    let left : cell_at atoms.0 (value t at) ≡ Some one = rw atoms.3 (at_first one []) in
    let right : cell_at atoms.1 (value t at) ≡ Some two = IsSum-cell_left second.2 (value t at) two (rw second.3 (at_first two [])) in
    let apart : cell_at atoms.1 (value t at) ≡ None = atoms.2.apart (value t at) (rw left refl) in
    let never : Some two ≡ None = sym right ∙ apart in
    cc
