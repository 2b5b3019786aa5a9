-- Addresses that atoms own: a named one is in the heap, above 0, and those of two atoms differ.
use Rattle.std.specs.Prelude.{◌≡◌, ◌⊎◌, ℕ, ℤ, pos, ◌<ℤ◌, ◌≤ℤ◌, int_lt, Bool, true, false, ◌&&◌, ◌||◌, List, [], ◌∷◌, IsSome}
use Rattle.std.proofs.Common.{refl, sym, ap, ◌∙◌, arith, inl, inr, ⊎_elim}
use Rattle.std.specs.List.{filter_map, cons_option}
use Rattle.std.specs.declared.option.Option.{Option}
use Rattle.std.specs.declared.option.Option.TheVariants.{None, Some}
use Rattle.std.proofs.lemmas.Bool.{or_cases, and_parts}
use Rattle.std.proofs.lemmas.Int.{ints}
use Rattle.shape_data.specs.declared.machine.Cell.{Cell}
use Rattle.shape_data.specs.declared.program.StructDef.{StructDef}
use Rattle.shape_data.specs.declared.symbolic.Atom.{Atom}
use Rattle.shape_data.specs.declared.symbolic.Atom.TheVariants.{Points, Seg, Junk}
use Rattle.shape_data.specs.declared.symbolic.Exp.{Exp}
use Rattle.shape_data.specs.Heap.{cell_at, first_of_two, IsHeap, IsSum}
use Rattle.shape_data.specs.Meaning.{value, IsChain, IsSumOf, HoldsAtom, HoldsAtoms}
use Rattle.sym_parts.proofs.ShapesLemmas.Cells.{low_none}
use Rattle.sym_parts.proofs.ShapesLemmas.Chains.{Points-cell}
use Rattle.sym_parts.proofs.ShapesLemmas.Sums.{at_first}
use Rattle.sym_parts.specs.Laws.Addresses.{address_of}
use Rattle.sym_parts.specs.Laws.Expressions.{same_exp, is_among, are_two, has_double}
use Rattle.sym_parts.proofs.LawsLemmas.ExpressionLemmas.{same_exp-equal}

-- what is there is some
pub some_there : (o : Option Cell) (cell : Cell) → o ≡ Some cell → IsSome o
some_there o cell e = rw e refl

none_there : (o : Option Cell) → o ≡ None → IsSome o → ⊥
none_there o e there = cc

some_left : (whole left right : Option Cell) → whole ≡ first_of_two left right → IsSome left → IsSome whole
some_left whole None right e there = cc
some_left whole (Some cell) right e there = rw e refl

some_right : (whole left right : Option Cell) → whole ≡ first_of_two left right → IsSome right → IsSome whole
some_right whole None right e there = rw e there
some_right whole (Some cell) right e there = rw e refl

-- an address of a part is one of the whole
pub IsSum-some_left : {structs : List StructDef} {whole left right : List Cell} → IsSum structs whole left right → (at : ℤ) →
    IsSome (cell_at left at) → IsSome (cell_at whole at)
IsSum-some_left {structs} {whole} {left} {right} sum at there =
    some_left (cell_at whole at) (cell_at left at) (cell_at right at) (sum.cells at) there

pub IsSum-some_right : {structs : List StructDef} {whole left right : List Cell} → IsSum structs whole left right → (at : ℤ) →
    IsSome (cell_at right at) → IsSome (cell_at whole at)
IsSum-some_right {structs} {whole} {left} {right} sum at there =
    some_right (cell_at whole at) (cell_at left at) (cell_at right at) (sum.cells at) there

-- no address is in both parts
pub IsSum-not_both : {structs : List StructDef} {whole left right : List Cell} → IsSum structs whole left right → (at : ℤ) →
    IsSome (cell_at left at) → IsSome (cell_at right at) → ⊥
IsSum-not_both {structs} {whole} {left} {right} sum at in_left in_right = none_there (cell_at right at) (sum.apart at in_left) in_right

-- cells stand above 0
pub IsHeap-above_zero : {structs : List StructDef} {heap : List Cell} → IsHeap structs heap → (at : ℤ) → IsSome (cell_at heap at) →
    pos 0 <ℤ at
IsHeap-above_zero {structs} {heap} is_heap at there = by_test (int_lt (pos 0) at) refl
  where
    by_test : (b : Bool) → int_lt (pos 0) at ≡ b → pos 0 <ℤ at
    by_test true e = grind (arith, ints)
    by_test false e =
        let under : at ≤ℤ pos 0 =
        grind (arith, ints) in absurd (none_there (cell_at heap at) (low_none (pos 0) at heap is_heap.rising under) there)

pub IsHeap-not_zero : {structs : List StructDef} {heap : List Cell} → IsHeap structs heap → (at : ℤ) → IsSome (cell_at heap at) →
    at ≡ pos 0 → ⊥
IsHeap-not_zero is_heap at there zero_there =
    let above : pos 0 <ℤ pos 0 = rw zero_there at (IsHeap-above_zero is_heap at there) in grind (arith, ints)

-- a cell's atom owns its address
pub Points-found : (structs : List StructDef) (t : ℕ → ℤ) (at : Exp) (kind : List ℕ) (fields : List Exp) (own : List Cell) →
    HoldsAtom structs t (Points at kind fields) own → IsSome (cell_at own (value t at))
Points-found structs t at kind fields own h =
    let found = Points-cell structs t at kind fields own h in some_there (cell_at own (value t at)) found.0 found.1

-- a segment is empty and its ends are equal, or it owns its start
pub Seg-cases : (structs : List StructDef) (t : ℕ → ℤ) (kind : List ℕ) (link : ℕ) (from to : Exp) (own : List Cell) →
    HoldsAtom structs t (Seg kind link from to) own →
    ((own ≡ []) × (value t from ≡ value t to)) ⊎ IsSome (cell_at own (value t from))
Seg-cases structs t kind link from to own h = by_cells h.0 h.1 h.2
  where
    by_cells : (cells : List Cell) → IsChain kind link (value t from) (value t to) cells → IsSumOf structs cells own →
        ((own ≡ []) × (value t from ≡ value t to)) ⊎ IsSome (cell_at own (value t from))
    by_cells [] chain parts = inl (parts, chain)
    by_cells (cell ∷ cells) chain parts =
        inr (rw chain.0 at (IsSum-some_left parts.1 cell.at (some_there (cell_at (cell ∷ []) cell.at) cell (at_first cell []))))

-- the address of an atom's cell is owned by it
pub address-owned : (structs : List StructDef) (t : ℕ → ℤ) (atom : Atom) (own : List Cell) (e : Exp) → address_of atom ≡ Some e →
    HoldsAtom structs t atom own → IsSome (cell_at own (value t e))
address-owned structs t (Points at kind fields) own e is h =
    let same : at ≡ e = cc in rw (← same) (Points-found structs t at kind fields own h)
address-owned structs t (Seg kind link from to) own e is h = cc
address-owned structs t Junk own e is h = cc

-- Over any way to name an address that an atom owns: that of its cell, or the start of a segment that is not empty.
module _ (structs : List StructDef) (t : ℕ → ℤ) (g : Atom → Option Exp)
    (owned : (atom : Atom) (own : List Cell) (e : Exp) → g atom ≡ Some e → HoldsAtom structs t atom own →
    IsSome (cell_at own (value t e))) where
  -- a named address is in the heap
  pub found_of_named : (e : Exp) (atoms : List Atom) (heap : List Cell) → HoldsAtoms structs t atoms heap →
      is_among e (filter_map g atoms) ≡ true → IsSome (cell_at heap (value t e))
  found_of_named e [] heap h is = cc
  found_of_named e (atom ∷ atoms) heap h is =
      by_name (g atom) refl is (λ later. IsSum-some_right h.2 (value t e) (found_of_named e atoms h.1 h.4 later))
    where
      by_name : (name : Option Exp) → g atom ≡ name → is_among e (cons_option name (filter_map g atoms)) ≡ true →
          (is_among e (filter_map g atoms) ≡ true → IsSome (cell_at heap (value t e))) → IsSome (cell_at heap (value t e))
      by_name None n is' go_on = go_on is'
      by_name (Some f) n is' go_on =
          ⊎_elim (λ same. here (same_exp-equal e f same)) go_on (or_cases (same_exp e f) (is_among e (filter_map g atoms)) is')
        where
          here : e ≡ f → IsSome (cell_at heap (value t e))
          here same = IsSum-some_left h.2 (value t e) (owned atom h.0 e (n ∙ ap (λ x. Some x) (sym same)) h.3)

  -- the names of two atoms have different values
  pub apart_of_named : (e f : Exp) (atoms : List Atom) (heap : List Cell) → HoldsAtoms structs t atoms heap →
      are_two e f (filter_map g atoms) ≡ true → value t e ≡ value t f → ⊥
  apart_of_named e f [] heap h is same = cc
  apart_of_named e f (atom ∷ atoms) heap h is same = by_name (g atom) refl is (λ later. apart_of_named e f atoms h.1 h.4 later same)
    where
      both : (x y : Exp) → value t x ≡ value t y → g atom ≡ Some x → is_among y (filter_map g atoms) ≡ true → ⊥
      both x y xy is_x among =
          IsSum-not_both h.2 (value t x) (owned atom h.0 x is_x h.3) (rw xy (found_of_named y atoms h.1 h.4 among))

      by_name : (name : Option Exp) → g atom ≡ name → are_two e f (cons_option name (filter_map g atoms)) ≡ true →
          (are_two e f (filter_map g atoms) ≡ true → ⊥) → ⊥
      by_name None n is' go_on = go_on is'
      by_name (Some x) n is' go_on =
          ⊎_elim (λ first. let p = and_parts (same_exp e x) (is_among f (filter_map g atoms)) first in both e f same
          (n ∙ ap (λ z. Some z) (sym (same_exp-equal e x p.0))) p.1)
          (λ second. ⊎_elim
          (λ other. let p = and_parts (same_exp f x) (is_among e (filter_map g atoms)) other in both f e (sym same)
          (n ∙ ap (λ z. Some z) (sym (same_exp-equal f x p.0))) p.1)
          go_on (or_cases (same_exp f x && is_among e (filter_map g atoms)) (are_two e f (filter_map g atoms)) second))
          (or_cases (same_exp e x && is_among f (filter_map g atoms))
          ((same_exp f x && is_among e (filter_map g atoms)) || are_two e f (filter_map g atoms)) is')

  -- no name stands at two atoms
  pub no_double_named : (atoms : List Atom) (heap : List Cell) → HoldsAtoms structs t atoms heap → has_double (filter_map g atoms) ≡ true →
      ⊥
  no_double_named [] heap h is = cc
  no_double_named (atom ∷ atoms) heap h is = by_name (g atom) refl is (λ later. no_double_named atoms h.1 h.4 later)
    where
      by_name : (name : Option Exp) → g atom ≡ name → has_double (cons_option name (filter_map g atoms)) ≡ true →
          (has_double (filter_map g atoms) ≡ true → ⊥) → ⊥
      by_name None n is' go_on = go_on is'
      by_name (Some x) n is' go_on =
          ⊎_elim (λ among. IsSum-not_both h.2 (value t x) (owned atom h.0 x n h.3) (found_of_named x atoms h.1 h.4 among)) go_on
          (or_cases (is_among x (filter_map g atoms)) (has_double (filter_map g atoms)) is')
