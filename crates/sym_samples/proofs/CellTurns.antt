-- Where a cell is put: before the first that stands behind its address.
use Rattle.std.specs.Prelude.{◌≡◌, ℕ, zero, suc, ◌+◌, ◌<◌, Bool, true, false, if◌then◌else◌, int_lt, List, [], ◌∷◌, ◌++◌, length, take}
use Rattle.std.specs.Prelude.{drop, slice_set}
use Rattle.std.proofs.Common.{refl, sym, ap, ◌∙◌, arith, append_assoc, get_or}
use Rattle.std.specs.List.{insert}
use Rattle.std.specs.Ordering.{int_eq}
use Rattle.std.proofs.lemmas.List.{take_more}
use Rattle.std.proofs.Math.Seq.{drop-cons, drop-length}
use Rattle.shape_data.specs.declared.machine.Cell.{Cell}
use Rattle.shape_data.specs.Heap.{put}

set_split : (cells : List Cell) (place : ℕ) (cell : Cell) → place < length cells
    → slice_set cells place cell ≡ take place cells ++ cell ∷ drop (suc place) cells
set_split [] place cell inside = absurd (omega arith)
set_split (first ∷ others) zero cell inside = refl
set_split (first ∷ others) (suc place) cell inside = ap (λ list. first ∷ list) (set_split others place cell (omega arith))

-- one of three lists, by two tests
second : (a b : Bool) (x y z : List Cell) → a ≡ false → b ≡ true → (if a then x else (if b then y else z)) ≡ y
second a b x y z one other = rw (one, other) refl

third : (a b : Bool) (x y z : List Cell) → a ≡ false → b ≡ false → (if a then x else (if b then y else z)) ≡ z
third a b x y z one other = rw (one, other) refl

module _ (heap : List Cell) (place : ℕ) (first cell : Cell) (inside : place < length heap) (is : first ≡ get_or heap place first)
    (so_far : put cell heap ≡ take place heap ++ put cell (drop place heap)) where
  there : drop place heap ≡ first ∷ drop (suc place) heap
  there = drop-cons heap place first inside ∙ ap (λ one. one ∷ drop (suc place) heap) (sym is)

  pub goes_before : int_lt cell.at first.at ≡ true → put cell heap ≡ insert heap place cell
  goes_before before =
      let here : put cell (first ∷ drop (suc place) heap) ≡ cell ∷ first ∷ drop (suc place) heap = rw before refl in
      so_far ∙ ap (λ list. take place heap ++ list) (ap (put cell) there ∙ here ∙ ap (λ list. cell ∷ list) (sym there))

  pub goes_same : int_lt cell.at first.at ≡ false → int_eq first.at cell.at ≡ true → put cell heap ≡ slice_set heap place cell
  goes_same not_before same =
      let here : put cell (first ∷ drop (suc place) heap) ≡ cell ∷ drop (suc place) heap =
      second (int_lt cell.at first.at) (int_eq first.at cell.at) (cell ∷ first ∷ drop (suc place) heap) (cell ∷ drop (suc place) heap)
      (first ∷ put cell (drop (suc place) heap)) not_before same in
      so_far ∙ ap (λ list. take place heap ++ list) (ap (put cell) there ∙ here) ∙ sym (set_split heap place cell inside)

  pub goes_behind : int_lt cell.at first.at ≡ false → int_eq first.at cell.at ≡ false
      → put cell heap ≡ take (place + 1) heap ++ put cell (drop (place + 1) heap)
  goes_behind not_before other =
      let here : put cell (first ∷ drop (suc place) heap) ≡ first ∷ put cell (drop (suc place) heap) =
      third (int_lt cell.at first.at) (int_eq first.at cell.at) (cell ∷ first ∷ drop (suc place) heap) (cell ∷ drop (suc place) heap)
      (first ∷ put cell (drop (suc place) heap)) not_before other in
      let next : suc place ≡ place + 1 = omega arith in
      let more : take (place + 1) heap ≡ take place heap ++ first ∷ [] =
      take_more heap place first inside ∙ ap (λ one. take place heap ++ one ∷ []) (sym is) in
      so_far
      ∙ ap (λ list. take place heap ++ list) (ap (put cell) there ∙ here ∙ ap (λ count. first ∷ put cell (drop count heap)) next)
      ∙ sym (append_assoc (take place heap) (first ∷ []) (put cell (drop (place + 1) heap)))
      ∙ ap (λ list. list ++ put cell (drop (place + 1) heap)) (sym more)

pub goes_last : (heap : List Cell) (cell : Cell) → put cell heap ≡ take (length heap) heap ++ put cell (drop (length heap) heap)
    → put cell heap ≡ insert heap (length heap) cell
goes_last heap cell so_far =
    let none : drop (length heap) heap ≡ [] = drop-length heap in
    so_far ∙ ap (λ list. take (length heap) heap ++ list) (ap (put cell) none ∙ ap (λ list. cell ∷ list) (sym none))
