-- Nodes with their marks are in range.
use Rattle.std.proofs.Common.{◌≡◌, ℕ, suc, ◌+◌, ◌<◌, ◌≤◌, Bool, true, false, cond, List, [], ◌∷◌, length, refl, arith, ap}
use Rattle.std.specs.Prelude.{IfSome, All, ◌&&◌, not}
use Rattle.std.specs.List.{AllByRecursion}
use Rattle.std.proofs.lemmas.List.Elements.{All-nil, All-cons, All-head, All-tail, All-from_recursion}
use Rattle.shape_data.specs.declared.program.Node.{Node}
use Rattle.shape_data.specs.declared.program.Ty.{Ty}
use Rattle.shape_data.specs.WellFormed.{IsMark, IsNode}
use Rattle.c_lower_rules.specs.Code.{Loop}
use Rattle.c_lower_rules.specs.Marks.{is_int, assigned_in, is_listed, slots_that, mark, mark_by, loops_at, marked_from}
use Rattle.c_lower_rules.proofs.Pieces.{World, IsGood, AreGood}

slots_below : (passes : ℕ → Ty → Bool) (slot : ℕ) (kinds : List Ty) (total : ℕ) → slot + length kinds ≤ total
    → AllByRecursion (λ s. s < total) (slots_that passes slot kinds)
slots_below passes slot [] total le = tt
slots_below passes slot (kind ∷ kinds) total le = by_test (passes slot kind) (slots_below passes (suc slot) kinds total (omega arith))
  where
    by_test : (b : Bool) → AllByRecursion (λ s. s < total) (slots_that passes (suc slot) kinds)
        → AllByRecursion (λ s. s < total) (cond b (slot ∷ slots_that passes (suc slot) kinds) (slots_that passes (suc slot) kinds))
    by_test true h = (omega arith, h)
    by_test false h = h

slots_few : (passes : ℕ → Ty → Bool) (slot : ℕ) (kinds : List Ty) → length (slots_that passes slot kinds) ≤ length kinds
slots_few passes slot [] = omega arith
slots_few passes slot (kind ∷ kinds) = by_test (passes slot kind) (slots_few passes (suc slot) kinds)
  where
    by_test : (b : Bool) → length (slots_that passes (suc slot) kinds) ≤ length kinds
        → length (cond b (slot ∷ slots_that passes (suc slot) kinds) (slots_that passes (suc slot) kinds)) ≤ length (kind ∷ kinds)
    by_test true h = omega arith
    by_test false h = omega arith

mark_good : (slots : List Ty) → length slots ≤ 32768 → (nodes : List Node) (first : Loop) (others : List Loop)
    → IsMark (length slots) (mark slots nodes first others)
mark_good slots few nodes first others =
    let in_ints = λ (slot : ℕ) (kind : Ty). is_int kind && assigned_in nodes (first ∷ others) slot in
    let in_dead = λ (slot : ℕ) (kind : Ty). not (is_listed first.visible slot) in
    record {
      ints_countable = omega (arith, slots_few in_ints 0 slots);
      ints =
          All-from_recursion (λ s. s < length slots) (slots_that in_ints 0 slots)
          (slots_below in_ints 0 slots (length slots) (omega arith));
      dead_countable = omega (arith, slots_few in_dead 0 slots);
      dead =
          All-from_recursion (λ s. s < length slots) (slots_that in_dead 0 slots)
          (slots_below in_dead 0 slots (length slots) (omega arith));
    }

mark_by_good : (slots : List Ty) → length slots ≤ 32768 → (nodes : List Node) (loops : List Loop)
    → IfSome (mark_by slots nodes loops) (IsMark (length slots))
mark_by_good slots few nodes [] = tt
mark_by_good slots few nodes (first ∷ others) = mark_good slots few nodes first others

abbrev Fitting : World → ℕ → ℕ → Node → Type 0
Fitting w slots total n = IsGood w slots total n.cmd × (n.line < w.lines)

pub marked_in_range : (w : World) (slots : List Ty) → length slots ≤ 32768
    → (nodes : List Node) (loops : List Loop) (place total : ℕ) (rest : List Node) → AreGood w (length slots) total rest
    → All (IsNode w.structs (length slots) total) (marked_from slots nodes loops place rest)
marked_in_range w slots few nodes loops place total [] h = All-nil (IsNode w.structs (length slots) total)
marked_in_range w slots few nodes loops place total (first ∷ others) h =
    All-cons (IsNode w.structs (length slots) total) _ _
    (record {
      command = (All-head (Fitting w (length slots) total) first others h).0.0;
      head = mark_by_good slots few nodes (loops_at place loops);
    })
    (marked_in_range w slots few nodes loops (suc place) total others (All-tail (Fitting w (length slots) total) first others h))

-- what holds of commands and lines holds behind marking too
pub marked_keeps : (P : Node → Type 0) → ((n m : Node) → n.cmd ≡ m.cmd → n.line ≡ m.line → P n → P m)
    → (slots : List Ty) (nodes : List Node) (loops : List Loop) (place : ℕ) (rest : List Node)
    → All P rest → All P (marked_from slots nodes loops place rest)
marked_keeps P same slots nodes loops place [] h = All-nil P
marked_keeps P same slots nodes loops place (first ∷ others) h =
    All-cons P _ _ (same first (record first { head = mark_by slots nodes (loops_at place loops) }) refl refl (All-head P first others h))
    (marked_keeps P same slots nodes loops (suc place) others (All-tail P first others h))

pub marked_length : (slots : List Ty) (nodes : List Node) (loops : List Loop) (place : ℕ) (rest : List Node)
    → length (marked_from slots nodes loops place rest) ≡ length rest
marked_length slots nodes loops place [] = refl
marked_length slots nodes loops place (first ∷ others) = ap suc (marked_length slots nodes loops (suc place) others)
