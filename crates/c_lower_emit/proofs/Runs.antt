-- The slots of runs.
use Rattle.std.proofs.Common.{◌≡◌, ◌≢◌, ℕ, zero, suc, ◌+◌, ◌<◌, ◌≤◌, ◌==◌, true, false, ◌||◌, List, [], ◌∷◌, ◌++◌, drop, set, get_or}
use Rattle.std.proofs.Common.{length, refl, sym, ap, ◌∙◌, append_assoc, arith, ⊎_elim}
use Rattle.std.proofs.Math.Bool.{or_comm, or_assoc}
use Rattle.std.proofs.lemmas.Bool.{or_from, or_left, or_right}
use Rattle.std.proofs.lemmas.Bool.Decides.{eqb_tells}
use Rattle.std.proofs.lemmas.List.{append-nil}
use Rattle.std.specs.List.{list_any}
use Rattle.c_lower_rules.specs.Marks.{is_listed}
use Rattle.c_lower_emit.specs.declared.visible_slots.Run.{Run}
use Rattle.c_lower_emit.specs.VisibleSlots.{falling, slots_of_run, slots_in}

-- ONE RUN

differs : (x y : ℕ) → x ≢ y → (x == y) ≡ false
differs x y apart = ⊎_elim (λ t. absurd (apart t.1)) (λ t. t.0) (eqb_tells x y)

pub within_run : (first more n : ℕ) → first ≤ n → n ≤ first + more → is_listed (falling first more) n ≡ true
within_run first zero n = λ low high.
    ⊎_elim (λ t. or_left (first == n) false t.0) (λ t. absurd (t.1 (omega (arith, low, high)))) (eqb_tells first n)
within_run first (suc more) n = λ low high.
    let others = is_listed (falling first more) n in
    ⊎_elim (λ t. or_left (first + suc more == n) others t.0)
    (λ t. or_right (first + suc more == n) others (within_run first more n low (omega (arith, high, t.1)))) (eqb_tells (first + suc more) n)

pub below_run : (first more n : ℕ) → n < first → is_listed (falling first more) n ≡ false
below_run first zero n = λ lt. or_from (first == n) false (differs first n (λ same. absurd (omega (arith, lt, same)))) refl
below_run first (suc more) n = λ lt.
    or_from (first + suc more == n) (is_listed (falling first more) n)
    (differs (first + suc more) n (λ same. absurd (omega (arith, lt, same)))) (below_run first more n lt)

pub above_run : (first more n : ℕ) → first + more < n → is_listed (falling first more) n ≡ false
above_run first zero n = λ lt. or_from (first == n) false (differs first n (λ same. absurd (omega (arith, lt, same)))) refl
above_run first (suc more) n = λ lt.
    or_from (first + suc more == n) (is_listed (falling first more) n)
    (differs (first + suc more) n (λ same. absurd (omega (arith, lt, same)))) (above_run first more n (omega (arith, lt)))

-- ALL RUNS

is_listed-append : (xs ys : List ℕ) (n : ℕ) → is_listed (xs ++ ys) n ≡ (is_listed xs n || is_listed ys n)
is_listed-append [] ys n = refl
is_listed-append (x ∷ xs) ys n =
    ap (λ b. (x == n) || b) (is_listed-append xs ys n) ∙ sym (or_assoc (x == n) (is_listed xs n) (is_listed ys n))

-- a slot is listed where some run has it
pub listed_in_some : (runs : List Run) (n : ℕ) → list_any (λ run. is_listed (slots_of_run run) n) runs ≡ is_listed (slots_in runs) n
listed_in_some [] n = refl
listed_in_some (run ∷ runs) n =
    or_comm (is_listed (slots_of_run run) n) (list_any (λ one. is_listed (slots_of_run one) n) runs)
    ∙ ap (λ b. b || is_listed (slots_of_run run) n) (listed_in_some runs n)
    ∙ sym (is_listed-append (slots_in runs) (slots_of_run run) n)

-- the slots of the last run come first
pub last_first : (runs : List Run) (last : Run) → slots_in (runs ++ last ∷ []) ≡ slots_of_run last ++ slots_in runs
last_first [] last = sym (append-nil (slots_of_run last))
last_first (run ∷ runs) last =
    ap (λ ns. ns ++ slots_of_run run) (last_first runs last) ∙ append_assoc (slots_of_run last) (slots_in runs) (slots_of_run run)

-- another last run, with one more slot
pub last_longer : (runs : List Run) (place : ℕ) (run was : Run) (slot : ℕ) → suc place ≡ length runs → was ≡ get_or runs place was
    → slots_of_run run ≡ slot ∷ slots_of_run was → slots_in (set runs place run) ≡ slot ∷ slots_in runs
last_longer [] place run was slot = λ at same more. absurd (omega (arith, at))
last_longer (first ∷ []) zero run was slot = λ at same more. more ∙ ap (λ one. slot ∷ slots_of_run one) same
last_longer (first ∷ second ∷ runs) zero run was slot = λ at same more. absurd (omega (arith, at))
last_longer (first ∷ runs) (suc place) run was slot = λ at same more.
    ap (λ ns. ns ++ slots_of_run first) (last_longer runs place run was slot (omega (arith, at)) same more)

-- a last run with one slot less, or none where that was its only slot
pub last_shorter : (runs rest now : List Run) (last run : Run) (n : ℕ) → runs ≡ rest ++ last ∷ [] → now ≡ rest ++ run ∷ []
    → slots_of_run last ≡ n ∷ slots_of_run run → slots_in now ≡ drop 1 (slots_in runs)
last_shorter runs rest now last run n was is more =
    ap slots_in is ∙ last_first rest run
    ∙ ap (drop 1) (sym (ap slots_in was ∙ last_first rest last ∙ ap (λ ns. ns ++ slots_in rest) more))

pub last_gone : (runs rest : List Run) (last : Run) (n : ℕ) → runs ≡ rest ++ last ∷ [] → slots_of_run last ≡ n ∷ []
    → slots_in rest ≡ drop 1 (slots_in runs)
last_gone runs rest last n was one =
    ap (drop 1) (sym (ap slots_in was ∙ last_first rest last ∙ ap (λ ns. ns ++ slots_in rest) one))
