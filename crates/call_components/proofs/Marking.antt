-- The step of a loop that marks a row.
use Rattle.std.proofs.Common.{◌≡◌, ◌≢◌, ℕ, zero, suc, ◌+◌, ◌<◌, ◌==◌, Bool, true, false, ◌&&◌, ◌||◌, not, List, [], ◌∷◌, ◌++◌, length}
use Rattle.std.proofs.Common.{get_or, set, take, refl, sym, ap, ◌∙◌, subst, arith}
use Rattle.std.proofs.lemmas.Bool.Decides.{Decides-eqb}
use Rattle.std.proofs.lemmas.List.{get_or-set_same, get_or-set_other, length-set, length_push, take_more, get_or_default}
use Rattle.component_keys.specs.Components.{holds}
use Rattle.call_components.specs.Reaching.{marked, unmarked, AreMarked}

pub or_false : (a : Bool) → (a || false) ≡ a
or_false true = refl
or_false false = refl

pub or_or : (a b c : Bool) → ((a || b) || c) ≡ (a || (b || c))
or_or true b c = refl
or_or false b c = refl

pub holds_push : (numbers : List ℕ) (new number : ℕ) → holds (numbers ++ new ∷ []) number ≡ (holds numbers number || (new == number))
holds_push [] new number = or_false (new == number)
holds_push (first ∷ others) new number =
    ap (λ b. (first == number) || b) (holds_push others new number) ∙ sym (or_or (first == number) (holds others number) (new == number))

pub marked_set : (marks : List Bool) (place number : ℕ) → place < length marks →
    marked (set marks place true) number ≡ (marked marks number || (place == number))
marked_set marks place number lt = by_test (place == number) refl
  where
    by_test : (b : Bool) → (place == number) ≡ b → marked (set marks place true) number ≡ (marked marks number || b)
    by_test true e =
        let same : place ≡ number = (Decides-eqb place number).0 e in
        ap (λ n. get_or (set marks place true) n false) (sym same) ∙ get_or-set_same marks place true false lt
        ∙ sym (any_true (marked marks number))
      where
        any_true : (a : Bool) → (a || true) ≡ true
        any_true true = refl
        any_true false = refl
    by_test false e =
        let other : number ≢ place = λ same. let t : (place == number) ≡ true = (Decides-eqb place number).1 (sym same) in let u : true
        ≡ false = sym t ∙ e in cc in
        get_or-set_other marks place number true false other ∙ sym (or_false (marked marks number))

unmarked_set : (marks : List Bool) (place : ℕ) → place < length marks → marked marks place ≡ false →
    unmarked (set marks place true) + 1 ≡ unmarked marks
unmarked_set [] place lt e = absurd (omega (arith, lt))
unmarked_set (true ∷ marks) zero lt e = cc
unmarked_set (false ∷ marks) zero lt e = omega arith
unmarked_set (true ∷ marks) (suc place) lt e = unmarked_set marks place (omega (arith, lt)) e
unmarked_set (false ∷ marks) (suc place) lt e =
    let rest : unmarked (set marks place true) + 1 ≡ unmarked marks = unmarked_set marks place (omega (arith, lt)) e in omega (arith, rest)

was_there : (todo r q m : Bool) → (q ≡ true → (m || r) ≡ true) → (todo || (r && not m)) ≡ (todo || ((r || q) && not m))
was_there true r q m h = refl
was_there false true q m h = refl
was_there false false false m h = refl
was_there false false true true h = refl
was_there false false true false h = absurd (let t : false ≡ true = h refl in cc)

is_new : (todo r q m : Bool) → (q ≡ true → (m || r) ≡ false) → ((todo || (r && not m)) || q) ≡ (todo || ((r || q) && not m))
is_new true r q m h = refl
is_new false true q true h = by_test q h
  where
    by_test : (b : Bool) → (b ≡ true → true ≡ false) → b ≡ false
    by_test false k = refl
    by_test true k = k refl
is_new false true q false h = refl
is_new false false false m h = or_false (false && not m)
is_new false false true true h = absurd (let t : true ≡ false = h refl in cc)
is_new false false true false h = refl

pub marked_none : (marks : List Bool) (todo : List ℕ) → AreMarked [] marks todo marks todo
marked_none marks todo =
    record {
      lengths = refl;
      marks_are = λ number. sym (or_false (marked marks number));
      todo_is = λ number. sym (or_false (holds todo number));
      left = refl;
    }

pub marked_old : (row : List ℕ) (marks : List Bool) (todo : List ℕ) (ms : List Bool) (ts : List ℕ) (new : ℕ) →
    AreMarked row marks todo ms ts → marked ms new ≡ true → AreMarked (row ++ new ∷ []) marks todo ms ts
marked_old row marks todo ms ts new done e = record {
  lengths = done.lengths;
  marks_are = λ number. done.marks_are number ∙ at_mark number (new == number) refl
      ∙ ap (λ b. marked marks number || b) (sym (holds_push row new number));
  todo_is = λ number. done.todo_is number
      ∙ was_there (holds todo number) (holds row number) (new == number) (marked marks number)
      (λ t. there number ((Decides-eqb new number).0 t)) ∙
      ap (λ b. holds todo number || (b && not (marked marks number))) (sym (holds_push row new number));
  left = done.left;
}
  where
    there : (number : ℕ) → new ≡ number → (marked marks number || holds row number) ≡ true
    there number same = sym (done.marks_are number) ∙ ap (marked ms) (sym same) ∙ e

    at_mark : (number : ℕ) (b : Bool) → (new == number) ≡ b →
        (marked marks number || holds row number) ≡ (marked marks number || (holds row number || b))
    at_mark number false t = ap (λ c. marked marks number || c) (sym (or_false (holds row number)))
    at_mark number true t = there number ((Decides-eqb new number).0 t) ∙ sym (all_true (marked marks number) (holds row number))
      where
        all_true : (a c : Bool) → (a || (c || true)) ≡ true
        all_true true c = refl
        all_true false true = refl
        all_true false false = refl

pub marked_new : (row : List ℕ) (marks : List Bool) (todo : List ℕ) (ms : List Bool) (ts : List ℕ) (new : ℕ) →
    AreMarked row marks todo ms ts → new < length ms → marked ms new ≡ false →
    AreMarked (row ++ new ∷ []) marks todo (set ms new true) (ts ++ new ∷ [])
marked_new row marks todo ms ts new done lt e = record {
  lengths = length-set ms new true ∙ done.lengths;
  marks_are = λ number. marked_set ms new number lt ∙ ap (λ b. b || (new == number)) (done.marks_are number)
      ∙ or_or (marked marks number) (holds row number) (new == number) ∙
      ap (λ b. marked marks number || b) (sym (holds_push row new number));
  todo_is = λ number. holds_push ts new number ∙ ap (λ b. b || (new == number)) (done.todo_is number) ∙
      is_new (holds todo number) (holds row number) (new == number) (marked marks number)
      (λ t. sym (done.marks_are number) ∙ ap (marked ms) (sym ((Decides-eqb new number).0 t)) ∙ e) ∙
      ap (λ b. holds todo number || (b && not (marked marks number))) (sym (holds_push row new number));
  left = let less : unmarked (set ms new true) + 1 ≡ unmarked ms = unmarked_set ms new lt e in let more : length (ts ++ new ∷ [])
      ≡ length ts + 1 = length_push ts new in let before = done.left in omega (arith, less, more, before);
}

-- the same by the place in the row
pub row_old : (row : List ℕ) (i : ℕ) (marks : List Bool) (todo : List ℕ) (ms : List Bool) (ts : List ℕ) →
    AreMarked (take i row) marks todo ms ts → i < length row → true ≡ get_or ms (get_or row i 0) true →
    get_or row i 0 < length ms → AreMarked (take (i + 1) row) marks todo ms ts
row_old row i marks todo ms ts done lt e within =
    subst (λ r. AreMarked r marks todo ms ts) (sym (take_more row i 0 lt))
    (marked_old (take i row) marks todo ms ts (get_or row i 0) done (get_or_default ms (get_or row i 0) false true within ∙ sym e))

pub row_new : (row : List ℕ) (i : ℕ) (marks : List Bool) (todo : List ℕ) (ms : List Bool) (ts : List ℕ) →
    AreMarked (take i row) marks todo ms ts → i < length row → false ≡ get_or ms (get_or row i 0) false →
    get_or row i 0 < length ms → AreMarked (take (i + 1) row) marks todo (set ms (get_or row i 0) true) (ts ++ get_or row i 0 ∷ [])
row_new row i marks todo ms ts done lt e within =
    subst (λ r. AreMarked r marks todo (set ms (get_or row i 0) true) (ts ++ get_or row i 0 ∷ [])) (sym (take_more row i 0 lt))
    (marked_new (take i row) marks todo ms ts (get_or row i 0) done within (sym e))
