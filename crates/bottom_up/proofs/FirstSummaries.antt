-- The places of the first summaries, with one summary more.
use Rattle.std.proofs.Common.{◌≡◌, ℕ, ◌+◌, Bool, true, false, cond, is_some, List, [], ◌∷◌, ◌++◌, take, slice_get, option_map}
use Rattle.std.proofs.Common.{option_and_then, Option, Some, None, refl, sym, ap, ◌∙◌, true≢false, if◌then◌else◌, bytes_eq, append_assoc}
use Rattle.std.specs.Option.{option_or}
use Rattle.std.proofs.lemmas.List.{flat_map_more, map-append, take_more}
use Rattle.std.proofs.lemmas.List.Folds.{find-append}
use Rattle.std.proofs.lemmas.Option.{get_or_from_slice_get, slice_get-map, slice_get_within}
use Rattle.std.proofs.lemmas.Slice.Eq.{bytes_eq-Decides}
use Rattle.shape_data.specs.declared.answer.Answer.{Answer}
use Rattle.shape_data.specs.declared.answer.Kept.{Kept}
use Rattle.shape_data.specs.declared.answer.ProcSummary.{ProcSummary}
use Rattle.component_keys.proofs.Basics.{not_none}
use Rattle.bottom_up.specs.Placed.{answers_kept, first_named, summaries_in, summary_in}
use Rattle.bottom_up.specs.declared.places.Place.{Place}

-- what a map has, and what is found: as much where nothing is put, and with one more where it is put for a key that is new
stays : {X Y : Type 0} (f : X → Option Y) (o : Option X) (found : Option Y) (passes : Bool) (y : Y) →
    option_map f o ≡ option_map (λ z. Some z) found →
    (passes ≡ true → is_some o ≡ true) → option_map f o ≡ option_map (λ z. Some z) (option_or found (if passes then Some y else None))
stays f None None true y e there = absurd (true≢false (sym (there refl)))
stays f None None false y e there = refl
stays f None (Some z) passes y e there = not_none e
stays f (Some x) None passes y e there = not_none (sym e)
stays f (Some x) (Some z) passes y e there = e

put : {X Y : Type 0} (f : X → Option Y) (o : Option X) (found : Option Y) (passes : Bool) (x : X) (y : Y) →
    option_map f o ≡ option_map (λ z. Some z) found → f x ≡ Some y →
    (passes ≡ true → is_some o ≡ false) →
    option_map f (cond passes (Some x) o) ≡ option_map (λ z. Some z) (option_or found (if passes then Some y else None))
put f None None true x y e is new = ap (λ o. Some o) is
put f None None false x y e is new = refl
put f None (Some z) passes x y e is new = not_none e
put f (Some w) None passes x y e is new = not_none (sym e)
put f (Some w) (Some z) true x y e is new = absurd (true≢false (new refl))
put f (Some w) (Some z) false x y e is new = e

module _ (answers : List Answer) (before : List ProcSummary) (one : ProcSummary) (old : List ℕ → Option Place)
    (are : (name : List ℕ) → option_map (summary_in answers) (old name) ≡ option_map (λ summary. Some summary) (first_named before name))
    (n : List ℕ) where
  split : option_or (first_named before n) (if bytes_eq one.name n then Some one else None) ≡ first_named (before ++ one ∷ []) n
  split = sym (find-append (λ (summary : ProcSummary). bytes_eq summary.name n) before (one ∷ []))

  -- it has no place so far, and is put
  pub first_put : (place : Place) → summary_in answers place ≡ Some one → is_some (old one.name) ≡ false →
      option_map (summary_in answers) (cond (bytes_eq one.name n) (Some place) (old n))
      ≡ option_map (λ summary. Some summary) (first_named (before ++ one ∷ []) n)
  first_put place is new =
      put (summary_in answers) (old n) (first_named before n) (bytes_eq one.name n) place one (are n) is
      (λ same. ap (λ name. is_some (old name)) (sym ((bytes_eq-Decides one.name n).0 same)) ∙ new)
      ∙ ap (option_map (λ summary. Some summary)) split

  -- it has a place, which stays
  pub first_stays : is_some (old one.name) ≡ true →
      option_map (summary_in answers) (old n) ≡ option_map (λ summary. Some summary) (first_named (before ++ one ∷ []) n)
  first_stays there =
      stays (summary_in answers) (old n) (first_named before n) (bytes_eq one.name n) one (are n)
      (λ same. ap (λ name. is_some (old name)) (sym ((bytes_eq-Decides one.name n).0 same)) ∙ there)
      ∙ ap (option_map (λ summary. Some summary)) split

-- ---- one more

front_more : {X : Type 0} (xs : List X) (i : ℕ) (x : X) → slice_get xs i ≡ Some x → take i xs ++ x ∷ [] ≡ take (i + 1) xs
front_more xs i x at =
    sym (take_more xs i x (slice_get_within xs i x at) ∙ ap (λ y. take i xs ++ y ∷ []) (get_or_from_slice_get xs i x x at))

-- one summary more of an answer
pub summaries_more : (before procs : List ProcSummary) (i : ℕ) (one : ProcSummary) → slice_get procs i ≡ Some one →
    (before ++ take i procs) ++ one ∷ [] ≡ before ++ take (i + 1) procs
summaries_more before procs i one at = append_assoc before (take i procs) (one ∷ []) ∙ ap (λ l. before ++ l) (front_more procs i one at)

-- it stands at its place
pub summary_at : (answers : List Answer) (component member : ℕ) (answer : Answer) (one : ProcSummary) →
    slice_get answers component ≡ Some answer → slice_get answer.procs member ≡ Some one →
    summary_in answers (record { component = component; member = member }) ≡ Some one
summary_at answers component member answer one at here = ap (option_and_then (λ (a : Answer). slice_get a.procs member)) at ∙ here

-- one answer more
pub answers_more : (kept : List Kept) (i : ℕ) (one : Kept) → slice_get kept i ≡ Some one →
    summaries_in (answers_kept (take i kept)) ++ one.answer.value.procs ≡ summaries_in (answers_kept (take (i + 1) kept))
answers_more kept i one at =
    flat_map_more (λ (answer : Answer). answer.procs) [] (answers_kept (take i kept)) one.answer.value ∙
    ap summaries_in (sym (map-append (λ (k : Kept). k.answer.value) (take i kept) (one ∷ [])) ∙ ap answers_kept (front_more kept i one at))

pub answer_at : (kept : List Kept) (i : ℕ) (one : Kept) → slice_get kept i ≡ Some one →
    slice_get (answers_kept kept) i ≡ Some one.answer.value
answer_at kept i one at = slice_get-map (λ (k : Kept). k.answer.value) kept i ∙ ap (option_map (λ (k : Kept). k.answer.value)) at
