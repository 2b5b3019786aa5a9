-- Outstanding claims looked at row by row, and what a component's turn is by them.
use Rattle.std.proofs.Common.{◌≡◌, ℕ, suc, ◌+◌, ◌<◌, ◌==◌, Bool, cond, true, false, ◌&&◌, ◌||◌, not, List, [], ◌∷◌, length, slice_get}
use Rattle.std.proofs.Common.{is_some, Some, None, Option, refl, sym, ap, ◌∙◌, subst, ⊎_elim, find, option_map, arith, IfSome}
use Rattle.std.specs.List.{list_any}
use Rattle.std.proofs.lemmas.Bool.{cases_lt}
use Rattle.std.proofs.lemmas.Bool.Decides.{Decides-eqb}
use Rattle.std.proofs.lemmas.Option.{slice_get_within}
use Rattle.shape_data.specs.declared.answer.Key.{Key}
use Rattle.shape_data.specs.declared.program.Program.{Program}
use Rattle.component_keys.specs.Tests.{key_test}
use Rattle.component_keys.proofs.Basics.{found, mapped_some, not_none, some_same}
use Rattle.component_keys.proofs.Reach.{any_passes}
use Rattle.component_keys.proofs.Whole.{same_answers}
use Rattle.composed_keys.specs.declared.rows.Component.{Component as ComponentRow}
use Rattle.key_laws.proofs.Elements.{zipped_length}
use Rattle.claim_core.specs.Views.{Claimed}
use Rattle.claim_core.specs.declared.event.Event.{Event as Told}
use Rattle.claim_core.specs.Told.{events_of}
use Rattle.claim_laws.specs.Invariant.{IsDueAt}
use Rattle.claim_laws.specs.Logs.{replay, settled_at}
use Rattle.claim_laws.specs.World.{Out, Slot, World}
use Rattle.summary_book.specs.declared.rows.OutRow.{OutRow}
use Rattle.summary_book.specs.declared.rows.Parts.{Parts}
use Rattle.summary_book.specs.declared.rows.SlotRow.{SlotRow}
use Rattle.summary_book.specs.Next.{IsFree, IsOutBy}
use Rattle.summary_book.specs.Rows.{AreOut, IsOutRow, IsSight}
use Rattle.summary_book.specs.Views.{is_claim}
use Rattle.summary_book.proofs.Due.{AreSettled, due_known, stands}
use Rattle.summary_book.proofs.Events.{own_claim}
use Rattle.summary_book.proofs.Standings.{settled_of}
use Rattle.summary_book.proofs.Lists.{find_none, find_place, position_at}

-- ---- row by row

pub not_false : (b : Bool) → not b ≡ false → b ≡ true
not_false true e = refl
not_false false e = cc

pub same_keys : (one other : Key) → key_test.0 one other ≡ key_test.0 other one
same_keys one other =
    same_answers (key_test.0 one other) (key_test.0 other one) (λ t. (key_test.1 other one).1 (sym ((key_test.1 one other).0 t)))
    (λ t. (key_test.1 one other).1 (sym ((key_test.1 other one).0 t)))

pub any_none : {X : Type 0} (p : X → Bool) (xs : List X) → ((k : ℕ) (x : X) → slice_get xs k ≡ Some x → p x ≡ false) → list_any p xs ≡ false
any_none p [] fails = refl
any_none p (first ∷ xs) fails = ap (λ b. b || list_any p xs) (fails 0 first refl) ∙ any_none p xs (λ k x. fails (suc k) x)

pub none_any : {X : Type 0} (p : X → Bool) (xs : List X) → find p xs ≡ None → list_any p xs ≡ false
none_any p [] none = refl
none_any p (first ∷ xs) none = by_test (p first) none (none_any p xs)
  where
    by_test : (b : Bool) → cond b (Some first) (find p xs) ≡ None → (find p xs ≡ None → list_any p xs ≡ false) →
        (b || list_any p xs) ≡ false
    by_test true e again = not_none (sym e)
    by_test false e again = again e

module _ (log : List Told) (program : Program) (rows : List OutRow) (out : List Out) (are : AreOut log program rows out) (p : Out → Bool)
    (i : ℕ) (row : OutRow) (at : slice_get rows i ≡ Some row) where
  abbrev NoneBefore : ℕ → Type 0
  NoneBefore count = (k : ℕ) (claim : Out) → k < count → slice_get out k ≡ Some claim → p claim ≡ false

  own : (claim : Out) × (slice_get out i ≡ Some claim) × IsOutRow log program row claim
  own = own_claim log program rows out i row are at

  pub first_found : NoneBefore i → ((claim : Out) → IsOutRow log program row claim → p claim ≡ true) →
      Some row.number ≡ option_map (λ (claim : Out). claim.number) (find p out)
  first_found before passes =
      ap (λ n. Some n) own.2.number ∙
      sym
      (ap (option_map (λ (claim : Out). claim.number))
      (find_place p out i (position_at p out i own.0 own.1 (passes own.0 own.2) (λ k claim lt. before k claim lt)) ∙ own.1))

  pub any_found : ((claim : Out) → IsOutRow log program row claim → p claim ≡ true) → true ≡ list_any p out
  any_found passes = sym (any_passes p out i own.0 own.1 (passes own.0 own.2))

  pub none_more : NoneBefore i → ((claim : Out) → IsOutRow log program row claim → p claim ≡ false) → NoneBefore (i + 1)
  none_more before fails k claim lt there =
      ⊎_elim (λ less. before k claim less there)
      (λ le.
      let same : k ≡ i = omega (arith, lt, le) in
      let it : own.0 ≡ claim = some_same (sym own.1 ∙ ap (slice_get out) (sym same) ∙ there) in
      subst (λ (c : Out). p c ≡ false) it (fails own.0 own.2)) (cases_lt k i)

-- none at all
pub none_found : (log : List Told) (program : Program) (rows : List OutRow) (out : List Out) → AreOut log program rows out →
    (p : Out → Bool) →
    ((k : ℕ) (claim : Out) → k < length rows → slice_get out k ≡ Some claim → p claim ≡ false) →
    None ≡ option_map (λ (claim : Out). claim.number) (find p out)
none_found log program rows out are p fails =
    sym
    (ap (option_map (λ (claim : Out). claim.number))
    (find_none p out
    (λ k claim at. fails k claim
    (let lt = slice_get_within out k claim at in let e = zipped_length (IsOutRow log program) rows out are in omega (arith, lt, e)) at)))

pub none_any_found : (log : List Told) (program : Program) (rows : List OutRow) (out : List Out) → AreOut log program rows out →
    (p : Out → Bool) →
    ((k : ℕ) (claim : Out) → k < length rows → slice_get out k ≡ Some claim → p claim ≡ false) → false ≡ list_any p out
none_any_found log program rows out are p fails =
    sym (any_none p out
    (λ k claim at. fails k claim
    (let lt = slice_get_within out k claim at in let e = zipped_length (IsOutRow log program) rows out are in omega (arith, lt, e)) at))

-- ---- the claim of a number and a key

pub claim_test : (claim : Claimed) (out : Out) (b : Bool) (key : Key) → out.number ≡ claim.number → out.key ≡ key →
    (b ≡ true → key ≡ claim.key) → (key ≡ claim.key → b ≡ true) → b ≡ is_claim claim out
claim_test claim out b key number key_is there back =
    same_answers b (key_test.0 out.key claim.key) (λ t. (key_test.1 out.key claim.key).1 (key_is ∙ there t))
    (λ t. back (sym key_is ∙ (key_test.1 out.key claim.key).0 t)) ∙
    ap (λ c. c && key_test.0 out.key claim.key) (sym ((Decides-eqb out.number claim.number).1 number))

pub other_number : (claim : Claimed) (out : Out) → (out.number ≡ claim.number → ⊥) → is_claim claim out ≡ false
other_number claim out other = by_test (out.number == claim.number) refl
  where
    by_test : (b : Bool) → (out.number == claim.number) ≡ b → (b && key_test.0 out.key claim.key) ≡ false
    by_test false e = refl
    by_test true e = absurd (other ((Decides-eqb out.number claim.number).0 e))

-- ---- turns

pub some_from : (o : Option Slot) (r : Option ℕ) → IfSome r (λ n. option_map (λ (slot : Slot). slot.claim) o ≡ Some n) → is_some r ≡ true →
    is_some o ≡ true
some_from o None sound e = cc
some_from None (Some n) sound e = not_none sound
some_from (Some slot) (Some n) sound e = refl

pub none_from : (o : Option Slot) (r : Option ℕ) → r ≡ option_map (λ (slot : Slot). slot.claim) o → is_some r ≡ false →
    option_map (λ (slot : Slot). slot.claim) o ≡ None
none_from o None exact e = sym exact
none_from o (Some n) exact e = cc

pub none_settled : (o : Option Slot) → option_map (λ (slot : Slot). slot.claim) o ≡ None → o ≡ None
none_settled None e = refl
none_settled (Some slot) e = cc

module _ (log : List Told) (parts : Parts) (slots : List (Option SlotRow)) (sight : IsSight log parts slots) (place : ℕ)
    (row : ComponentRow) (at_row : slice_get parts.components.items place ≡ Some row) where
  abbrev world : World
  world = replay (events_of log)

  pub due_at : AreSettled log parts slots sight place row at_row → (key : Key) × IsDueAt world place key
  due_at settled =
      let known = due_known log parts slots sight place row at_row settled in
      let own = stands log parts slots sight place row at_row in
      (_, record { standing = own.standing; at = own.at; due = known.1 })

  pub turn_out : (key : Key) → IsDueAt world place key → option_map (λ (slot : Slot). slot.claim) (settled_at world place) ≡ None →
      (number : ℕ) →
      Some number ≡ option_map (λ (claim : Out). claim.number) (find (λ (claim : Out). key_test.0 claim.key key) world.out) →
      IsOutBy world place number
  turn_out key due none number is =
      let claim =
      mapped_some (λ (claim : Out). claim.number) (find (λ (claim : Out). key_test.0 claim.key key) world.out) number (sym is) in
      let there = found (λ (one : Out). key_test.0 one.key key) world.out claim.0 claim.1 in
      record {
        out = record {
          standing = due.standing;
          at = due.at;
          settled = sym (settled_of world place due.standing due.at) ∙ none_settled (settled_at world place) none;
          place = there.1.0;
          claim = claim.0;
          outstanding = there.1.1;
          due = due.due ∙ ap (λ k. Some k) (sym ((key_test.1 claim.0.key key).0 there.0));
        };
        number_is = sym claim.2;
      }

  pub turn_free : (key : Key) → IsDueAt world place key → option_map (λ (slot : Slot). slot.claim) (settled_at world place) ≡ None →
      None ≡ option_map (λ (claim : Out). claim.number) (find (λ (claim : Out). key_test.0 claim.key key) world.out) →
      IsFree world place key
  turn_free key due none is = record {
    standing = due.standing;
    at = due.at;
    settled = sym (settled_of world place due.standing due.at) ∙ none_settled (settled_at world place) none;
    due = due.due;
    held = unfound (find (λ (claim : Out). key_test.0 claim.key key) world.out) refl is;
  }
    where
      unfound : (o : Option Out) → find (λ (claim : Out). key_test.0 claim.key key) world.out ≡ o →
          None ≡ option_map (λ (claim : Out). claim.number) o → list_any (λ (claim : Out). key_test.0 claim.key key) world.out ≡ false
      unfound None e f = none_any (λ (claim : Out). key_test.0 claim.key key) world.out e
      unfound (Some claim) e f = not_none f
