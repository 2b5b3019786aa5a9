-- Claims given back one after the other, the least number first.
use Rattle.std.proofs.Common.{◌≡◌, ℕ, zero, suc, ◌+◌, ◌<◌, ◌==◌, true, false, List, [], ◌∷◌, ◌++◌, map, length, slice_get, Some, refl, sym}
use Rattle.std.proofs.Common.{ap, ◌∙◌, arith}
use Rattle.std.specs.Global.{Vec}
use Rattle.std.specs.List.{remove}
use Rattle.std.specs.Vec.{vec_len, vec_capacity}
use Rattle.std.specs.declared.option.Option.{Option}
use Rattle.std.proofs.Common.{Bool}
use Rattle.std.proofs.lemmas.List.{append_assoc, append-nil}
use Rattle.shape_data.specs.declared.answer.Answer.{Answer}
use Rattle.shape_data.specs.declared.answer.Key.{Key}
use Rattle.component_keys.proofs.Basics.{not_none, some_same}
use Rattle.key_laws.proofs.Elements.{zipped_length}
use Rattle.claim_core.specs.declared.event.Event.{Event as Told}
use Rattle.claim_core.specs.declared.event.Event.TheVariants as told
use Rattle.claim_core.specs.Told.{events_of}
use Rattle.claim_laws.specs.Logs.{replay}
use Rattle.claim_laws.specs.World.{Event, Out, World, may_happen, without}
use Rattle.summary_book.specs.declared.rows.OutRow.{OutRow}
use Rattle.summary_book.specs.declared.rows.Parts.{Parts}
use Rattle.summary_book.specs.declared.rows.SlotRow.{SlotRow}
use Rattle.summary_book.specs.Book.{IsBook}
use Rattle.summary_book.specs.Rows.{IsOutRow}
use Rattle.summary_book.specs.Views.{Contents}
use Rattle.summary_book.proofs.Booked.{IsLonger, given_book}
use Rattle.summary_book.proofs.Events.{may_give_back, others_stay, own_claim, replay_told, told_events}

pub positive : (n : ℕ) → (n == 0) ≡ false → 0 < n
positive zero e = cc
positive (suc n) e = omega arith

-- the ends of claims
abbrev pub ends_of : List Out → List Event
ends_of out = map (λ (claim : Out). Event.GiveBack claim.number) out

-- what is done with what is still to do is what was to do at first
pub record IsSweeping (solves : Key → Answer → Type 0) (first : Contents) (log : Vec Told) (parts : Parts) (slots : Vec (Option SlotRow))
    (marks : Vec Bool) (out : Vec OutRow) (revision made : ℕ) : Type 0 where
  pub book : IsBook solves log parts slots marks out revision made
  pub log_is : events_of log.items ++ ends_of (replay (events_of log.items)).out ≡ first.log ++ ends_of (replay first.log).out
  pub marks_are : marks.items ≡ first.marks

first_left : (out : List Out) (claim : Out) → slice_get out 0 ≡ Some claim → out ≡ claim ∷ remove out 0
first_left [] claim e = not_none e
first_left (first ∷ rest) claim e = ap (λ c. c ∷ rest) (some_same e)

module _ (solves : Key → Answer → Type 0) (first : Contents) (log later : Vec Told) (parts : Parts) (slots : Vec (Option SlotRow))
    (marks : Vec Bool) (out left : Vec OutRow) (revision made : ℕ)
    (sweeping : IsSweeping solves first log parts slots marks out revision made) (row : OutRow) (row_at : slice_get out.items 0 ≡ Some row)
    (longer : IsLonger log later (told.GiveBack row.number))
    (left_is : left.items ≡ remove out.items 0) (left_len : vec_len left + 1 ≡ vec_len out)
    (capacity : vec_capacity later ≡ vec_capacity log) where
  abbrev world : World
  world = replay (events_of log.items)

  own : (claim : Out) × (slice_get world.out 0 ≡ Some claim) × IsOutRow log.items world.program row claim
  own = own_claim log.items world.program out.items world.out 0 row sweeping.book.rows_are.out_are row_at

  number_same : own.0.number ≡ row.number
  number_same = sym own.2.number

  may : may_happen world (Event.GiveBack row.number) ≡ true
  may = ap (λ n. may_happen world (Event.GiveBack n)) (sym number_same) ∙ may_give_back (events_of log.items) 0 own.0 own.1

  out_left : (replay (events_of later.items)).out ≡ remove world.out 0
  out_left =
      ap (λ l. (replay (events_of l)).out) longer.items_are
      ∙ ap (λ (w : World). w.out) (replay_told log.items (told.GiveBack row.number) may) ∙ ap (without world.out) (sym number_same) ∙
      others_stay (events_of log.items) 0 own.0 own.1

  pub swept_more : IsSweeping solves first later parts slots marks left revision made
  swept_more = record {
    book =
        given_book solves log later parts slots marks out revision made sweeping.book
        (told.GiveBack row.number) longer left 0 row.number own.0 refl own.1 number_same left_is left_len capacity;
    log_is =
        ap (λ o. events_of later.items ++ ends_of o) out_left ∙ ap (λ l. events_of l ++ ends_of (remove world.out 0)) longer.items_are ∙
        ap (λ l. l ++ ends_of (remove world.out 0)) (told_events log.items (told.GiveBack row.number)) ∙
        append_assoc (events_of log.items) (Event.GiveBack row.number ∷ []) (ends_of (remove world.out 0)) ∙
        ap (λ n. events_of log.items ++ (Event.GiveBack n ∷ ends_of (remove world.out 0))) (sym number_same) ∙
        ap (λ o. events_of log.items ++ ends_of o) (sym (first_left world.out own.0 own.1)) ∙ sweeping.log_is;
    marks_are = sweeping.marks_are;
  }

-- when none is left
module _ (solves : Key → Answer → Type 0) (first : Contents) (log : Vec Told) (parts : Parts) (slots : Vec (Option SlotRow))
    (marks : Vec Bool) (out : Vec OutRow) (revision made : ℕ)
    (sweeping : IsSweeping solves first log parts slots marks out revision made) (none : vec_len out ≡ 0) where
  pub none_out : (replay (events_of log.items)).out ≡ []
  none_out =
      empty (replay (events_of log.items)).out
      (let same = zipped_length (IsOutRow log.items (replay (events_of log.items)).program) out.items
      (replay (events_of log.items)).out sweeping.book.rows_are.out_are in let f = out.ok.0 in omega (arith, same, f, none))
    where
      empty : (xs : List Out) → length xs ≡ 0 → xs ≡ []
      empty [] e = refl
      empty (x ∷ xs) e = absurd (omega (arith, e))

  pub all_swept : events_of log.items ≡ first.log ++ ends_of (replay first.log).out
  all_swept = sym (append-nil (events_of log.items)) ∙ ap (λ o. events_of log.items ++ ends_of o) (sym none_out) ∙ sweeping.log_is
