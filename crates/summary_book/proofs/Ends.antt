-- The ends of claims: which row is a claim's, and what becomes of its answer.
use Rattle.std.proofs.Common.{◌≡◌, ℕ, ◌+◌, ◌==◌, Bool, true, false, ◌&&◌, not, List, slice_get, is_some, Some, None, Option, refl, sym, ap}
use Rattle.std.proofs.Common.{◌∙◌, subst}
use Rattle.std.specs.List.{list_any}
use Rattle.std.proofs.lemmas.Bool.Decides.{Decides-eqb}
use Rattle.shape_data.specs.declared.answer.Answer.{Answer}
use Rattle.shape_data.specs.declared.answer.Key.{Key}
use Rattle.shape_data.specs.declared.program.Program.{Program}
use Rattle.component_keys.specs.Keys.{names_of, program_components}
use Rattle.component_keys.specs.Tests.{key_test}
use Rattle.component_keys.proofs.Basics.{both_true, some_same}
use Rattle.component_keys.proofs.Ordered.{some_passes}
use Rattle.key_laws.proofs.Elements.{zipped_left}
use Rattle.claim_core.specs.Views.{Claimed}
use Rattle.claim_core.specs.declared.event.Event.{Event as Told}
use Rattle.claim_core.specs.Told.{events_of}
use Rattle.claim_laws.specs.Logs.{IsSolved, replay}
use Rattle.claim_laws.specs.World.{Event, Out, World, is_claimable, is_due, is_kept, is_kept_outcome, may_happen, outcome_at, out_of}
use Rattle.claim_laws.specs.World.{standing_at}
use Rattle.claim_laws.proofs.Invariant.{replayed_world}
use Rattle.summary_book.specs.declared.rows.OutRow.{OutRow}
use Rattle.summary_book.specs.Held.{IsPlaceOf}
use Rattle.summary_book.specs.Next.{IsFree}
use Rattle.summary_book.specs.Rows.{AreOut, IsOutRow, place_named}
use Rattle.summary_book.specs.Views.{is_claim, is_own}
use Rattle.summary_book.proofs.Events.{not_both, own_claim, own_found}
use Rattle.summary_book.proofs.Standings.{named_none}
use Rattle.summary_book.proofs.Lists.{rising_differ}

-- the row of a claim and the claim
pub record IsEnd (log : List Told) (program : Program) (rows : List OutRow) (at : ℕ) (claim : Claimed) : Type 0 where
  pub row : OutRow
  pub out : Out
  pub row_at : slice_get rows at ≡ Some row
  pub out_at : slice_get (replay (events_of log)).out at ≡ Some out
  pub row_is : IsOutRow log program row out
  pub number_is : out.number ≡ claim.number
  pub key_is : out.key ≡ claim.key

pub end_at : (log : List Told) (program : Program) (rows : List OutRow) (at : ℕ) (claim : Claimed) →
    AreOut log program rows (replay (events_of log)).out → is_own (replay (events_of log)) claim ≡ true →
    IsPlaceOf claim.number rows at → IsEnd log program rows at claim
end_at log program rows at claim are own place =
    let world : World = replay (events_of log) in
    let there = some_passes (is_claim claim) world.out own in
    let tests = both_true (there.1.number == claim.number) _ there.3 in
    let number : there.1.number ≡ claim.number = (Decides-eqb there.1.number claim.number).0 tests.0 in
    let key : there.1.key ≡ claim.key = (key_test.1 there.1.key claim.key).0 tests.1 in
    let back = zipped_left (IsOutRow log program) rows world.out there.0 there.1 are there.2 in
    let row = place there.0 back.0 back.1 (back.2.number ∙ number) in
    let own_out = own_claim log program rows world.out at row.0 are row.1 in
    let number_is : own_out.0.number ≡ claim.number = sym own_out.2.number ∙ row.2 in
    let same : at
    ≡ there.0 =
    rising_differ (λ (o : Out). o.number) world.out
    (replayed_world (events_of log)).out_rising at there.0 own_out.0 there.1 own_out.1 there.2 (number_is ∙ sym number) in
    record {
      row = row.0;
      out = own_out.0;
      row_at = row.1;
      out_at = own_out.1;
      row_is = own_out.2;
      number_is = number_is;
      key_is = ap (λ (o : Out). o.key) (some_same (sym own_out.1 ∙ ap (slice_get world.out) same ∙ there.2)) ∙ key;
    }

-- the claim of the number is this one
pub out_of_end : (log : List Told) (program : Program) (rows : List OutRow) (at : ℕ) (claim : Claimed)
    (end : IsEnd log program rows at claim) → out_of (replay (events_of log)).out claim.number ≡ Some end.out
out_of_end log program rows at claim end =
    ap (out_of (replay (events_of log)).out) (sym end.number_is) ∙ own_found (events_of log) at end.out end.out_at

-- an answer that is right for the claim's key
pub end_solved : (solves : Key → Answer → Type 0) (log : List Told) (program : Program) (rows : List OutRow) (at : ℕ) (claim : Claimed)
    (answer : Answer) (kept : Bool) → IsEnd log program rows at claim → solves claim.key answer →
    IsSolved solves (replay (events_of log)) (Event.Publish claim.number answer kept)
end_solved solves log program rows at claim answer kept end right = λ out is.
    let same : end.out ≡ out = some_same (sym (out_of_end log program rows at claim end) ∙ is) in
    subst (λ (k : Key). solves k answer) (sym end.key_is ∙ ap (λ (o : Out). o.key) same) right

-- what is kept is for a present component
pub kept_here : (log : List Told) (program : Program) (row : OutRow) (claim : Out) → program ≡ (replay (events_of log)).program →
    IsOutRow log program row claim → is_kept (replay (events_of log)) claim ≡ true →
    (here : ℕ) × (row.here ≡ Some here)
kept_here log program row claim program_is is kept = by_here row.here refl
  where
    by_here : (o : Option ℕ) → row.here ≡ o → (here : ℕ) × (row.here ≡ Some here)
    by_here (Some here) e = (here, e)
    by_here None e =
        let none : place_named (program_components (replay (events_of log)).program) (names_of claim.key.procs) ≡ None =
        ap (λ p. place_named (program_components p) (names_of claim.key.procs)) (sym program_is) ∙ sym is.here ∙ e in
        let gone : is_kept (replay (events_of log)) claim ≡ false =
        ap (λ o. is_kept_outcome (outcome_at (replay (events_of log)).revision (replay (events_of log)).slots claim o))
        (named_none (replay (events_of log)) (names_of claim.key.procs) none) in
        not_both kept gone

-- a component that is free may be claimed
pub may_claim : (world : World) (number worker component : ℕ) (key : Key) → number ≡ world.made + 1 → IsFree world component key →
    may_happen world (Event.Claim number worker component key) ≡ true
may_claim world number worker component key next free =
    let claimable : is_claimable (standing_at world component) key ≡ true =
    ap (λ o. is_claimable o key) free.at ∙ ap (λ o. not (is_some o) && is_due free.standing.due key) free.settled
    ∙ ap (λ o. is_due o key) free.due ∙ (key_test.1 key key).1 refl in
    ap (λ b. b && (is_claimable (standing_at world component) key && not (list_any (λ (claim : Out). key_test.0 claim.key key) world.out)))
    ((Decides-eqb number (world.made + 1)).1 next) ∙
    ap (λ b. b && not (list_any (λ (claim : Out). key_test.0 claim.key key) world.out)) claimable ∙ ap not free.held
