-- A component that is handed out.
use Rattle.std.proofs.Common.{◌≡◌, ℕ, ◌<◌, Bool, true, ◌&&◌, List, [], ◌∷◌, ◌++◌, length, Option, sym, ap, ◌∙◌, subst, arith}
use Rattle.std.specs.Global.{Vec}
use Rattle.std.proofs.lemmas.Bool.Decides.{Decides-eqb}
use Rattle.std.proofs.lemmas.Option.{slice_get_within}
use Rattle.shape_data.specs.declared.answer.Answer.{Answer}
use Rattle.shape_data.specs.declared.answer.Key.{Key}
use Rattle.shape_data.specs.declared.program.Program.{Program}
use Rattle.shape_data.specs.Sizes.{HasProgramSizes}
use Rattle.shape_data.specs.WellFormed.{IsProgram, IsStorableAnswer}
use Rattle.call_components.specs.Reaching.{marked}
use Rattle.component_keys.specs.Tests.{key_test}
use Rattle.component_keys.proofs.Basics.{at_end, some_same}
use Rattle.component_keys.proofs.Reach.{any_passes}
use Rattle.claim_core.specs.Sizes.{IsJobKey}
use Rattle.claim_core.specs.Views.{Claimed}
use Rattle.claim_core.specs.declared.event.Event.{Event as Told}
use Rattle.claim_core.specs.Told.{event_of, events_of}
use Rattle.claim_laws.specs.Invariant.{IsDueAt}
use Rattle.claim_laws.specs.Logs.{replay}
use Rattle.claim_laws.specs.Waits.{IsAim}
use Rattle.claim_laws.specs.World.{Event, Out, Standing, World, happened, may_happen, standings}
use Rattle.key_laws.proofs.Worlds.{due_keys}
use Rattle.summary_book.specs.declared.aims.Aim.{Aim}
use Rattle.summary_book.specs.declared.rows.OutRow.{OutRow}
use Rattle.summary_book.specs.declared.rows.Parts.{Parts}
use Rattle.summary_book.specs.declared.rows.SlotRow.{SlotRow}
use Rattle.summary_book.specs.Aims.{aimed}
use Rattle.summary_book.specs.Book.{IsBook}
use Rattle.summary_book.specs.Next.{IsFirstFree, IsFree}
use Rattle.summary_book.specs.Rows.{IsSight}
use Rattle.summary_book.specs.Views.{is_claim, is_own}
use Rattle.summary_book.proofs.Booked.{book_storable}
use Rattle.summary_book.proofs.Components.{aims_are}
use Rattle.summary_book.proofs.RowLengths.{standings_count}
use Rattle.summary_book.proofs.Events.{replay_told}
use Rattle.summary_book.proofs.Sizes.{due_sizes}

-- marks tell what the aim reaches
pub aim_path : (world : World) (program : Program) (its : Aim) (marks given : List Bool) → program ≡ world.program →
    ((component : ℕ) → marked marks component ≡ aimed program its component) → given ≡ marks →
    marked given ≡ aimed world.program its
aim_path world program its marks given program_is tell given_is =
    let path : marked marks ≡ aimed program its = λ i component. tell component i in
    ap marked given_is ∙ path ∙ ap (λ p. aimed p its) program_is

pub aim_marks : (world : World) (its : Aim) (aim : ℕ → Bool) → aim ≡ aimed world.program its → IsAim world aim
aim_marks world its aim path = subst (IsAim world) (sym path) (aims_are world its)

-- a component is due one key
pub due_once : (world : World) (component : ℕ) (key its : Key) → IsFree world component key → IsDueAt world component its → key ≡ its
due_once world component key its free due =
    some_same (sym free.due ∙ ap (λ (s : Standing). s.due) (some_same (sym free.at ∙ due.at)) ∙ due.due)

pub free_due : (world : World) (aim : ℕ → Bool) (component : ℕ) (key its : Key) → IsFirstFree world aim component key →
    IsDueAt world component its → IsFirstFree world aim component its
free_due world aim component key its first due =
    subst (IsFirstFree world aim component) (due_once world component key its first.free due) first

-- it is one of the components
pub free_within : (log : List Told) (parts : Parts) (slots : List (Option SlotRow)) → IsSight log parts slots →
    (component : ℕ) (key : Key) → IsFree (replay (events_of log)) component key → component < length parts.components.items
free_within log parts slots sight component key free =
    let lt = slice_get_within (standings (replay (events_of log))) component free.standing free.at in
    let same = standings_count log parts slots sight in
    omega (arith, lt, same)

-- what was handed out is the book's
pub handed_own : (log : List Told) (told : Told) (claim : Claimed) (number worker component : ℕ) (key : Key) →
    event_of told ≡ Event.Claim number worker component key →
    may_happen (replay (events_of log)) (Event.Claim number worker component key) ≡ true → claim.number ≡ number → claim.key ≡ key →
    is_own (replay (events_of (log ++ told ∷ []))) claim ≡ true
handed_own log told claim number worker component key event_is may number_is key_is =
    let world : World = replay (events_of log) in
    let event : Event = Event.Claim number worker component key in
    let one : Out = record { number = number; worker = worker; component = component; revision = world.revision; key = key } in
    let same : is_claim claim one ≡ true =
    ap (λ b. b && key_test.0 key claim.key) ((Decides-eqb number claim.number).1 (sym number_is))
    ∙ (key_test.1 key claim.key).1 (sym key_is) in
    let next = replay_told log told (ap (may_happen world) event_is ∙ may) ∙ ap (happened world) event_is in
    ap (λ w. is_own w claim) next ∙
    any_passes (is_claim claim) (world.out ++ one ∷ []) (length world.out) one (at_end world.out one) same

-- and a job may be asked for the key that a component is due
pub due_job : (solves : Key → Answer → Type 0) (log : Vec Told) (parts : Parts) (slots : Vec (Option SlotRow)) (marks : Vec Bool)
    (out : Vec OutRow) (revision made : ℕ) → IsBook solves log parts slots marks out revision made →
    ((key : Key) (answer : Answer) → solves key answer → IsStorableAnswer key answer) → (component : ℕ) (key : Key) →
    IsDueAt (replay (events_of log.items)) component key → IsJobKey key
due_job solves log parts slots marks out revision made book within component key due =
    let world : World = replay (events_of log.items) in
    let rows = book.rows_are in
    let formed = subst IsProgram rows.program_is rows.parts_are.formed in
    let sizes = subst HasProgramSizes rows.program_is rows.parts_are.sizes in
    let world_is = book_storable solves log parts slots marks out revision made book within in
    record {
      storable = due_keys world component due.standing key world_is due.at due.due;
      sizes = due_sizes world formed sizes component key due;
    }
