-- The answer is what the search found.
use Rattle.std.proofs.Common.{◌≡◌, ◌+◌, ◌≤◌, ◌∙◌, ◌++◌, ◌∷◌, [], length, true, refl, sym, ap, subst, arith}
use Rattle.claim_core.specs.Views.{IsSolution}
use Rattle.shape_data.specs.declared.answer.Key.{Key}
use Rattle.call_components.specs.Reaching.{marked}
use Rattle.claim_core.specs.declared.event.Event.TheVariants as told
use Rattle.claim_core.specs.Told.{events_of}
use Rattle.claim_laws.specs.Invariant.{IsDueAt}
use Rattle.claim_laws.specs.Logs.{replay}
use Rattle.claim_laws.specs.Waits.{IsAim}
use Rattle.claim_laws.specs.World.{Event, standings}
use Rattle.summary_book.specs.declared.answers.Next.TheVariants as next
use Rattle.summary_book.specs.Aims.{aimed}
use Rattle.summary_book.specs.Book.{count_marked}
use Rattle.summary_book.specs.Next.{IsFirstFree, IsNext, IsWaiting, count_aimed}
use Rattle.summary_book.specs.Rows.{AreMarks}
use Rattle.summary_book.specs.Views.{is_own}
use Rattle.summary_book.proofs.Booked.{book_sight, claimed_book, made_small, marked_book}
use Rattle.summary_book.proofs.Components.{components_small}
use Rattle.summary_book.proofs.MarkedCount.{aimed_few}
use Rattle.summary_book.proofs.RowLengths.{standings_count}
use Rattle.summary_book.proofs.Ends.{may_claim}
use Rattle.summary_book.proofs.Standings.{standings_length}
use Rattle.summary_book.proofs.Events.{told_events}
use Rattle.summary_book.proofs.Handed.{aim_marks, aim_path, due_job, free_due, free_within, handed_own}
use Rattle.summary_book.proofs.book.Book.next.Goals as goal

pub first_free-found-requires-clause-aim : goal.first_free-found-requires-clause-aim
first_free-found-requires-clause-aim g c =
    let inside = c.self.inside in
    let world = replay (events_of inside.log.items) in
    let path =
    aim_path world inside.parts.program.value c.args.aim.now c.in_ok-aim.aim.items c.deref-4.result.now
    c.self.invariant.rows_are.program_is c.in_ok-aim.ensures c.deref-4.ensures.value in
    subst (λ l. IsAim (replay (events_of l)) (marked c.deref-4.result.now)) (sym c.deref.ensures.value)
    (aim_marks world c.args.aim.now (marked c.deref-4.result.now) path)

pub returns-in-Waits-clause-next : goal.returns-in-Waits-clause-next
returns-in-Waits-clause-next g c =
    let inside = c.self.inside in
    let world = replay (events_of inside.log.items) in
    let path =
    aim_path world inside.parts.program.value c.args.aim.now c.in_ok-aim.aim.items c.deref-4.result.now
    c.self.invariant.rows_are.program_is c.in_ok-aim.ensures c.deref-4.ensures.value in
    subst (λ v. IsWaiting (replay v.log) (aimed (replay v.log).program c.args.aim.now) c.in-Waits.claim) c.self.view_is
    (subst (λ a. IsWaiting world a c.in-Waits.claim) path
    (subst (λ l. IsWaiting (replay (events_of l))
    (marked c.deref-4.result.now) c.in-Waits.claim) c.deref.ensures.value c.in-Waits.ensures.found))

pub due_key-requires-clause-place : goal.due_key-requires-clause-place
due_key-requires-clause-place g c =
    let inside = c.self.inside in
    let found =
    subst (λ l. (key : Key)
    × IsFirstFree (replay (events_of l))
    (marked c.deref-4.result.now) c.in-Free.place key) c.deref.ensures.value c.in-Free.ensures.found in
    free_within inside.log.items inside.parts inside.slots.items
    (book_sight (IsSolution g.J.Meaning.solves) inside.log inside.parts inside.slots inside.marks inside.out inside.revision inside.made
    c.self.invariant) c.in-Free.place found.0 found.1.free

pub overflow_add-number : goal.overflow_add-number
overflow_add-number g c =
    let inside = c.self.inside in
    let small =
    made_small (IsSolution g.J.Meaning.solves) inside.log inside.parts inside.slots inside.marks inside.out inside.revision inside.made
    c.self.invariant in
    omega (arith, small)

pub overflow_cast-place : goal.overflow_cast-place
overflow_cast-place g c =
    let inside = c.self.inside in
    let found =
    subst (λ l. (key : Key)
    × IsFirstFree (replay (events_of l))
    (marked c.deref-4.result.now) c.in-Free.place key) c.deref.ensures.value c.in-Free.ensures.found in
    let lt = free_within inside.log.items inside.parts inside.slots.items
    (book_sight (IsSolution g.J.Meaning.solves) inside.log inside.parts inside.slots inside.marks inside.out inside.revision inside.made
    c.self.invariant) c.in-Free.place found.0 found.1.free in
    let small = components_small inside.parts c.self.invariant.rows_are.parts_are in
    omega (arith, lt, small)

pub invariant_of-self-2 : goal.invariant_of-self-2
invariant_of-self-2 g c =
    let inside = c.self.inside in
    let world = replay (events_of inside.log.items) in
    let place = c.in-Free.place in
    let key = c.in_ok-key-2.key.value in
    let found =
    subst (λ l. (k : Key)
    × IsFirstFree (replay (events_of l)) (marked c.deref-4.result.now) place k) c.deref.ensures.value c.in-Free.ensures.found in
    let due : IsDueAt world place key =
    subst (IsDueAt world place) (sym c.in_ok-key-2.ensures.ok)
    (subst (λ l. IsDueAt (replay (events_of l)) place c.in_ok-key.key) c.deref-5.ensures.value c.in_ok-key.ensures) in
    let first = free_due world (marked c.deref-4.result.now) place found.0 key found.1 due in
    let marks =
    subst (λ l. AreMarks (replay (events_of l)) c.first_free-found.new.marks.items) c.deref.ensures.value c.in-Free.ensures.marks in
    let book =
    marked_book (IsSolution g.J.Meaning.solves) inside.log inside.log inside.parts inside.slots inside.marks inside.out inside.revision
    inside.made c.self.invariant c.first_free-found.new.marks marks in
    let may = may_claim world (inside.made + 1) c.args.worker place key (ap (λ n. n + 1) c.self.invariant.rows_are.made_is) first.free in
    claimed_book
    (IsSolution g.J.Meaning.solves) inside.log c.hand_out.new.log inside.parts inside.slots c.first_free-found.new.marks inside.out
    inside.revision inside.made book (told.Claim (inside.made + 1) c.args.worker place c.in_ok-key-2.key)
    c.in_ok-claim.ensures.log c.hand_out.new.out
    (inside.made + 1) c.args.worker place key refl refl may c.in_ok-claim.ensures.out c.in_ok-claim.ensures.room

pub returns-clause-next : goal.returns-clause-next
returns-clause-next g c =
    let inside = c.self.inside in
    let world = replay (events_of inside.log.items) in
    let place = c.in-Free.place in
    let key = c.in_ok-key-2.key.value in
    let claim = c.in_ok-claim.claim in
    let rows = c.self.invariant.rows_are in
    let path =
    aim_path world inside.parts.program.value c.args.aim.now c.in_ok-aim.aim.items c.deref-4.result.now rows.program_is
    c.in_ok-aim.ensures c.deref-4.ensures.value in
    let found =
    subst (λ l. (k : Key)
    × IsFirstFree (replay (events_of l)) (marked c.deref-4.result.now) place k) c.deref.ensures.value c.in-Free.ensures.found in
    let due : IsDueAt world place key =
    subst (IsDueAt world place) (sym c.in_ok-key-2.ensures.ok)
    (subst (λ l. IsDueAt (replay (events_of l)) place c.in_ok-key.key) c.deref-5.ensures.value c.in_ok-key.ensures) in
    let first =
    subst (λ a. IsFirstFree world a place key) path (free_due world (marked c.deref-4.result.now) place found.0 key found.1 due) in
    let own : IsFirstFree world (aimed world.program c.args.aim.now) claim.component claim.key =
    subst (λ n. IsFirstFree world (aimed world.program c.args.aim.now) n claim.key) (sym c.in_ok-claim.ensures.component)
    (subst (IsFirstFree world (aimed world.program c.args.aim.now) place) (sym c.in_ok-claim.ensures.key) first) in
    subst (λ v. IsNext (replay v.log) (aimed (replay v.log).program c.args.aim.now) (next.Yours claim)) c.self.view_is
    (c.in_ok-claim.ensures.number ∙ ap (λ n. n + 1) rows.made_is, c.in_ok-claim.ensures.revision ∙ rows.revision_is, own)

pub returns-clause-log : goal.returns-clause-log
returns-clause-log g c =
    let inside = c.self.inside in
    let claim = c.in_ok-claim.claim in
    let number = sym c.in_ok-claim.ensures.number in
    let component = sym c.in_ok-claim.ensures.component in
    let key = sym c.in_ok-claim.ensures.key in
    ap events_of c.in_ok-claim.ensures.log
    ∙ told_events inside.log.items (told.Claim (inside.made + 1) c.args.worker c.in-Free.place c.in_ok-key-2.key) ∙
    (λ i. events_of inside.log.items ++ Event.Claim (number i) c.args.worker (component i) (key i) ∷ []) ∙
    ap (λ v. v.log ++ Event.Claim claim.number c.args.worker claim.component claim.key ∷ []) c.self.view_is

pub returns-in-All-clause-marked : goal.returns-in-All-clause-marked
returns-in-All-clause-marked g c = λ all.
    let inside = c.self.inside in
    let world = replay (events_of inside.log.items) in
    let rows = c.self.invariant.rows_are in
    let path =
    aim_path world inside.parts.program.value c.args.aim.now c.in_ok-aim.aim.items c.deref-4.result.now rows.program_is
    c.in_ok-aim.ensures c.deref-4.ensures.value in
    let sight =
    book_sight (IsSolution g.J.Meaning.solves) inside.log inside.parts inside.slots inside.marks inside.out inside.revision inside.made
    c.self.invariant in
    let same = standings_count inside.log.items inside.parts inside.slots.items sight in
    let marks =
    subst (λ l. AreMarks (replay (events_of l)) c.first_free-found.new.marks.items) c.deref.ensures.value c.in-All.ensures.marks in
    let few =
    aimed_few (marked c.deref-4.result.now) c.first_free-found.new.marks.items (length (standings world))
    (marks.lengths ∙ sym (standings_length world))
    (λ place lt reached. c.in-All.ensures.all tt place (omega (arith, lt, same)) reached) in
    subst (λ v. count_aimed (replay v.log) (aimed (replay v.log).program c.args.aim.now)
    ≤ count_marked c.first_free-found.new.marks.items) c.self.view_is
    (subst (λ a. count_aimed world a ≤ count_marked c.first_free-found.new.marks.items) path few)

pub hand_out-requires-clause-key : goal.hand_out-requires-clause-key
hand_out-requires-clause-key g c =
    let inside = c.self.inside in
    let world = replay (events_of inside.log.items) in
    let place = c.in-Free.place in
    let key = c.in_ok-key-2.key.value in
    let found : IsDueAt world place c.in_ok-key.key =
    subst (λ l. IsDueAt (replay (events_of l)) place c.in_ok-key.key) c.deref-5.ensures.value c.in_ok-key.ensures in
    let due : IsDueAt world place key = subst (IsDueAt world place) (sym c.in_ok-key-2.ensures.ok) found in
    due_job (IsSolution g.J.Meaning.solves) inside.log inside.parts inside.slots inside.marks inside.out inside.revision inside.made
    c.self.invariant (λ k answer is. is.storable_answer) place key due

pub returns-clause-own : goal.returns-clause-own
returns-clause-own g c =
    let inside = c.self.inside in
    let world = replay (events_of inside.log.items) in
    let place = c.in-Free.place in
    let key = c.in_ok-key-2.key.value in
    let claim = c.in_ok-claim.claim in
    let aim = marked c.deref-4.result.now in
    let free = subst (λ l. (k : Key) × IsFirstFree (replay (events_of l)) aim place k) c.deref.ensures.value c.in-Free.ensures.found in
    let found : IsDueAt world place c.in_ok-key.key =
    subst (λ l. IsDueAt (replay (events_of l)) place c.in_ok-key.key) c.deref-5.ensures.value c.in_ok-key.ensures in
    let due : IsDueAt world place key = subst (IsDueAt world place) (sym c.in_ok-key-2.ensures.ok) found in
    let first = free_due world aim place free.0 key free.1 due in
    let number_is = ap (λ n. n + 1) c.self.invariant.rows_are.made_is in
    let may = may_claim world (inside.made + 1) c.args.worker place key number_is first.free in
    let event = told.Claim (inside.made + 1) c.args.worker place c.in_ok-key-2.key in
    subst (λ l. is_own (replay (events_of l)) claim ≡ true) (sym c.in_ok-claim.ensures.log)
    (handed_own inside.log.items event claim
    (inside.made + 1) c.args.worker place key refl may c.in_ok-claim.ensures.number c.in_ok-claim.ensures.key)
