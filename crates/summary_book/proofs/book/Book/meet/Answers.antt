-- Everything that is kept is made anew for the program.
use Rattle.std.proofs.Common.{◌≡◌, ◌≤◌, ◌+◌, ◌∙◌, ◌++◌, ◌∷◌, [], false, length, replicate, sym, ap, subst, refl, arith}
use Rattle.std.specs.List.{AllZip, filter}
use Rattle.std.specs.Vec.{vec_len, vec_capacity}
use Rattle.std.proofs.lemmas.List.{length-replicate}
use Rattle.call_components.proofs.Walk.{unmarked_at}
use Rattle.claim_core.specs.Views.{IsSolution}
use Rattle.call_components.specs.Reaching.{marked}
use Rattle.component_keys.specs.Keys.{program_components}
use Rattle.claim_core.specs.declared.event.Event.TheVariants as told
use Rattle.claim_core.specs.Told.{events_of}
use Rattle.claim_laws.specs.Logs.{replay}
use Rattle.claim_laws.specs.World.{Event, is_present}
use Rattle.summary_book.specs.Book.{met_by}
use Rattle.summary_book.specs.Moved.{IsMoved}
use Rattle.summary_book.specs.Rows.{AreSlots}
use Rattle.summary_book.proofs.Booked.{met_other, met_same, revised_book, revision_small}
use Rattle.summary_book.proofs.Components.{components_length}
use Rattle.summary_book.proofs.Events.{may_revise, not_both}
use Rattle.summary_book.proofs.book.Book.meet.Goals as goal

pub returns-then-is_same-clause-met : goal.returns-then-is_same-clause-met
returns-then-is_same-clause-met g c =
    let program = c.args.program.now.value in
    met_same (replay (events_of c.self.inside.log.items)) program
    (sym c.deref-given.ensures ∙ c.is_same.ensures.0 c.if-is_same.true ∙ c.deref-present.ensures ∙ c.self.invariant.rows_are.program_is) ∙
    ap (λ v. met_by (replay v.log) program) c.self.view_is

pub overflow_add-revision : goal.overflow_add-revision
overflow_add-revision g c =
    let inside = c.self.inside in
    let small =
    revision_small
    (IsSolution g.J.Meaning.solves) inside.log inside.parts inside.slots inside.marks inside.out inside.revision inside.made
    c.self.invariant in
    omega (arith, small)

pub returns-clause-met : goal.returns-clause-met
returns-clause-met g c =
    let program = c.args.program.now.value in
    let rows = c.self.invariant.rows_are in
    met_other (replay (events_of c.self.inside.log.items)) program c.self.inside.revision
    (λ same. not_both
    (c.is_same.ensures.1
    (c.deref-given.ensures ∙ same ∙ sym rows.program_is ∙ sym c.deref-present.ensures)) c.if-is_same.false) rows.revision_is ∙
    ap (λ v. met_by (replay v.log) program) c.self.view_is

pub invariant_of-self-2 : goal.invariant_of-self-2
invariant_of-self-2 g c =
    let inside = c.self.inside in
    let rows = c.self.invariant.rows_are in
    let new = c.in_ok-parts.parts in
    let program = new.program.value in
    let last = told.Revise (inside.revision + 1) c.in_ok-program.program in
    let later_is : c.push_reserved.new.self.items ≡ inside.log.items ++ last ∷ [] =
    c.push_reserved.ensures.items ∙ ap (λ l. l ++ last ∷ []) c.reserve.ensures.items in
    let same_program : c.in_ok-program.program.value ≡ program = c.in_ok-program.ensures ∙ sym c.in_ok-parts.ensures.program in
    let may = may_revise (replay (events_of inside.log.items)) (inside.revision + 1) program (ap (λ n. n + 1) rows.revision_is)
    (λ same. not_both
    (c.is_same.ensures.1
    (c.deref-given.ensures ∙ sym c.in_ok-parts.ensures.program ∙ same ∙ sym rows.program_is
    ∙ sym c.deref-present.ensures)) c.if-is_same.false) in
    let marks_are : c.in_ok-marks.marks.items ≡ replicate c.len.result false = c.in_ok-marks.ensures.items_if_clones_equal (λ y e. e) in
    let lengths : length c.in_ok-marks.marks.items ≡ length (program_components program) =
    ap length marks_are ∙ length-replicate c.len.result false ∙ c.len.ensures ∙ new.components.ok.0
    ∙ components_length new c.in_ok-parts.ensures.parts in
    let slots_are =
    subst (λ l. AreSlots l
    (filter (is_present program)
    (replay (events_of l)).slots) program c.in_ok-slots.slots.items) c.deref.ensures.value c.in_ok-slots.ensures in
    let moved_are = subst (λ l. AllZip (IsMoved l program) inside.out.items c.in_ok-out.out.items) c.deref-3.ensures.value
    (subst (λ o. AllZip (IsMoved c.deref-3.result.now program) o c.in_ok-out.out.items) c.deref-4.ensures.value c.in_ok-out.ensures.rows) in
    let room : vec_len c.push_reserved.new.self + vec_len c.in_ok-out.out ≤ vec_capacity c.push_reserved.new.self =
    (let ok = c.in_ok-reserve.ensures.ok in
    let len = c.push_reserved.ensures.len in
    let capacity = c.push_reserved.ensures.capacity in
    let own = c.len-2.ensures in
    omega (arith, ok, len, capacity, own)) in
    revised_book
    (IsSolution g.J.Meaning.solves) inside.log c.push_reserved.new.self inside.parts inside.slots inside.marks inside.out inside.revision
    inside.made c.self.invariant last later_is new c.in_ok-slots.slots c.in_ok-marks.marks
    c.in_ok-out.out (inside.revision + 1) program
    (ap (λ p. Event.Revise (inside.revision + 1) p) same_program) may refl c.in_ok-parts.ensures.parts slots_are lengths
    (λ place. ap (λ m. marked m place) marks_are ∙ unmarked_at c.len.result place) moved_are room
