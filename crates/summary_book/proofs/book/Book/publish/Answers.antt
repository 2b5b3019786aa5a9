-- The answer becomes its component's by the order of cases.
use Rattle.std.proofs.Common.{◌≡◌, ◌∙◌, ◌++◌, ◌∷◌, [], true, is_some, Some, refl, sym, ap, subst}
use Rattle.call_components.specs.Reaching.{marked}
use Rattle.claim_core.specs.Views.{IsSolution}
use Rattle.claim_core.specs.declared.event.Event.TheVariants as told
use Rattle.claim_core.specs.Told.{events_of}
use Rattle.claim_laws.specs.Invariant.{IsDueAt}
use Rattle.claim_laws.specs.Logs.{replay, settled_at}
use Rattle.claim_laws.specs.World.{Event, Out, is_kept_outcome, out_of, outcome}
use Rattle.summary_book.specs.Held.{IsPlaceOf}
use Rattle.summary_book.specs.Moved.{with_slot}
use Rattle.summary_book.specs.Rows.{AreMarks, IsOutRow, IsSight}
use Rattle.summary_book.specs.Settled.{AreExact, IsExactAt, IsMarkedAnew}
use Rattle.summary_book.specs.Views.{is_own}
use Rattle.summary_book.proofs.Answered.{component_marked, end_within, here_among, here_within, kept_answer, published_by, row_here}
use Rattle.summary_book.proofs.Answered.{stale_answer}
use Rattle.summary_book.proofs.Booked.{IsLonger, book_sight, marked_book}
use Rattle.summary_book.proofs.Events.{not_both, told_events}
use Rattle.summary_book.proofs.book.Book.publish.Goals.{then-kept, else-kept}
use Rattle.summary_book.proofs.book.Book.publish.Goals as goal

pub remove-row-requires : goal.remove-row-requires
remove-row-requires g c =
    let inside = c.self.inside in
    let own : is_own (replay (events_of inside.log.items)) c.args.claim ≡ true =
    subst (λ v. is_own (replay v.log) c.args.claim ≡ true) (sym c.self.view_is) c.requires.own in
    let place : IsPlaceOf c.args.claim.number inside.out.items c.place_of-at.result =
    subst (λ l. IsPlaceOf c.args.claim.number l c.place_of-at.result) c.deref.ensures.value
    (subst (λ n. IsPlaceOf n c.deref.result.now c.place_of-at.result) c.number-number.ensures c.place_of-at.ensures) in
    end_within (IsSolution g.J.Meaning.solves) inside.log inside.parts inside.slots inside.marks inside.out inside.revision inside.made
    c.self.invariant c.args.claim c.place_of-at.result own place

pub outcome-published-requires-clause-place : goal.outcome-published-requires-clause-place
outcome-published-requires-clause-place g c =
    let inside = c.self.inside in
    let own : is_own (replay (events_of inside.log.items)) c.args.claim ≡ true =
    subst (λ v. is_own (replay v.log) c.args.claim ≡ true) (sym c.self.view_is) c.requires.own in
    let place : IsPlaceOf c.args.claim.number inside.out.items c.place_of-at.result =
    subst (λ l. IsPlaceOf c.args.claim.number l c.place_of-at.result) c.deref.ensures.value
    (subst (λ n. IsPlaceOf n c.deref.result.now c.place_of-at.result) c.number-number.ensures c.place_of-at.ensures) in
    here_within (IsSolution g.J.Meaning.solves) inside.log inside.parts inside.slots inside.marks inside.out inside.revision inside.made
    c.self.invariant c.args.claim c.place_of-at.result own place c.remove-row.result c.remove-row.ensures.value

pub keep-requires : goal.keep-requires
keep-requires g c =
    let inside = c.self.inside in
    let own : is_own (replay (events_of inside.log.items)) c.args.claim ≡ true =
    subst (λ v. is_own (replay v.log) c.args.claim ≡ true) (sym c.self.view_is) c.requires.own in
    let place : IsPlaceOf c.args.claim.number inside.out.items c.place_of-at.result =
    subst (λ l. IsPlaceOf c.args.claim.number l c.place_of-at.result) c.deref.ensures.value
    (subst (λ n. IsPlaceOf n c.deref.result.now c.place_of-at.result) c.number-number.ensures c.place_of-at.ensures) in
    here_among (IsSolution g.J.Meaning.solves) inside.log inside.parts inside.slots inside.marks inside.out inside.revision inside.made
    c.self.invariant c.args.claim c.place_of-at.result own place c.remove-row.result c.remove-row.ensures.value

pub mark-requires-clause-sight : goal.mark-requires-clause-sight
mark-requires-clause-sight g c =
    let inside = c.self.inside in
    let own : is_own (replay (events_of inside.log.items)) c.args.claim ≡ true =
    subst (λ v. is_own (replay v.log) c.args.claim ≡ true) (sym c.self.view_is) c.requires.own in
    let place : IsPlaceOf c.args.claim.number inside.out.items c.place_of-at.result =
    subst (λ l. IsPlaceOf c.args.claim.number l c.place_of-at.result) c.deref.ensures.value
    (subst (λ n. IsPlaceOf n c.deref.result.now c.place_of-at.result) c.number-number.ensures c.place_of-at.ensures) in
    let marks =
    subst (λ l. AreMarks
    (replay (events_of l)) c.outcome-published.new.marks.items) c.deref-2.ensures.value c.outcome-published.ensures.marks in
    let tells : (one : Out) → IsOutRow inside.log.items inside.parts.program.value c.remove-row.result one
    → c.outcome-published.result ≡ outcome (replay (events_of inside.log.items)) one =
    subst (λ l. (one : Out) → IsOutRow l inside.parts.program.value c.remove-row.result one
    → c.outcome-published.result ≡ outcome (replay (events_of l)) one) c.deref-2.ensures.value c.outcome-published.ensures.outcome in
    let right =
    subst (λ k. IsSolution g.J.Meaning.solves k c.into_answer-answer.result.value) (sym c.requires.key)
    (subst (IsSolution g.J.Meaning.solves c.args.solved.key)
    (sym c.into_answer-answer.ensures.answer) c.into_answer-answer.ensures.solution) in
    let last = told.Publish c.number-number.result c.into_answer-answer.result c.is_kept-kept.result in
    let longer : IsLonger inside.log c.push_reserved.new.self last =
    record { items_are = c.push_reserved.ensures.items; len_is = c.push_reserved.ensures.len } in
    let kept =
    kept_answer (IsSolution g.J.Meaning.solves) inside.log inside.parts inside.slots inside.marks inside.out inside.revision inside.made
    c.self.invariant c.args.claim c.place_of-at.result own place c.remove-row.result c.remove-row.ensures.value
    c.outcome-published.new.marks marks c.outcome-published.result tells c.push_reserved.new.self last longer c.remove-row.new.self
    c.remove-row.ensures.items c.remove-row.ensures.len
    c.push_reserved.ensures.capacity c.number-number.result c.number-number.ensures c.into_answer-answer.result.value right
    c.is_kept-kept.result refl c.is_kept-kept.ensures c.if-kept.true refl c.keep.new.slots
    (c.keep.ensures ∙ ap (λ n. with_slot inside.slots.items c.remove-row.result n) c.len-place.ensures) in
    let sight =
    book_sight (IsSolution g.J.Meaning.solves) c.push_reserved.new.self inside.parts c.keep.new.slots c.outcome-published.new.marks
    c.remove-row.new.self inside.revision inside.made kept in
    subst (λ l. IsSight l inside.parts c.deref-then-kept-2.result.now) (sym c.deref-then-kept.ensures.value)
    (subst (IsSight c.push_reserved.new.self.items inside.parts) (sym c.deref-then-kept-2.ensures.value) sight)

pub mark-requires-clause-marks : goal.mark-requires-clause-marks
mark-requires-clause-marks g c =
    let inside = c.self.inside in
    let own : is_own (replay (events_of inside.log.items)) c.args.claim ≡ true =
    subst (λ v. is_own (replay v.log) c.args.claim ≡ true) (sym c.self.view_is) c.requires.own in
    let place : IsPlaceOf c.args.claim.number inside.out.items c.place_of-at.result =
    subst (λ l. IsPlaceOf c.args.claim.number l c.place_of-at.result) c.deref.ensures.value
    (subst (λ n. IsPlaceOf n c.deref.result.now c.place_of-at.result) c.number-number.ensures c.place_of-at.ensures) in
    let marks =
    subst (λ l. AreMarks
    (replay (events_of l)) c.outcome-published.new.marks.items) c.deref-2.ensures.value c.outcome-published.ensures.marks in
    let tells : (one : Out) → IsOutRow inside.log.items inside.parts.program.value c.remove-row.result one
    → c.outcome-published.result ≡ outcome (replay (events_of inside.log.items)) one =
    subst (λ l. (one : Out) → IsOutRow l inside.parts.program.value c.remove-row.result one
    → c.outcome-published.result ≡ outcome (replay (events_of l)) one) c.deref-2.ensures.value c.outcome-published.ensures.outcome in
    let right =
    subst (λ k. IsSolution g.J.Meaning.solves k c.into_answer-answer.result.value) (sym c.requires.key)
    (subst (IsSolution g.J.Meaning.solves c.args.solved.key)
    (sym c.into_answer-answer.ensures.answer) c.into_answer-answer.ensures.solution) in
    let last = told.Publish c.number-number.result c.into_answer-answer.result c.is_kept-kept.result in
    let longer : IsLonger inside.log c.push_reserved.new.self last =
    record { items_are = c.push_reserved.ensures.items; len_is = c.push_reserved.ensures.len } in
    let kept =
    kept_answer (IsSolution g.J.Meaning.solves) inside.log inside.parts inside.slots inside.marks inside.out inside.revision inside.made
    c.self.invariant c.args.claim c.place_of-at.result own place c.remove-row.result c.remove-row.ensures.value
    c.outcome-published.new.marks marks c.outcome-published.result tells c.push_reserved.new.self last longer c.remove-row.new.self
    c.remove-row.ensures.items c.remove-row.ensures.len
    c.push_reserved.ensures.capacity c.number-number.result c.number-number.ensures c.into_answer-answer.result.value right
    c.is_kept-kept.result refl c.is_kept-kept.ensures c.if-kept.true refl c.keep.new.slots
    (c.keep.ensures ∙ ap (λ n. with_slot inside.slots.items c.remove-row.result n) c.len-place.ensures) in
    subst (λ l. AreMarks (replay (events_of l)) c.outcome-published.new.marks.items)
    (sym c.deref-then-kept.ensures.value) kept.rows_are.marks_are

pub mark-requires-clause-place : goal.mark-requires-clause-place
mark-requires-clause-place g c =
    let inside = c.self.inside in
    let own : is_own (replay (events_of inside.log.items)) c.args.claim ≡ true =
    subst (λ v. is_own (replay v.log) c.args.claim ≡ true) (sym c.self.view_is) c.requires.own in
    let place : IsPlaceOf c.args.claim.number inside.out.items c.place_of-at.result =
    subst (λ l. IsPlaceOf c.args.claim.number l c.place_of-at.result) c.deref.ensures.value
    (subst (λ n. IsPlaceOf n c.deref.result.now c.place_of-at.result) c.number-number.ensures c.place_of-at.ensures) in
    here_within (IsSolution g.J.Meaning.solves) inside.log inside.parts inside.slots inside.marks inside.out inside.revision inside.made
    c.self.invariant c.args.claim c.place_of-at.result own place c.remove-row.result c.remove-row.ensures.value

pub invariant_of-self : goal.invariant_of-self
invariant_of-self g c =
    let inside = c.self.inside in
    let own : is_own (replay (events_of inside.log.items)) c.args.claim ≡ true =
    subst (λ v. is_own (replay v.log) c.args.claim ≡ true) (sym c.self.view_is) c.requires.own in
    let place : IsPlaceOf c.args.claim.number inside.out.items c.place_of-at.result =
    subst (λ l. IsPlaceOf c.args.claim.number l c.place_of-at.result) c.deref.ensures.value
    (subst (λ n. IsPlaceOf n c.deref.result.now c.place_of-at.result) c.number-number.ensures c.place_of-at.ensures) in
    let marks =
    subst (λ l. AreMarks
    (replay (events_of l)) c.outcome-published.new.marks.items) c.deref-2.ensures.value c.outcome-published.ensures.marks in
    let tells : (one : Out) → IsOutRow inside.log.items inside.parts.program.value c.remove-row.result one
    → c.outcome-published.result ≡ outcome (replay (events_of inside.log.items)) one =
    subst (λ l. (one : Out) → IsOutRow l inside.parts.program.value c.remove-row.result one
    → c.outcome-published.result ≡ outcome (replay (events_of l)) one) c.deref-2.ensures.value c.outcome-published.ensures.outcome in
    let right =
    subst (λ k. IsSolution g.J.Meaning.solves k c.into_answer-answer.result.value) (sym c.requires.key)
    (subst (IsSolution g.J.Meaning.solves c.args.solved.key)
    (sym c.into_answer-answer.ensures.answer) c.into_answer-answer.ensures.solution) in
    let last = told.Publish c.number-number.result c.into_answer-answer.result c.is_kept-kept.result in
    let longer : IsLonger inside.log c.push_reserved.new.self last =
    record { items_are = c.push_reserved.ensures.items; len_is = c.push_reserved.ensures.len } in
    let kept =
    kept_answer (IsSolution g.J.Meaning.solves) inside.log inside.parts inside.slots inside.marks inside.out inside.revision inside.made
    c.self.invariant c.args.claim c.place_of-at.result own place c.remove-row.result c.remove-row.ensures.value
    c.outcome-published.new.marks marks c.outcome-published.result tells c.push_reserved.new.self last longer c.remove-row.new.self
    c.remove-row.ensures.items c.remove-row.ensures.len
    c.push_reserved.ensures.capacity c.number-number.result c.number-number.ensures c.into_answer-answer.result.value right
    c.is_kept-kept.result refl c.is_kept-kept.ensures c.if-kept.true refl c.keep.new.slots
    (c.keep.ensures ∙ ap (λ n. with_slot inside.slots.items c.remove-row.result n) c.len-place.ensures) in
    marked_book (IsSolution g.J.Meaning.solves) c.push_reserved.new.self c.push_reserved.new.self inside.parts c.keep.new.slots
    c.outcome-published.new.marks c.remove-row.new.self inside.revision inside.made kept c.mark.new.marks
    (subst (λ l. AreMarks (replay (events_of l)) c.mark.new.marks.items) c.deref-then-kept.ensures.value c.mark.ensures.marks)

pub invariant_of-self-else-kept : goal.invariant_of-self-else-kept
invariant_of-self-else-kept g c =
    let inside = c.self.inside in
    let own : is_own (replay (events_of inside.log.items)) c.args.claim ≡ true =
    subst (λ v. is_own (replay v.log) c.args.claim ≡ true) (sym c.self.view_is) c.requires.own in
    let place : IsPlaceOf c.args.claim.number inside.out.items c.place_of-at.result =
    subst (λ l. IsPlaceOf c.args.claim.number l c.place_of-at.result) c.deref.ensures.value
    (subst (λ n. IsPlaceOf n c.deref.result.now c.place_of-at.result) c.number-number.ensures c.place_of-at.ensures) in
    let marks =
    subst (λ l. AreMarks
    (replay (events_of l)) c.outcome-published.new.marks.items) c.deref-2.ensures.value c.outcome-published.ensures.marks in
    let tells : (one : Out) → IsOutRow inside.log.items inside.parts.program.value c.remove-row.result one
    → c.outcome-published.result ≡ outcome (replay (events_of inside.log.items)) one =
    subst (λ l. (one : Out) → IsOutRow l inside.parts.program.value c.remove-row.result one
    → c.outcome-published.result ≡ outcome (replay (events_of l)) one) c.deref-2.ensures.value c.outcome-published.ensures.outcome in
    let right =
    subst (λ k. IsSolution g.J.Meaning.solves k c.into_answer-answer.result.value) (sym c.requires.key)
    (subst (IsSolution g.J.Meaning.solves c.args.solved.key)
    (sym c.into_answer-answer.ensures.answer) c.into_answer-answer.ensures.solution) in
    let last = told.Publish c.number-number.result c.into_answer-answer.result c.is_kept-kept.result in
    let longer : IsLonger inside.log c.push_reserved.new.self last =
    record { items_are = c.push_reserved.ensures.items; len_is = c.push_reserved.ensures.len } in
    stale_answer
    (IsSolution g.J.Meaning.solves) inside.log inside.parts inside.slots inside.marks inside.out inside.revision inside.made
    c.self.invariant c.args.claim c.place_of-at.result own place c.remove-row.result c.remove-row.ensures.value
    c.outcome-published.new.marks marks c.outcome-published.result tells c.push_reserved.new.self last longer c.remove-row.new.self
    c.remove-row.ensures.items c.remove-row.ensures.len
    c.push_reserved.ensures.capacity c.number-number.result c.number-number.ensures c.into_answer-answer.result.value right
    c.is_kept-kept.result refl c.is_kept-kept.ensures c.if-kept.false

pub returns-clause-published : goal.returns-clause-published
returns-clause-published g c =
    let inside = c.self.inside in
    let own : is_own (replay (events_of inside.log.items)) c.args.claim ≡ true =
    subst (λ v. is_own (replay v.log) c.args.claim ≡ true) (sym c.self.view_is) c.requires.own in
    let place : IsPlaceOf c.args.claim.number inside.out.items c.place_of-at.result =
    subst (λ l. IsPlaceOf c.args.claim.number l c.place_of-at.result) c.deref.ensures.value
    (subst (λ n. IsPlaceOf n c.deref.result.now c.place_of-at.result) c.number-number.ensures c.place_of-at.ensures) in
    let marks =
    subst (λ l. AreMarks
    (replay (events_of l)) c.outcome-published.new.marks.items) c.deref-2.ensures.value c.outcome-published.ensures.marks in
    let tells : (one : Out) → IsOutRow inside.log.items inside.parts.program.value c.remove-row.result one
    → c.outcome-published.result ≡ outcome (replay (events_of inside.log.items)) one =
    subst (λ l. (one : Out) → IsOutRow l inside.parts.program.value c.remove-row.result one
    → c.outcome-published.result ≡ outcome (replay (events_of l)) one) c.deref-2.ensures.value c.outcome-published.ensures.outcome in
    subst (λ v. (one : Out) → out_of (replay v.log).out c.args.claim.number ≡ Some one
    → c.outcome-published.result ≡ outcome (replay v.log) one) c.self.view_is
    (published_by
    (IsSolution g.J.Meaning.solves) inside.log inside.parts inside.slots inside.marks inside.out inside.revision inside.made
    c.self.invariant c.args.claim c.place_of-at.result own place c.remove-row.result c.remove-row.ensures.value
    c.outcome-published.new.marks marks c.outcome-published.result tells)

pub returns-clause-log : goal.returns-clause-log
returns-clause-log g c =
    let inside = c.self.inside in
    let last = told.Publish c.number-number.result c.into_answer-answer.result c.is_kept-kept.result in
    let number = c.number-number.ensures in
    let answer = c.into_answer-answer.ensures.answer in
    let kept = c.is_kept-kept.ensures in
    let rest : events_of c.push_reserved.new.self.items
    ≡ c.args.self.now.log ++ Event.Publish c.args.claim.number c.args.solved.answer (is_kept_outcome c.outcome-published.result) ∷ [] =
    ap events_of c.push_reserved.ensures.items ∙ told_events inside.log.items last
    ∙ (λ i. events_of inside.log.items ++ Event.Publish (number i) (answer i) (kept i) ∷ []) ∙
    ap (λ v. v.log ++ Event.Publish c.args.claim.number c.args.solved.answer (is_kept_outcome c.outcome-published.result)
    ∷ []) c.self.view_is in
    elim c.if-kept.branch [ then-kept w ↦ ap (λ v. v.log) w.self-is ∙ rest | else-kept w ↦ ap (λ v. v.log) w.self-is ∙ rest ]

pub returns-clause-stay : goal.returns-clause-stay
returns-clause-stay g c = λ place mark.
    let inside = c.self.inside in
    let before : marked inside.marks.items place ≡ true = subst (λ v. marked v.marks place ≡ true) (sym c.self.view_is) mark in
    elim c.if-kept.branch [
      | then-kept w ↦ ap (λ v. marked v.marks place) w.self-is ∙ w.mark.ensures.stay place (c.outcome-published.ensures.stay place before)
      | else-kept w ↦ ap (λ v. marked v.marks place) w.self-is ∙ c.outcome-published.ensures.stay place before
    ]

pub returns-clause-settled : goal.returns-clause-settled
returns-clause-settled g c = λ component due kept.
    let inside = c.self.inside in
    let own : is_own (replay (events_of inside.log.items)) c.args.claim ≡ true =
    subst (λ v. is_own (replay v.log) c.args.claim ≡ true) (sym c.self.view_is) c.requires.own in
    let place : IsPlaceOf c.args.claim.number inside.out.items c.place_of-at.result =
    subst (λ l. IsPlaceOf c.args.claim.number l c.place_of-at.result) c.deref.ensures.value
    (subst (λ n. IsPlaceOf n c.deref.result.now c.place_of-at.result) c.number-number.ensures c.place_of-at.ensures) in
    let marks =
    subst (λ l. AreMarks
    (replay (events_of l)) c.outcome-published.new.marks.items) c.deref-2.ensures.value c.outcome-published.ensures.marks in
    let tells : (one : Out) → IsOutRow inside.log.items inside.parts.program.value c.remove-row.result one
    → c.outcome-published.result ≡ outcome (replay (events_of inside.log.items)) one =
    subst (λ l. (one : Out) → IsOutRow l inside.parts.program.value c.remove-row.result one
    → c.outcome-published.result ≡ outcome (replay (events_of l)) one) c.deref-2.ensures.value c.outcome-published.ensures.outcome in
    let right =
    subst (λ k. IsSolution g.J.Meaning.solves k c.into_answer-answer.result.value) (sym c.requires.key)
    (subst (IsSolution g.J.Meaning.solves c.args.solved.key)
    (sym c.into_answer-answer.ensures.answer) c.into_answer-answer.ensures.solution) in
    let last = told.Publish c.number-number.result c.into_answer-answer.result c.is_kept-kept.result in
    let longer : IsLonger inside.log c.push_reserved.new.self last =
    record { items_are = c.push_reserved.ensures.items; len_is = c.push_reserved.ensures.len } in
    let due_now : IsDueAt (replay (events_of inside.log.items)) component c.args.claim.key =
    subst (λ v. IsDueAt (replay v.log) component c.args.claim.key) (sym c.self.view_is) due in
    let here_is : c.remove-row.result.here ≡ Some component =
    row_here (IsSolution g.J.Meaning.solves) inside.log inside.parts inside.slots inside.marks inside.out inside.revision inside.made
    c.self.invariant c.args.claim c.place_of-at.result own place c.remove-row.result c.remove-row.ensures.value component due_now in
    let exact =
    subst (λ l. AreExact (replay (events_of l)) c.outcome-published.new.marks.items component) c.deref-2.ensures.value
    (c.outcome-published.ensures.exact component here_is) in
    elim c.if-kept.branch [
      | then-kept w ↦
          (let anew = component_marked
          (IsSolution g.J.Meaning.solves) inside.log inside.parts inside.slots inside.marks inside.out inside.revision inside.made
          c.self.invariant c.args.claim c.place_of-at.result own place
          c.remove-row.result c.remove-row.ensures.value c.outcome-published.new.marks marks c.outcome-published.result tells
          c.push_reserved.new.self last longer c.remove-row.new.self c.remove-row.ensures.items
          c.remove-row.ensures.len c.push_reserved.ensures.capacity c.number-number.result c.number-number.ensures
          c.into_answer-answer.result.value right c.is_kept-kept.result refl c.is_kept-kept.ensures
          component due_now kept w.mark.new.marks.items exact
          (λ e s. w.mark.ensures.found component here_is
          (subst (λ l. IsExactAt (replay (events_of l)) c.outcome-published.new.marks.items component)
          (sym w.deref-then-kept.ensures.value) e)
          (subst (λ l. is_some (settled_at (replay (events_of l)) component) ≡ true) (sym w.deref-then-kept.ensures.value) s)) in
          subst (λ v. IsMarkedAnew c.args.self.now.marks v.marks component) (sym w.self-is)
          (subst (λ v. IsMarkedAnew v.marks w.mark.new.marks.items component) c.self.view_is anew))
      | else-kept w ↦ not_both (c.is_kept-kept.ensures ∙ ap is_kept_outcome kept) w.if-kept.false
    ]
