-- There are fewer marks than components, and each is of a settled one.
use Rattle.std.proofs.Common.{◌≡◌, ◌≤◌, ◌∙◌, ℕ, length, ap, subst, sym, arith, is_some, true}
use Rattle.std.specs.List.{count_by, range_with_len}
use Rattle.call_components.specs.Reaching.{marked}
use Rattle.claim_core.specs.Views.{IsSolution}
use Rattle.claim_core.specs.Told.{events_of}
use Rattle.claim_laws.specs.Logs.{replay, settled_at}
use Rattle.claim_laws.specs.World.{standings}
use Rattle.summary_book.specs.Book.{count_marked}
use Rattle.summary_book.proofs.Booked.{marks_few, marks_small}
use Rattle.summary_book.proofs.book.Book.marked.Goals as goal

pub overflow_cast-result : goal.overflow_cast-result
overflow_cast-result g c =
    let inside = c.self.inside in
    let small =
    marks_small (IsSolution g.J.Meaning.solves) inside.log inside.parts inside.slots inside.marks inside.out inside.revision inside.made
    c.self.invariant in
    let is : c.count_set.result ≡ count_marked inside.marks.items = c.count_set.ensures ∙ ap count_marked c.deref.ensures.value in
    omega (arith, small, is)

pub returns-clause-each : goal.returns-clause-each
returns-clause-each g c =
    subst (λ v. (component : ℕ) → marked v.marks component ≡ true
    → is_some (settled_at (replay v.log) component) ≡ true) c.self.view_is c.self.invariant.rows_are.marks_are.settled

pub returns-clause-settled : goal.returns-clause-settled
returns-clause-settled g c =
    let inside = c.self.inside in
    let few =
    marks_few (IsSolution g.J.Meaning.solves) inside.log inside.parts inside.slots inside.marks inside.out inside.revision inside.made
    c.self.invariant in
    let is : c.count_set.result ≡ count_marked inside.marks.items = c.count_set.ensures ∙ ap count_marked c.deref.ensures.value in
    subst (λ v. c.count_set.result
    ≤ count_by (λ component. is_some (settled_at (replay v.log) component))
    (range_with_len 0 (length (standings (replay v.log))))) c.self.view_is
    (subst (λ n. n
    ≤ count_by (λ component. is_some (settled_at (replay (events_of inside.log.items)) component))
    (range_with_len 0 (length (standings (replay (events_of inside.log.items)))))) (sym is) few)
