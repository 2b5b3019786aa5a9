-- What is collected is right for its keys.
use Rattle.std.proofs.Common.{sym, subst}
use Rattle.std.proofs.lemmas.Result.{IfOk-weaker}
use Rattle.call_components.specs.Reaching.{marked}
use Rattle.claim_core.specs.Told.{events_of}
use Rattle.claim_core.specs.Views.{IsSolution}
use Rattle.claim_laws.specs.Logs.{IsLegal}
use Rattle.summary_book.proofs.Solutions.{collected_solved}
use Rattle.summary_book.proofs.book.Book.collect.Goals as goal

pub returns-clause-solutions : goal.returns-clause-solutions
returns-clause-solutions g c =
    let legal = subst (λ l. IsLegal (IsSolution g.J.Meaning.solves) (events_of l)) (sym c.deref.ensures.value) c.self.invariant.legal in
    IfOk-weaker c.collected.result _ _
    (λ kept is. collected_solved (IsSolution g.J.Meaning.solves) (events_of c.deref.result.now) legal
    (marked c.deref-3.result.now) kept.items is) c.collected.ensures
