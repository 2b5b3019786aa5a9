-- Legal for the job's meaning, and storable.
use Rattle.std.proofs.Common.{subst}
use Rattle.claim_core.specs.Views.{IsSolution}
use Rattle.claim_laws.specs.Logs.{IsLegal, replay}
use Rattle.key_laws.specs.Storing.{IsStorableWorld}
use Rattle.summary_book.proofs.Booked.{book_legal, book_storable}
use Rattle.summary_book.proofs.book.Book.log.Goals as goal

pub returns-clause-legal : goal.returns-clause-legal
returns-clause-legal g c =
    let inside = c.self.inside in
    subst (λ v. IsLegal g.J.Meaning.solves v.log) c.self.view_is
    (book_legal (IsSolution g.J.Meaning.solves) inside.log inside.parts inside.slots inside.marks inside.out inside.revision inside.made
    c.self.invariant g.J.Meaning.solves (λ key answer is. is.right))

pub returns-clause-storable : goal.returns-clause-storable
returns-clause-storable g c =
    let inside = c.self.inside in
    subst (λ v. IsStorableWorld (replay v.log)) c.self.view_is
    (book_storable
    (IsSolution g.J.Meaning.solves) inside.log inside.parts inside.slots inside.marks inside.out inside.revision inside.made
    c.self.invariant (λ key answer is. is.storable_answer))
