use Rattle.std.proofs.Common.{vec_len}
use Rattle.claim_core.specs.Views.{IsSolution}
use Rattle.summary_book.proofs.Sweeping.{IsSweeping}
use Rattle.summary_book.proofs.book.Book.sweep.Given as goal

abbrev pub invariant-loop-self : goal.invariant-loop-self
invariant-loop-self g l =
    IsSweeping (IsSolution g.J.Meaning.solves) l.fn.self l.self-inside.log l.self-inside.parts l.self-inside.slots l.self-inside.marks
    l.self-inside.out l.self-inside.revision l.self-inside.made

abbrev pub decreases-loop-self : goal.decreases-loop-self
decreases-loop-self g l = vec_len l.self-inside.out
