-- The book of the empty program.
use Rattle.std.proofs.Common.{◌≡◌, ◌∙◌}
use Rattle.claim_core.specs.Views.{IsSolution}
use Rattle.summary_book.proofs.Booked.{first_book}
use Rattle.summary_book.proofs.Opening.{empty_program}
use Rattle.summary_book.proofs.book.Book.new.Goals as goal

pub invariant_of-result : goal.invariant_of-result
invariant_of-result g c =
    let empty : c.in_ok-parts.parts.program.value ≡ empty_program =
    c.in_ok-parts.ensures.program ∙ c.in_ok-program.ensures.ok ∙ (λ i. record { structs = c.new.ensures i; procs = c.new-2.ensures i }) in
    first_book (IsSolution g.J.Meaning.solves) c.new-4.result c.in_ok-parts.parts c.new-5.result c.new-6.result c.new-7.result
    c.new-4.ensures.items c.new-5.ensures.items c.new-6.ensures.items c.new-7.ensures.items c.new-4.ensures.len
    c.new-7.ensures.len empty c.in_ok-parts.ensures.parts
