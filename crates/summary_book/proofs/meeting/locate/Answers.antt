-- The component's number fits.
use Rattle.std.proofs.Common.{arith}
use Rattle.summary_book.proofs.Components.{components_small}
use Rattle.summary_book.proofs.meeting.locate.Goals as goal

pub overflow_cast-result : goal.overflow_cast-result
overflow_cast-result c =
    let small = components_small c.args.parts.now c.requires.parts in
    let lt = c.in-Some.ensures.within in
    omega (arith, small, lt)
