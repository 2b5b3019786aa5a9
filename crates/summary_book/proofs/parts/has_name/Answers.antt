-- One after the other is looked at.
use Rattle.std.proofs.Common.{true, sym}
use Rattle.summary_book.proofs.Events.{not_both}
use Rattle.summary_book.proofs.ProceduresByName.{named_more, named_there}
use Rattle.summary_book.proofs.parts.has_name.Goals as goal

pub returns-then-is_same : goal.returns-then-is_same
returns-then-is_same c =
    let same = c.is_same.ensures.0 c.if-is_same.true in
    sym (named_there c.args.program.now c.args.members.now c.requires c.deref.result.now c.deref.ensures c.args.name.now
    c.loop-number.number-index c.index-deref-number.result c.loop-number-test.true same)

pub loop-number-preserved : goal.loop-number-preserved
loop-number-preserved c =
    named_more c.args.program.now c.args.members.now c.requires c.deref.result.now c.deref.ensures c.args.name.now
    c.loop-number.number-index c.index-deref-number.result c.loop-number-test.true c.loop-number.invariant
    (λ e. let t = c.is_same.ensures.1 e in not_both t c.if-is_same.false)
