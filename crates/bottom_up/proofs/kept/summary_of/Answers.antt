-- In this answer, or in one behind it.
use Rattle.std.proofs.Common.{◌∙◌, Some, ap, find, bytes_eq, sym}
use Rattle.std.specs.Option.{option_copied}
use Rattle.shape_data.specs.declared.answer.Answer.{Answer}
use Rattle.bottom_up.proofs.Among.{found_here, found_later}
use Rattle.bottom_up.proofs.kept.summary_of.Goals as goal

pub returns-in-Some : goal.returns-in-Some
returns-in-Some c =
    sym (sym c.loop-one.invariant ∙
    found_here c.args.kept.now c.loop-one.one-index c.one-item.result c.args.name.now c.loop-one-test.true c.one-item.is
    (option_copied c.summary_named.result)
    (c.summary_named.ensures
    ∙ ap (λ (answer : Answer). find (λ summary. bytes_eq summary.name c.args.name.now) answer.procs) c.deref.ensures)
    c.in_ok-copy_of.field-0 (ap option_copied c.in-Some.is ∙ ap (λ s. Some s) (sym c.in_ok-copy_of.ensures)))

pub loop-one-preserved : goal.loop-one-preserved
loop-one-preserved c =
    found_later c.args.kept.now c.loop-one.one-index c.one-item.result c.args.name.now c.loop-one-test.true c.one-item.is
    (option_copied c.summary_named.result)
    (c.summary_named.ensures
    ∙ ap (λ (answer : Answer). find (λ summary. bytes_eq summary.name c.args.name.now) answer.procs) c.deref.ensures)
    (ap option_copied c.in_default.is) ∙ c.loop-one.invariant
