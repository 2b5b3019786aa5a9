-- The first row whose claim holds the due key is that of the first such claim.
use Rattle.std.proofs.Common.{◌∙◌, sym, arith}
use Rattle.std.proofs.lemmas.Option.{slice_get-get_or}
use Rattle.component_keys.specs.Tests.{key_test}
use Rattle.claim_core.specs.Told.{events_of}
use Rattle.claim_laws.specs.Logs.{replay}
use Rattle.claim_laws.specs.World.{Out}
use Rattle.summary_book.proofs.OutstandingRows.{first_found, none_found, none_more}
use Rattle.summary_book.proofs.turns.holder.Goals as goal

pub returns-then-holds_due : goal.returns-then-holds_due
returns-then-holds_due c = λ key due.
    first_found c.args.log.now c.args.parts.now.program.value c.args.out.now (replay (events_of c.args.log.now)).out c.requires.out
    (λ (claim : Out). key_test.0 claim.key key) c.loop-row.row-index _
    (slice_get-get_or c.args.out.now c.loop-row.row-index _ c.loop-row-test.true)
    (λ k claim lt at. c.loop-row.invariant key k claim due lt at)
    (λ claim is. sym (c.holds_due.ensures key claim due is) ∙ c.if-holds_due.true)

pub loop-row-preserved : goal.loop-row-preserved
loop-row-preserved c = λ key k claim due lt at.
    none_more c.args.log.now c.args.parts.now.program.value c.args.out.now (replay (events_of c.args.log.now)).out c.requires.out
    (λ (one : Out). key_test.0 one.key key) c.loop-row.row-index _
    (slice_get-get_or c.args.out.now c.loop-row.row-index _ c.loop-row-test.true)
    (λ j one less there. c.loop-row.invariant key j one due less there)
    (λ one is. sym (c.holds_due.ensures key one due is) ∙ c.if-holds_due.false) k claim lt at

pub returns : goal.returns
returns c = λ key due.
    none_found c.args.log.now c.args.parts.now.program.value c.args.out.now (replay (events_of c.args.log.now)).out c.requires.out
    (λ (claim : Out). key_test.0 claim.key key)
    (λ k claim lt at. c.loop-row.invariant key k claim due (let past = c.loop-row-test.false in omega (arith, past, lt)) at)
