-- Callees are compared one by one.
use Rattle.std.proofs.Common.{◌<◌, ◌∙◌, length, ap, sym, Some, arith}
use Rattle.std.proofs.lemmas.Option.{slice_get-get_or}
use Rattle.summary_book.specs.Rows.{known_row}
use Rattle.summary_book.proofs.ProceduresByName.{at_both}
use Rattle.summary_book.proofs.known_callees.are_known.Goals as goal

pub returns-then-not-is_known : goal.returns-then-not-is_known
returns-then-not-is_known c = (
  λ h. cc,
  λ e.
      let less : c.loop-place.place < length c.args.callees.now =
      (let t = c.loop-place-test.true in let f = c.if-outer-callees.false in omega (arith, t, f)) in
      let t =
      c.is_known.ensures.1
      (at_both (known_row c.args.program.now c.args.log.now c.args.slots.now) c.args.outer.now c.args.callees.now c.loop-place.place _
      c.index-callees-place.result e
      (slice_get-get_or c.args.outer.now c.loop-place.place _ c.loop-place-test.true)
      (slice_get-get_or c.args.callees.now c.loop-place.place c.index-callees-place.result less
      ∙ ap (λ x. Some x) (sym c.index-callees-place.is))) in
      let f = c.if-not-is_known.true in
      cc,
)
