-- Names are compared one by one, and there are as many.
use Rattle.std.proofs.Common.{◌<◌, length, refl, arith}
use Rattle.summary_book.proofs.ProceduresByName.{names_length, names_more, names_same_at}
use Rattle.summary_book.proofs.meeting.have_names.Goals as goal

pub returns-then-members-procs : goal.returns-then-members-procs
returns-then-members-procs c = (
  λ h. cc,
  λ e. absurd
      (c.if-members-procs.true
      (names_length c.args.program.now c.args.members.now c.requires c.args.program.now.procs refl c.args.procs.now e)),
)

pub returns-then-not-is_same : goal.returns-then-not-is_same
returns-then-not-is_same c = (
  λ h. cc,
  λ e.
      let less : c.loop-place.place < length c.args.procs.now =
      (let t = c.loop-place-test.true in let f = c.if-members-procs.false in omega (arith, t, f)) in
      let t =
      c.is_same.ensures.1
      (names_same_at c.args.program.now c.args.members.now c.requires c.deref.result.now c.deref.ensures c.args.procs.now c.loop-place.place
      c.index-deref-number.result c.index-procs-place.result
      c.loop-place-test.true less e) in
      let f = c.if-not-is_same.true in
      cc,
)

pub loop-place-preserved : goal.loop-place-preserved
loop-place-preserved c =
    let less : c.loop-place.place < length c.args.procs.now =
    (let t = c.loop-place-test.true in let f = c.if-members-procs.false in omega (arith, t, f)) in
    names_more c.args.program.now c.args.members.now c.requires c.deref.result.now c.deref.ensures c.args.procs.now c.loop-place.place
    c.index-deref-number.result c.index-procs-place.result
    c.loop-place-test.true less (c.is_same.ensures.0 c.if-not-is_same.false) c.loop-place.invariant
