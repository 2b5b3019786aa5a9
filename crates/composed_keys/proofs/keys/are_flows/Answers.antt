-- The procedures are compared one by one, and as many as there are places.
use Rattle.std.proofs.Common.{◌<◌, length, refl, arith}
use Rattle.composed_keys.proofs.Compared.{flows_length, flows_more, flows_same}
use Rattle.composed_keys.proofs.keys.are_flows.Goals as goal

pub returns-then-flows-members : goal.returns-then-flows-members
returns-then-flows-members c = (
  λ h. cc,
  λ e. absurd
      (c.if-flows-members.true
      (flows_length c.args.program.now c.args.members.now c.args.flows.now c.requires c.args.program.now.procs refl e)),
)

pub returns-then-not-is_same : goal.returns-then-not-is_same
returns-then-not-is_same c = (
  λ h. cc,
  λ e.
      let less : c.loop-place.place < length c.args.flows.now =
      (let t = c.loop-place-test.true in let f = c.if-flows-members.false in omega (arith, t, f)) in
      let t =
      c.is_same.ensures.1
      (flows_same c.args.program.now c.args.members.now c.args.flows.now c.requires c.deref.result.now c.deref.ensures c.loop-place.place
      c.index-flows-place.result c.index-deref-number.result
      c.loop-place-test.true less c.index-flows-place.is e) in
      let f = c.if-not-is_same.true in
      cc,
)

pub loop-place-preserved : goal.loop-place-preserved
loop-place-preserved c =
    let less : c.loop-place.place < length c.args.flows.now =
    (let t = c.loop-place-test.true in let f = c.if-flows-members.false in omega (arith, t, f)) in
    flows_more c.args.program.now c.args.members.now c.args.flows.now c.requires c.deref.result.now c.deref.ensures c.loop-place.place
    c.index-flows-place.result c.index-deref-number.result
    c.loop-place-test.true less c.loop-place.invariant c.index-flows-place.is (c.is_same.ensures.0 c.if-not-is_same.false)
