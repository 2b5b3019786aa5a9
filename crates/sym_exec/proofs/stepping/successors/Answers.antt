-- Each case goes on, leaves, or is dropped.
use Rattle.std.proofs.Common.{ap}
use Rattle.exec_laws.specs.Execution.{exit_of, next_of, post_of}
use Rattle.sym_exec.proofs.Collected.{kept_more, passed_more}
use Rattle.sym_exec.proofs.stepping.successors.Goals as goal

pub loop-case-preserved-in-On : goal.loop-case-preserved-in-On
loop-case-preserved-in-On c = (
  kept_more next_of c.loop-case.yielded c.in-Some.case
      (c.in-On.node, c.in-On.pair.state) c.loop-case.next c.push.new.self c.loop-case.invariant.0
      (ap next_of c.in-On.is) c.in_ok-push-in-On.ensures.ok,
  passed_more exit_of c.loop-case.yielded c.in-Some.case c.loop-case.exits c.loop-case.invariant.1 (ap exit_of c.in-On.is),
)

pub loop-case-preserved-in-Leaves : goal.loop-case-preserved-in-Leaves
loop-case-preserved-in-Leaves c = (
  passed_more next_of c.loop-case.yielded c.in-Some.case c.loop-case.next c.loop-case.invariant.0 (ap next_of c.in-Leaves.is),
  kept_more exit_of c.loop-case.yielded c.in-Some.case
      (post_of c.in-Leaves.pair.state) c.loop-case.exits c.push-in-Leaves.new.self c.loop-case.invariant.1 (ap exit_of c.in-Leaves.is)
      (rw c.post_of.ensures at c.in_ok-push-in-Leaves.ensures.ok),
)

pub loop-case-preserved : goal.loop-case-preserved
loop-case-preserved c = (
  passed_more next_of c.loop-case.yielded c.in-Some.case c.loop-case.next c.loop-case.invariant.0 (ap next_of c.in-Drops.is),
  passed_more exit_of c.loop-case.yielded c.in-Some.case c.loop-case.exits c.loop-case.invariant.1 (ap exit_of c.in-Drops.is),
)
