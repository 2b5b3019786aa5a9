use Rattle.std.proofs.Common.{[], true, rules, arith}
use Rattle.sym_text.specs.Outcome.{IsStop}
use Rattle.sym_text.specs.Reading.{read_parts}
use Rattle.sym_text.proofs.Turns.{empty_facts, turn_stops_in, turn_last_in, turn_more_in, no_turn_in}
use Rattle.sym_text.proofs.heaps.read_parts.Goals as goal

pub returns-in_err-part-clause-err : goal.returns-in_err-part-clause-err
returns-in_err-part-clause-err c =
    let stop : IsStop c.in_err-part.field-0.0
    (read_parts c.args.with_ret c.args.structs.now c.args.params.now 4000 true (record { pure = []; spatial = [] }) c.args.text.now) =
    turn_stops_in c.args.with_ret c.args.structs.now c.args.params.now c.loop-left.left c.loop-left.is_first _ c.loop-left.heap
    c.loop-left.rest.now _ c.in_err-part.field-0.0
    (empty_facts c.loop-left.heap.spatial _ c.is_empty.ensures) c.loop-left-test.true c.loop-left.invariant c.in_err-part.ensures.err in
    search rules

pub returns-then-not-more-clause-ok : goal.returns-then-not-more-clause-ok
returns-then-not-more-clause-ok c =
    turn_last_in c.args.with_ret c.args.structs.now c.args.params.now c.loop-left.left c.loop-left.is_first _ c.loop-left.heap
    c.push_part.new.heap c.loop-left.rest.now _ c.in_ok-part.part c.in_ok-part.more c.in_ok-part.behind.now
    (empty_facts c.loop-left.heap.spatial _ c.is_empty.ensures) c.loop-left-test.true c.loop-left.invariant c.in_ok-push_part.ensures
    c.if-not-more.true c.in_ok-part.ensures.ok

pub loop-left-preserved : goal.loop-left-preserved
loop-left-preserved c =
    turn_more_in c.args.with_ret c.args.structs.now c.args.params.now c.loop-left.left c.loop-left.is_first _ c.loop-left.heap
    c.push_part.new.heap c.loop-left.rest.now _ c.in_ok-part.part c.in_ok-part.more c.in_ok-part.behind.now
    (empty_facts c.loop-left.heap.spatial _ c.is_empty.ensures) c.loop-left-test.true c.loop-left.invariant c.in_ok-push_part.ensures
    c.if-not-more.false c.in_ok-part.ensures.ok

pub returns-clause-err : goal.returns-clause-err
returns-clause-err c =
    no_turn_in c.args.with_ret c.args.structs.now c.args.params.now c.loop-left.left c.loop-left.is_first c.loop-left.heap
    c.loop-left.rest.now _ c.loop-left-test.false c.loop-left.invariant
