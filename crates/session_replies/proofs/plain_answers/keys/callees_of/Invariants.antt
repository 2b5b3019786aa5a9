use Rattle.std.proofs.Common.{◌≡◌, map, take, filter_map}
use Rattle.component_keys.specs.Keys.{flows_of}
use Rattle.composed_keys.specs.Rows.{outer_value}
use Rattle.session_replies.specs.PlainAnswers.Table.{answer_at, callee_over}
use Rattle.session_replies.proofs.plain_answers.keys.callees_of.Given as goal

abbrev pub invariant-loop-outer : goal.invariant-loop-outer
invariant-loop-outer l = l.callees
    ≡ map (callee_over (answer_at l.table)) (filter_map (outer_value (flows_of l.program)) (take l.outer-index l.outers))
