-- The loop keeps what `Walk` says of marks and of what is to do.
use Rattle.std.proofs.Common.{rules, sym, subst, All, ◌<◌, length}
use Rattle.call_components.proofs.Walk.{first_marks, popped_below, row_below, more_marks, none_left, reaching_all}
use Rattle.call_components.specs.Reaching.{AreMarked, rows}
use Rattle.call_components.proofs.reach.reach.Goals as goal

pub loop-number-init : goal.loop-number-init
loop-number-init c =
    first_marks c.args.calls.now c.args.starts.now c.in_ok-marks.marks.items c.mark_row.new.marks.items c.new-todo.result.items
    c.mark_row.new.todo.items c.requires.starts
    (c.in_ok-marks.ensures.items_if_clones_equal (λ y e. e)) c.new-todo.ensures.items c.in_ok-mark_row.ensures

pub bounds-calls-number : goal.bounds-calls-number
bounds-calls-number c =
    popped_below c.args.calls.now c.args.starts.now c.loop-number.marks.items c.loop-number.todo.items c.pop.new.self.items c.in-Some.number
    c.loop-number.invariant c.in-Some.ensures.items

pub mark_row-requires-in-Some : goal.mark_row-requires-in-Some
mark_row-requires-in-Some c =
    subst (All (λ k. k < length c.loop-number.marks.items)) (sym c.deref.ensures.value)
    (row_below c.args.calls.now c.args.starts.now c.loop-number.marks.items c.loop-number.todo.items c.in-Some.number
    c.index-calls-number.result c.requires.defined c.loop-number.invariant
    (popped_below c.args.calls.now c.args.starts.now c.loop-number.marks.items c.loop-number.todo.items c.pop.new.self.items
    c.in-Some.number c.loop-number.invariant c.in-Some.ensures.items)
    c.index-calls-number.is)

pub loop-number-preserved : goal.loop-number-preserved
loop-number-preserved c =
    more_marks c.args.calls.now c.args.starts.now c.in-Some.number c.loop-number.marks.items c.mark_row-in-Some.new.marks.items
    c.loop-number.todo.items c.pop.new.self.items c.mark_row-in-Some.new.todo.items
    c.index-calls-number.result c.requires.defined c.loop-number.invariant c.in-Some.ensures.items c.index-calls-number.is
    (subst (λ r. AreMarked r c.loop-number.marks.items c.pop.new.self.items c.mark_row-in-Some.new.marks.items
    c.mark_row-in-Some.new.todo.items) c.deref.ensures.value c.in_ok-mark_row-2.ensures)

pub returns : goal.returns
returns c =
    reaching_all
    (rows c.args.calls.now) c.args.starts.now c.loop-number.marks.items c.loop-number.todo.items c.requires.defined c.loop-number.invariant
    (none_left c.pop.result c.loop-number.todo.items (λ lt. c.pop.ensures.variant.1 (search (rules, lt))) c.in_default.is)
