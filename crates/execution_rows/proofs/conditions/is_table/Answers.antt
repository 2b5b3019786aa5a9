-- Both lists are those of the table.
use Rattle.shape_data.specs.WellFormed.{IsCallee, widest}
use Rattle.execution_rows.proofs.Joined.{joined_else, joined_then}
use Rattle.execution_rows.proofs.conditions.is_table.Goals as goal

pub returns-then-own : goal.returns-then-own
returns-then-own c =
    joined_then (IsCallee widest c.args.structs.now) c.args.table.now.own c.args.table.now.outer c.as_slice.result.now
    c.as_slice-2.result.now c.as_slice.ensures c.as_slice-2.ensures
    c.are_callees-own.result c.are_callees-outer.result c.are_callees-own.ensures c.are_callees-outer.ensures c.if-own.true

pub returns-else-own : goal.returns-else-own
returns-else-own c =
    joined_else (IsCallee widest c.args.structs.now) c.args.table.now.own c.args.table.now.outer c.as_slice.result.now
    c.as_slice-2.result.now c.as_slice.ensures c.as_slice-2.ensures
    c.are_callees-own.result c.are_callees-outer.result c.are_callees-own.ensures c.are_callees-outer.ensures c.if-own.false
