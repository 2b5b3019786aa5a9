-- Both lists are those of the table.
use Rattle.std.proofs.Common.{◌≡◌, length}
use Rattle.shape_data.specs.declared.answer.Callee.{Callee}
use Rattle.execution_rows.proofs.Joined.{joined_else, joined_then}
use Rattle.execution_rows.proofs.conditions.both_accept.Goals as goal

pub returns-then-own : goal.returns-then-own
returns-then-own c =
    joined_then (λ (callee : Callee). callee.name ≡ c.args.name.now
    → length callee.params
    ≡ c.args.args) c.args.table.now.own c.args.table.now.outer c.as_slice.result.now c.as_slice-2.result.now c.as_slice.ensures
    c.as_slice-2.ensures
    c.accept-own.result c.accept-outer.result c.accept-own.ensures c.accept-outer.ensures c.if-own.true

pub returns-else-own : goal.returns-else-own
returns-else-own c =
    joined_else (λ (callee : Callee). callee.name ≡ c.args.name.now
    → length callee.params
    ≡ c.args.args) c.args.table.now.own c.args.table.now.outer c.as_slice.result.now c.as_slice-2.result.now c.as_slice.ensures
    c.as_slice-2.ensures
    c.accept-own.result c.accept-outer.result c.accept-own.ensures c.accept-outer.ensures c.if-own.false
