use Rattle.std.proofs.Common.{rules, ◌∙◌, ℤ, pos, Err, slice_index_or, sym}
use Rattle.std.proofs.lemmas.Int.{to_z-of_z}
use mir.Syntax.{w128}
use mir.Val.{SFits}
use Rattle.shape_data.specs.Heap.{with_field}
use Rattle.shape_data.specs.Machine.{go_to, operand_value}
use Rattle.heap_run.specs.Access.{IsAccess}
use Rattle.heap_run.proofs.commands.Machine.store.Goals as goal

pub returns-in-Err : goal.returns-in-Err
returns-in-Err c =
    let at : ℤ = slice_index_or c.args.self.frame.locals c.args.base (pos 0) in
    let fits : SFits w128 c.value_of-at.result = search rules in
    let access : IsAccess c.args.self.heap at c.args.kind.now (Err c.in-Err.fault) =
    rw (c.in-Err.is, to_z-of_z w128 c.value_of-at.result fits, c.value_of-at.ensures, c.deref.ensures, c.deref-3.ensures) at
    c.access.ensures in
    c.fault.ensures
    ∙ sym (access c.args.self.line
    (λ cell. go_to c.args.self.below c.args.self.frame
    (with_field c.args.self.heap at c.args.field (operand_value c.args.self.frame.locals c.args.from)) c.args.next))
