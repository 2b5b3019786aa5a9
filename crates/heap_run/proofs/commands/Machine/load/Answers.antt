use Rattle.std.proofs.Common.{rules, ◌≡◌, ◌∙◌, sym, IfOk, ℤ, pos, Ok, Err, get_or, slice_index_or}
use Rattle.std.proofs.lemmas.Int.{to_z-of_z}
use Rattle.std.proofs.lemmas.Result.{IfOk-weaker}
use mir.Syntax.{w128}
use mir.Val.{SFits}
use Rattle.shape_data.specs.declared.machine.Cell.{Cell}
use Rattle.shape_data.specs.declared.machine.Stepped.{Stepped}
use Rattle.shape_data.specs.Machine.{at_cell, go_with}
use Rattle.heap_run.specs.Access.{IsAccess}
use Rattle.heap_run.proofs.Accesses.{at_cell-found}
use Rattle.heap_run.proofs.commands.Machine.load.Goals as goal

pub returns-in-Ok : goal.returns-in-Ok
returns-in-Ok c =
    let self = c.args.self in
    let at : ℤ = slice_index_or self.frame.locals c.args.base (pos 0) in
    let use_cell : Cell → Stepped =
    λ cell. go_with self.below self.frame self.heap c.args.to (slice_index_or cell.fields c.args.field (pos 0)) c.args.next in
    let fits : SFits w128 c.value_of-at.result = search rules in
    let access : IsAccess self.heap at c.args.kind.now (Ok c.in-Ok.place) =
    rw (c.in-Ok.is, to_z-of_z w128 c.value_of-at.result fits, c.value_of-at.ensures, c.deref.ensures, c.deref-2.ensures) at
    c.access.ensures in
    let read : c.index-deref-place.result ≡ get_or self.heap c.in-Ok.place c.index-deref-place.result =
    rw c.deref-in-Ok.ensures at c.index-deref-place.is in
    let used = at_cell-found self.heap at c.args.kind.now self.line c.in-Ok.place c.index-deref-place.result use_cell access read in
    let told : IfOk c.go_with.result (λ (stepped : Stepped). stepped ≡ use_cell c.index-deref-place.result) = search rules in
    IfOk-weaker c.go_with.result (λ (stepped : Stepped). stepped ≡ use_cell c.index-deref-place.result)
    (λ (stepped : Stepped). stepped ≡ at_cell self.heap at c.args.kind.now self.line use_cell)
    (λ stepped is. is ∙ sym used) told

pub returns-in-Err : goal.returns-in-Err
returns-in-Err c =
    let self = c.args.self in
    let at : ℤ = slice_index_or self.frame.locals c.args.base (pos 0) in
    let fits : SFits w128 c.value_of-at.result = search rules in
    let access : IsAccess self.heap at c.args.kind.now (Err c.in-Err.fault) =
    rw (c.in-Err.is, to_z-of_z w128 c.value_of-at.result fits, c.value_of-at.ensures, c.deref.ensures, c.deref-2.ensures) at
    c.access.ensures in
    c.fault.ensures
    ∙ sym (access self.line
    (λ cell. go_with self.below self.frame self.heap c.args.to (slice_index_or cell.fields c.args.field (pos 0)) c.args.next))
