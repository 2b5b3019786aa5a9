use Rattle.std.proofs.Common.{◌≡◌, sym, rules, Ok, true, false, is_some}
use Rattle.std.proofs.lemmas.Int.{to_z-of_z}
use Rattle.std.proofs.lemmas.Result.{IfOk-equal}
use mir.Syntax.{w128}
use mir.Val.{SFits}
use Rattle.shape_data.specs.Heap.{cell_at}
use Rattle.heap_run.proofs.Addresses.{is_some-place, put-gap}
use Rattle.heap_run.proofs.cells.put_cell.Goals as goal

pub unreachable-requires : goal.unreachable-requires
unreachable-requires c =
    let fits : SFits w128 c.args.cell.at = search rules in
    let placed = rw (c.in-Ok.is, to_z-of_z w128 c.args.cell.at fits, c.deref.ensures) at c.place_of.ensures in
    let live : true ≡ is_some (cell_at c.args.heap.now c.args.cell.at) =
    is_some-place c.args.heap.now c.args.cell.at (Ok c.in-Ok.field-0) c.requires.rising placed in
    let wrong : true ≡ false = rw c.requires.unowned at live in
    cc

pub returns-clause-ok : goal.returns-clause-ok
returns-clause-ok c =
    let fits : SFits w128 c.args.cell.at = search rules in
    let placed = rw (c.in-Err.is, to_z-of_z w128 c.args.cell.at fits, c.deref.ensures) at c.place_of.ensures in
    IfOk-equal c.insert.result c.insert.new.self _ _ c.insert.ensures.ok (sym (put-gap c.args.heap.now c.args.cell c.in-Err.place placed))
