use Rattle.std.proofs.Common.{◌∙◌}
use Rattle.std.proofs.lemmas.Int.{to_z-of_z}
use mir.Syntax.{w128}
use Rattle.heap_run.proofs.Addresses.{is_some-place, without-found, without-gap}
use Rattle.std.proofs.Common.{Ok, Err, sym}
use Rattle.heap_run.proofs.cells.take_cell.Goals as goal

pub returns-in-Ok-clause-taken : goal.returns-in-Ok-clause-taken
returns-in-Ok-clause-taken c =
    let placed = rw (c.in-Ok.is, to_z-of_z w128 c.args.at c.ranges.at, c.deref.ensures) at c.place_of.ensures in
    is_some-place c.args.heap.now c.args.at (Ok c.in-Ok.place) c.requires placed

pub returns-in-Ok-clause-rest : goal.returns-in-Ok-clause-rest
returns-in-Ok-clause-rest c =
    let placed = rw (c.in-Ok.is, to_z-of_z w128 c.args.at c.ranges.at, c.deref.ensures) at c.place_of.ensures in
    c.remove.ensures.rest ∙ without-found c.args.heap.now c.args.at c.in-Ok.place c.requires placed

pub returns-in-Err-clause-taken : goal.returns-in-Err-clause-taken
returns-in-Err-clause-taken c =
    let placed = rw (c.in-Err.is, to_z-of_z w128 c.args.at c.ranges.at, c.deref.ensures) at c.place_of.ensures in
    is_some-place c.args.heap.now c.args.at (Err c.in-Err.field-0) c.requires placed

pub returns-in-Err-clause-rest : goal.returns-in-Err-clause-rest
returns-in-Err-clause-rest c =
    let placed = rw (c.in-Err.is, to_z-of_z w128 c.args.at c.ranges.at, c.deref.ensures) at c.place_of.ensures in
    sym (without-gap c.args.heap.now c.args.at c.in-Err.field-0 placed)
