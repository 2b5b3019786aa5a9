use Rattle.std.proofs.Common.{◌∙◌}
use Rattle.std.proofs.lemmas.Int.{to_z-of_z}
use mir.Syntax.{w128}
use Rattle.heap_run.proofs.Addresses.{is_some-place}
use Rattle.heap_run.proofs.cells.is_live.Goals as goal

pub returns : goal.returns
returns c =
    let placed = rw (to_z-of_z w128 c.args.at c.ranges.at) at c.place_of.ensures in
    c.is_ok.ensures.value ∙ is_some-place c.args.heap.now c.args.at c.place_of.result c.requires placed
