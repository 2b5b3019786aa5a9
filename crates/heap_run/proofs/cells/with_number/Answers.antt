use Rattle.std.proofs.Common.{◌≡◌, refl, slice_set}
use Rattle.std.proofs.lemmas.Int.{to_z-of_z}
use mir.Syntax.{w128}
use Rattle.heap_run.proofs.Addresses.{with_field-found}
use Rattle.heap_run.proofs.cells.with_number.Goals as goal

pub returns : goal.returns
returns c =
    let cell = c.index_mut.result.now in
    let written : c.from_vec.result
    ≡ slice_set c.args.heap c.args.place (record cell { fields = slice_set cell.fields c.args.field c.args.value }) =
    rw (c.from_vec.ensures, c.set.ensures, to_z-of_z w128 c.args.value c.ranges.value, c.into_vec-cells.ensures) refl in
    with_field-found c.args.heap c.from_vec.result c.args.place cell c.args.field c.args.value c.requires.rising
    (rw c.into_vec-cells.ensures at c.index_mut.ensures.value) written
