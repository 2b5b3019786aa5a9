use Rattle.std.proofs.Common.{◌≡◌, length, Some, slice_get, refl, rules}
use Rattle.std.proofs.lemmas.Option.{slice_get_read}
use Rattle.heap_run.proofs.Scans.{number_found}
use Rattle.heap_run.proofs.frames.number_of.Goals as goal

pub returns-then-eq : goal.returns-then-eq
returns-then-eq c =
    let procs = c.args.procs.now in
    let is : slice_get procs c.loop-number.number
    ≡ Some c.index-procs-number.result =
    slice_get_read procs
    (length procs) c.loop-number.number c.index-procs-number.result refl c.loop-number-test.true c.index-procs-number.is in
    let is_name : c.index-procs-number.result.flow.name ≡ c.args.name.now = search rules in
    number_found procs c.args.name.now c.loop-number.number c.index-procs-number.result is is_name c.loop-number.invariant
