use Rattle.std.proofs.Common.{◌≡◌, drop}
use Rattle.shape_data.specs.Machine.{proc_named_from}
use Rattle.heap_run.proofs.frames.number_of.Given as goal

-- the procedure is among those that are left
abbrev pub invariant-loop-number : goal.invariant-loop-number
invariant-loop-number l = proc_named_from 0 l.procs l.name ≡ proc_named_from l.number (drop l.number l.procs) l.name
