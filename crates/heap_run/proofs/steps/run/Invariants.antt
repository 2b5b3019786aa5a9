use Rattle.std.proofs.Common.{◌≡◌, drop}
use Rattle.shape_data.specs.Machine.{run, run_from}
use Rattle.shape_data.specs.WellFormed.{IsConfig}
use Rattle.heap_run.proofs.steps.run.Given as goal

-- what is left of the run gives the answer, from a well-formed configuration
abbrev pub invariant-loop-index : goal.invariant-loop-index
invariant-loop-index l = (run l.program l.fn.config l.choices ≡ run_from l.program l.config (drop l.index l.choices) l.index)
    × IsConfig l.program l.config
