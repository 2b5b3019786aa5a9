-- How a run goes on where it has not ended.
use Rattle.std.specs.Prelude.{ℕ, List}
use Rattle.shape_data.specs.declared.machine.Choice.{Choice}
use Rattle.shape_data.specs.declared.machine.Outcome.{Outcome}
use Rattle.shape_data.specs.declared.machine.Outcome.TheVariants as outcome
use Rattle.shape_data.specs.declared.program.Program.{Program}
use Rattle.shape_data.specs.Machine.{run_from}

-- an outcome, and where it is still running the run of further choices, the first of which has a number
abbrev pub continued : Program → ℕ → List Choice → Outcome → Outcome
continued program index choices (outcome.Running config) = run_from program config choices index
continued program index choices (outcome.Returned value heap) = outcome.Returned value heap
continued program index choices (outcome.Fault line cause) = outcome.Fault line cause
continued program index choices (outcome.BadChoice at) = outcome.BadChoice at
