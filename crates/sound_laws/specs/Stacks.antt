-- A call on top of frames that wait: the frames of the callee stand on them, and do what they do alone.
use Rattle.std.specs.Prelude.{◌≡◌, ℕ, List, [], ◌∷◌, ◌++◌}
use Rattle.std.specs.declared.option.Option.{Option}
use Rattle.shape_data.specs.declared.machine.Choice.{Choice}
use Rattle.shape_data.specs.declared.machine.Config.{Config}
use Rattle.shape_data.specs.declared.machine.Frame.{Frame}
use Rattle.shape_data.specs.declared.machine.Outcome.{Outcome}
use Rattle.shape_data.specs.declared.machine.Outcome.TheVariants as outcome
use Rattle.shape_data.specs.declared.machine.Stepped.{Stepped}
use Rattle.shape_data.specs.declared.machine.Stepped.TheVariants as stepped
use Rattle.shape_data.specs.declared.program.Program.{Program}
use Rattle.shape_data.specs.Machine.{received, run_from, step}

-- the frames of a call on top of the frames that wait, the last of which is the caller: the first frame of the call returns into
-- a slot of the caller. (Where the call has no frame it is no stack either, so that the laws hold of it too.)
abbrev pub over_caller : List Frame → Frame → Option ℕ → List Frame → List Frame
over_caller below caller to [] = []
over_caller below caller to (first ∷ others) = below ++ caller ∷ record first { to = to } ∷ others

-- the configuration of a call on top of the frames that wait
abbrev pub config_over : List Frame → Frame → Option ℕ → Config → Config
config_over below caller to config = record { stack = over_caller below caller to config.stack; heap = config.heap }

-- a step of the call alone, on top of the frames that wait: where the call returns, the caller goes on
abbrev pub step_over : List Frame → Frame → Option ℕ → Stepped → Stepped
step_over below caller to (stepped.On config) = stepped.On (config_over below caller to config)
step_over below caller to (stepped.Returned value heap) =
    stepped.On (record { stack = below ++ received to value caller ∷ []; heap = heap })
step_over below caller to (stepped.Fault line cause) = stepped.Fault line cause
step_over below caller to stepped.BadChoice = stepped.BadChoice

-- the second outcome is the first one, that of the call alone, on top of the frames that wait; and where the call returned after
-- some of the choices, it is that of the caller, which goes on with those that are left
abbrev pub CarriesOver : Program → List Frame → Frame → Option ℕ → List Choice → Outcome → Outcome → Type 0
CarriesOver program below caller to choices (outcome.Running config) large = large ≡ outcome.Running (config_over below caller to config)
CarriesOver program below caller to choices (outcome.Returned value heap) large =
    (taken : List Choice) × (left : List Choice) × (index : ℕ) × (choices ≡ taken ++ left) ×
    (large ≡ run_from program (record { stack = below ++ received to value caller ∷ []; heap = heap }) left index)
CarriesOver program below caller to choices (outcome.Fault line cause) large = large ≡ outcome.Fault line cause
CarriesOver program below caller to choices (outcome.BadChoice at) large = (index : ℕ) × (large ≡ outcome.BadChoice index)

-- LAWS

-- a step of a call on top of frames that wait is the step of the call alone
abbrev pub StepOverCaller : Type 0
StepOverCaller =
    (program : Program) (below : List Frame) (caller : Frame) (to : Option ℕ) (config : Config) (choice : Choice) →
    step program (config_over below caller to config) choice ≡ step_over below caller to (step program config choice)

-- a run of a call on top of frames that wait is the run of the call alone, and then that of the caller. (The first choices may
-- have any two numbers.)
abbrev pub RunOverCaller : Type 0
RunOverCaller =
    (program : Program) (below : List Frame) (caller : Frame) (to : Option ℕ) (config : Config) (choices : List Choice)
    (alone together : ℕ) →
    CarriesOver program below caller to choices (run_from program config choices alone)
    (run_from program (config_over below caller to config) choices together)
