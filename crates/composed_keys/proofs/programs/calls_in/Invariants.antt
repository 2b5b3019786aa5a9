use Rattle.std.proofs.Common.{◌≡◌, take, map}
use Rattle.std.specs.List.{filter_map}
use Rattle.shape_data.specs.declared.program.Proc.{Proc}
use Rattle.call_components.specs.Reaching.{rows}
use Rattle.composed_keys.specs.Programs.{called_in}
use Rattle.composed_keys.proofs.programs.calls_in.Given as goal

abbrev pub invariant-loop-proc : goal.invariant-loop-proc
invariant-loop-proc l = rows l.calls.items
    ≡ map (λ (proc : Proc). filter_map (called_in l.names) proc.flow.nodes) (take l.proc-index l.procs)
