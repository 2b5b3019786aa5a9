use Rattle.std.proofs.Common.{◌≡◌, take, map}
use Rattle.shape_data.specs.declared.program.Proc.{Proc}
use Rattle.composed_keys.proofs.programs.names_in.Given as goal

abbrev pub invariant-loop-proc : goal.invariant-loop-proc
invariant-loop-proc l = l.names.items ≡ map (λ (proc : Proc). proc.flow.name) (take l.proc-index l.procs)
