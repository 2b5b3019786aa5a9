use Rattle.std.proofs.Common.{◌≡◌, ◌++◌, List, [], drop, map}
use Rattle.shape_data.specs.declared.program.Flow.{Flow}
use Rattle.shape_data.specs.declared.symbolic.Spec.{Spec}
use Rattle.comp_solve.proofs.rounds.no_specs.Given as goal

-- no specs for a procedure
abbrev none_for : Flow → List Spec
none_for flow = []

abbrev pub invariant-loop-flow : goal.invariant-loop-flow
invariant-loop-flow l = l.specs ++ map none_for (drop l._flow-index l.key.procs) ≡ map none_for l.key.procs
