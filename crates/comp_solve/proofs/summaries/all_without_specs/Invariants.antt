use Rattle.std.proofs.Common.{◌≡◌, ◌++◌, drop, map}
use Rattle.solve_laws.specs.Solving.{without_specs}
use Rattle.comp_solve.proofs.summaries.all_without_specs.Given as goal

abbrev pub invariant-loop-flow : goal.invariant-loop-flow
invariant-loop-flow l = l.summaries ++ map without_specs (drop l.flow-index l.flows) ≡ map without_specs l.flows
