use Rattle.std.proofs.Common.{◌≡◌, [], drop}
use Rattle.sym_pure.specs.Solving.{equations}
use Rattle.sym_pure.proofs.solving.equations.Given as goal

abbrev pub invariant-loop-equation : goal.invariant-loop-equation
invariant-loop-equation l = equations l.solved l.solved [] ≡ equations l.solved (drop l.equation-index l.solved) l.all.items
