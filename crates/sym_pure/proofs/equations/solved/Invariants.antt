use Rattle.std.proofs.Common.{◌≡◌, drop}
use Rattle.sym_pure.specs.Equations.{solved}
use Rattle.sym_pure.proofs.equations.solved.Given as goal

abbrev pub invariant-loop-fact : goal.invariant-loop-fact
invariant-loop-fact l = solved l.facts l.x ≡ solved (drop l.fact-index l.facts) l.x
