use Rattle.std.proofs.Common.{◌≡◌, drop}
use Rattle.sym_pure.specs.IsNormal.{is_solved_in}
use Rattle.sym_pure.proofs.normality.is_solved_in.Given as goal

abbrev pub invariant-loop-fact : goal.invariant-loop-fact
invariant-loop-fact l = is_solved_in l.facts l.variable ≡ is_solved_in (drop l.fact-index l.facts) l.variable
