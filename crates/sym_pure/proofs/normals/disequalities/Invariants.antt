use Rattle.std.proofs.Common.{◌≡◌, ◌++◌, drop}
use Rattle.sym_pure.specs.Normal.{disequalities}
use Rattle.sym_pure.proofs.normals.disequalities.Given as goal

abbrev pub invariant-loop-fact : goal.invariant-loop-fact
invariant-loop-fact l = disequalities l.solved l.facts ≡ l.all.items ++ disequalities l.solved (drop l.fact-index l.facts)
