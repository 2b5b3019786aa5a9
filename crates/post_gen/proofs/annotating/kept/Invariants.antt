use Rattle.std.proofs.Common.{◌≡◌, drop}
use Rattle.solve_laws.specs.Annotation.Annotation.{kept}
use Rattle.post_gen.proofs.annotating.kept.Given as goal

abbrev pub invariant-loop-place : goal.invariant-loop-place
invariant-loop-place l = l.posts ≡ kept (drop l.place l.exits)
