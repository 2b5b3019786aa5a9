use Rattle.std.proofs.Common.{◌≡◌, drop}
use Rattle.solve_laws.specs.Certificates.Coverings.{is_post_covered}
use Rattle.certificate_steps.proofs.coverings.is_post_covered.Given as goal

abbrev pub invariant-loop-cover : goal.invariant-loop-cover
invariant-loop-cover l = is_post_covered l.posts l.post ≡ is_post_covered (drop l.cover-index l.posts) l.post
