use Rattle.std.proofs.Common.{◌≡◌, drop}
use Rattle.solve_laws.specs.Certificates.Coverings.{is_covered}
use Rattle.certificate_steps.proofs.coverings.is_covered.Given as goal

abbrev pub invariant-loop-cover : goal.invariant-loop-cover
invariant-loop-cover l = is_covered l.states l.state ≡ is_covered (drop l.cover-index l.states) l.state
