use Rattle.solve_laws.proofs.CertificatesLemmas.SoundnessLaws.{inductive_is_valid}
use Rattle.solve_laws.proofs.certificates.soundness.inductive_is_valid.Goals as goal

pub returns : goal.returns
returns c = inductive_is_valid
