use Rattle.solve_laws.proofs.CertificatesLemmas.SoundnessLaws.{all_are_valid}
use Rattle.solve_laws.proofs.certificates.soundness.all_are_valid.Goals as goal

pub returns : goal.returns
returns c = all_are_valid
