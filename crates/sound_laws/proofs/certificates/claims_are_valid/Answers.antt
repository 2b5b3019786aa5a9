use Rattle.sound_laws.proofs.CertificateLemmas.{claims_are_valid}
use Rattle.sound_laws.proofs.certificates.claims_are_valid.Goals as goal

pub returns : goal.returns
returns c = claims_are_valid
