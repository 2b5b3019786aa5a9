use Rattle.solve_laws.proofs.CertificatesLemmas.GapLaws.{no_gap, no_spec_gap}
use Rattle.solve_laws.proofs.certificates.gaps.no_gap_is_inductive.Goals as goal

pub returns-clause-spec : goal.returns-clause-spec
returns-clause-spec c = no_spec_gap

pub returns-clause-answer : goal.returns-clause-answer
returns-clause-answer c = no_gap
