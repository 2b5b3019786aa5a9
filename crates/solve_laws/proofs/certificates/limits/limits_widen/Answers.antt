use Rattle.solve_laws.proofs.CertificatesLemmas.LimitLaws.{answer_widens, key_widens, storable_is_analysable}
use Rattle.solve_laws.proofs.certificates.limits.limits_widen.Goals as goal

pub returns-clause-keys : goal.returns-clause-keys
returns-clause-keys c = key_widens

pub returns-clause-answers : goal.returns-clause-answers
returns-clause-answers c = answer_widens

pub returns-clause-known : goal.returns-clause-known
returns-clause-known c = storable_is_analysable
