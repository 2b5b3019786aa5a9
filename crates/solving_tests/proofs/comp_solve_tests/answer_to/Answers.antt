use Rattle.shape_data.specs.WellFormed.{storable}
use Rattle.solve_laws.specs.Certificates.Limits.{analysable}
use Rattle.solve_laws.proofs.CertificatesLemmas.LimitLaws.{key_widens, storable_is_analysable}
use Rattle.solving_tests.proofs.comp_solve_tests.answer_to.Goals as goal

pub solve-requires : goal.solve-requires
solve-requires c = key_widens storable analysable c.args.key.now storable_is_analysable.0 c.requires
