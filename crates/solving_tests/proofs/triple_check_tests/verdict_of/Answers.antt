use Rattle.shape_data.specs.WellFormed.{storable}
use Rattle.solve_laws.specs.Certificates.Limits.{analysable}
use Rattle.solve_laws.proofs.CertificatesLemmas.LimitLaws.{answer_widens, key_widens, storable_is_analysable}
use Rattle.solving_tests.proofs.triple_check_tests.verdict_of.Goals as goal

pub check_answer-requires-clause-key : goal.check_answer-requires-clause-key
check_answer-requires-clause-key c = key_widens storable analysable c.args.key.now storable_is_analysable.0 c.requires.key

pub check_answer-requires-clause-answer : goal.check_answer-requires-clause-answer
check_answer-requires-clause-answer c =
    answer_widens storable analysable c.args.key.now c.args.answer.now storable_is_analysable.0 c.requires.answer.answers

pub first_gap-requires-clause-key : goal.first_gap-requires-clause-key
first_gap-requires-clause-key c = key_widens storable analysable c.args.key.now storable_is_analysable.0 c.requires.key

pub first_gap-requires-clause-answer : goal.first_gap-requires-clause-answer
first_gap-requires-clause-answer c =
    answer_widens storable analysable c.args.key.now c.args.answer.now storable_is_analysable.0 c.requires.answer.answers
