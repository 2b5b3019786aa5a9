use Rattle.shape_data.specs.WellFormed.{storable}
use Rattle.solve_laws.specs.Certificates.Limits.{analysable}
use Rattle.summary_store.proofs.loading.is_inductive.Goals as goal

pub check_answer-requires-clause-answer : goal.check_answer-requires-clause-answer
check_answer-requires-clause-answer c =
    rw (c.deref.ensures, c.deref-2.ensures) (c.limits_widen.ensures.answers storable analysable c.args.entry.now.key.value
    c.args.entry.now.answer.value c.limits_widen.ensures.known.0 c.requires.answer.answers)
