use Rattle.std.proofs.Common.{refl}
use Rattle.shape_data.specs.WellFormed.{storable}
use Rattle.solve_laws.specs.Certificates.Limits.{analysable}
use Rattle.solve_laws.proofs.CertificatesLemmas.LimitLaws.{answer_widens, key_widens, storable_is_analysable}
use Rattle.triple_check.proofs.AnswerLaws.{task-is-good}
use Rattle.solving_tests.proofs.pre_gen_tests.found.Goals as goal

pub table_of-requires : goal.table_of-requires
table_of-requires c = c.requires.answer.answers.one_each

pub candidates-requires : goal.candidates-requires
candidates-requires c =
    let key = key_widens storable analysable c.args.key.now storable_is_analysable.0 c.requires.key in
    let answer = answer_widens storable analysable c.args.key.now c.args.answer.now storable_is_analysable.0 c.requires.answer.answers in
    task-is-good c.args.key.now c.args.answer.now key answer 0 c.in-Some.flow.now c.args.key.now.procs c.as_slice.result.now
    c.in_ok-table.table refl c.as_slice.ensures c.in_ok-table.ensures c.in-Some.ensures.item.3.0 c.in-Some.ensures.item.1
