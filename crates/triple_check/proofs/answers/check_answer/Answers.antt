use Rattle.std.specs.Prelude.{◌≡◌}
use Rattle.std.specs.declared.option.Option.{Option}
use Rattle.std.specs.declared.option.Option.TheVariants.{None, Some}
use Rattle.std.proofs.Common.{rules}
use Rattle.solve_laws.specs.declared.certificates.parts.Gap.{Gap}
use Rattle.solve_laws.specs.Certificates.Gaps.{first_gap}
use Rattle.triple_check.proofs.AnswerLaws.{none-exact, none-sound, some-exact}
use Rattle.triple_check.proofs.answers.check_answer.Goals as goal

pub returns-in-None-clause-exact : goal.returns-in-None-clause-exact
returns-in-None-clause-exact c =
    let none : ◌≡◌ {A = Option Gap} (first_gap c.args.key.now c.args.answer.now) None = search rules in
    none-exact c.args.key.now c.args.answer.now c.requires.key c.requires.answer none

pub returns-in-None-clause-sound : goal.returns-in-None-clause-sound
returns-in-None-clause-sound c =
    let none : ◌≡◌ {A = Option Gap} (first_gap c.args.key.now c.args.answer.now) None = search rules in
    λ yes program stands. none-sound c.args.key.now c.args.answer.now c.requires.key c.requires.answer none program stands

pub returns-in-Some-clause-exact : goal.returns-in-Some-clause-exact
returns-in-Some-clause-exact c =
    let some : ◌≡◌ {A = Option Gap} (first_gap c.args.key.now c.args.answer.now) (Some c.in-Some.field-0) = search rules in
    some-exact c.args.key.now c.args.answer.now c.requires.key c.requires.answer c.in-Some.field-0 some
