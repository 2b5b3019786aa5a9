-- The generated file was put, or refused.
use Rattle.std.proofs.Common.{◌≡◌, ◌≤◌, ◌∙◌, Ok, Result, sym}
use Rattle.summary_book.specs.declared.aims.Aim.TheVariants.{All}
use Rattle.shape_data.specs.declared.program.Program.{Program}
use Rattle.project_form.specs.declared.fault.Refused.{Refused}
use Rattle.project_form.specs.Reads.{Reads}
use Rattle.std.proofs.lemmas.Result.{IfOk-weaker}
use Rattle.session_lines.specs.declared.command.Command.TheVariants as command
use Rattle.session_replies.specs.Answers.{Answers, text_of}
use Rattle.session_replies.specs.Texts.{error_line, program_total}
use Rattle.session_replies.specs.Work.{IsWorked, count_reached}
use Rattle.session_replies.proofs.Replying.{gen_answers, gen_refused_answers}
use Rattle.session_replies.proofs.Working.{gen_not_worked, gen_worked}
use Rattle.session_replies.proofs.session.Session.gen_file.Goals as goal

pub returns-clause-answers : goal.returns-clause-answers
returns-clause-answers g c =
    IfOk-weaker c.error_text.result (λ text. text.items ≡ error_line c.in-Some.code)
    (λ text. Answers c.args.self.now (command.Gen c.args.n) text.items c.place.new.self)
    (λ text says. gen_refused_answers c.args.self.now c.place.new.self c.args.n c.in-Some.code _ _ text.items c.in_ok-name.ensures
    c.in_ok-bytes.ensures (sym c.in-Some.is ∙ c.in_ok-place.ensures.refusal) c.in_ok-place.ensures.present says)
    c.error_text.ensures

pub returns-in-None-clause-answers : goal.returns-in-None-clause-answers
returns-in-None-clause-answers g c =
    IfOk-weaker c.total.result
    (λ text. (answer : Result Program Refused) × Reads c.place.new.self.files answer
    × (text.items ≡ text_of (program_total c.place.new.self.setting.loaded) answer))
    (λ text. Answers c.args.self.now (command.Gen c.args.n) text.items c.total.new.self)
    (λ text said. gen_answers c.args.self.now c.place.new.self c.total.new.self c.args.n _ _ text.items said.0 c.in_ok-name.ensures
    c.in_ok-bytes.ensures (sym c.in-None.is ∙ c.in_ok-place.ensures.refusal)
    c.in_ok-place.ensures.present c.total.ensures.same said.1 said.2)
    c.total.ensures.text

pub returns-clause-worked : goal.returns-clause-worked
returns-clause-worked g c =
    IfOk-weaker c.error_text.result (λ text. text.items ≡ error_line c.in-Some.code)
    (λ text. IsWorked c.args.self.now (command.Gen c.args.n) c.args.hands.now.seen)
    (λ text says. gen_not_worked c.args.self.now c.args.n c.in-Some.code _ _ c.args.hands.now.seen c.in_ok-name.ensures
    c.in_ok-bytes.ensures (sym c.in-Some.is ∙ c.in_ok-place.ensures.refusal))
    c.error_text.ensures

pub returns-in-None-clause-worked : goal.returns-in-None-clause-worked
returns-in-None-clause-worked g c =
    IfOk-weaker c.total.result
    (λ text. (program : Program) → Reads c.place.new.self.files (Ok program) → count_reached program All ≤ c.total.new.hands.seen)
    (λ text. IsWorked c.args.self.now (command.Gen c.args.n) c.total.new.hands.seen)
    (λ text worked. gen_worked c.args.self.now c.place.new.self c.args.n _ _ c.total.new.hands.seen c.in_ok-name.ensures
    c.in_ok-bytes.ensures c.in_ok-place.ensures.present worked)
    c.total.ensures.worked
