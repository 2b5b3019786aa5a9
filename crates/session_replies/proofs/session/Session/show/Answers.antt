-- By what the files are.
use Rattle.std.proofs.Common.{◌≡◌, ◌≤◌, ◌∙◌, Ok, Err, ap, is_some, subst, true}
use Rattle.std.specs.List.{position}
use Rattle.std.proofs.lemmas.Result.{IfOk-weaker}
use Rattle.summary_book.specs.declared.aims.Aim.TheVariants.{One}
use Rattle.session_lines.specs.declared.command.Command.TheVariants as command
use Rattle.project_form.specs.Reads.{Reads}
use Rattle.session_replies.specs.Answers.{Answers, Present}
use Rattle.session_replies.specs.Parts.{answer_in}
use Rattle.session_replies.specs.Texts.{block_named, is_named, refused_line}
use Rattle.session_replies.specs.Work.{IsWorked, count_reached}
use Rattle.session_replies.proofs.Replying.{show_answers}
use Rattle.session_replies.proofs.Working.{show_refused, show_worked}
use Rattle.session_replies.proofs.session.Session.show.Goals as goal

pub returns-in-Whole-clause-answers : goal.returns-in-Whole-clause-answers
returns-in-Whole-clause-answers g c =
    IfOk-weaker c.block_text.result (λ text. text.items ≡ block_named c.loaded.result.now c.args.name.now c.in-Whole.program.value)
    (λ text. Answers c.args.self.now (command.Show c.args.name.now) text.items _)
    (λ text says. show_answers c.args.self.now c.in_ok-program.field-0 (Ok c.in-Whole.program.value) c.in_ok-program.ensures.found
    (ap answer_in c.in-Whole.is)
    _ c.args.name.now text.items c.found.ensures.same
    (says ∙ ap (λ loaded. block_named loaded c.args.name.now c.in-Whole.program.value)
    (c.loaded.ensures.value ∙ ap (λ (present : Present). present.setting.loaded) c.found.ensures.same)))
    c.block_text.ensures.text

pub returns-in-Whole-clause-worked : goal.returns-in-Whole-clause-worked
returns-in-Whole-clause-worked g c =
    IfOk-weaker c.block_text.result
    (λ text. is_some (position (is_named c.args.name.now) c.in-Whole.program.value.procs) ≡ true
    → count_reached c.in-Whole.program.value (One c.args.name.now) ≤ c.block_text.new.hands.seen)
    (λ text. IsWorked c.args.self.now (command.Show c.args.name.now) c.block_text.new.hands.seen)
    (λ text worked. show_worked c.one_answer.ensures c.args.self.now c.in-Whole.program.value
    (subst (Reads c.args.self.now.files)
    (ap answer_in c.in-Whole.is) c.in_ok-program.ensures.found) c.block_text.new.hands.seen c.args.name.now worked)
    c.block_text.ensures.worked

pub returns-in-NoProgram-clause-answers : goal.returns-in-NoProgram-clause-answers
returns-in-NoProgram-clause-answers g c =
    IfOk-weaker c.refused_text.result (λ text. text.items ≡ refused_line c.in-NoProgram.refused)
    (λ text. Answers c.args.self.now (command.Show c.args.name.now) text.items c.found.new.self)
    (λ text says. show_answers c.args.self.now c.in_ok-program.field-0 (Err c.in-NoProgram.refused) c.in_ok-program.ensures.found
    (ap answer_in c.in-NoProgram.is) c.found.new.self c.args.name.now text.items
    c.found.ensures.same says)
    c.refused_text.ensures

pub returns-in-NoProgram-clause-worked : goal.returns-in-NoProgram-clause-worked
returns-in-NoProgram-clause-worked g c =
    IfOk-weaker c.refused_text.result (λ text. text.items ≡ refused_line c.in-NoProgram.refused)
    (λ text. IsWorked c.args.self.now (command.Show c.args.name.now) c.args.hands.now.seen)
    (λ text says. show_refused c.one_answer.ensures c.args.self.now c.in-NoProgram.refused
    (subst (Reads c.args.self.now.files)
    (ap answer_in c.in-NoProgram.is) c.in_ok-program.ensures.found) c.args.hands.now.seen c.args.name.now)
    c.refused_text.ensures
