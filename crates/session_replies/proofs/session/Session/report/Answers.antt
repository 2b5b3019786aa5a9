-- By what the files are.
use Rattle.std.proofs.Common.{◌∙◌, Ok, Err, ap, subst, sym}
use Rattle.session_lines.specs.declared.command.Command.TheVariants as command
use Rattle.project_form.specs.Reads.{Reads}
use Rattle.session_replies.specs.Answers.{Present}
use Rattle.session_replies.specs.Entries.{Feeds, program_entries}
use Rattle.session_replies.specs.Parts.{answer_in, bytes_saved}
use Rattle.session_replies.specs.Saves.{Saves}
use Rattle.session_replies.specs.Texts.{program_missing, program_report}
use Rattle.session_replies.proofs.Replying.{report_answers, with_missing}
use Rattle.session_replies.proofs.Working.{report_refused, report_worked}
use Rattle.session_replies.proofs.session.Session.report.Goals as goal

pub returns-in_ok-report-in-Whole-clause-answers : goal.returns-in_ok-report-in-Whole-clause-answers
returns-in_ok-report-in-Whole-clause-answers g c =
    report_answers c.args.self.now c.in_ok-program.field-0 (Ok c.in-Whole.program.value) c.in_ok-program.ensures.found
    (ap answer_in c.in-Whole.is) _ c.in_ok-report-in-Whole.report.reply.text.items
    (with_missing c.args.self.now _ c.self.inside.missing c.in_ok-report-in-Whole.report.missing _ _ (c.self.view_is ∙ c.found.ensures.same)
    (c.in_ok-report-in-Whole.ensures.missing
    ∙ ap (λ loaded. program_missing loaded c.in-Whole.program.value)
    (c.loaded.ensures.value ∙ ap (λ (present : Present). present.setting.loaded) c.found.ensures.same)))
    (c.in_ok-report-in-Whole.ensures.text
    ∙ ap (λ loaded. program_report loaded c.in-Whole.program.value)
    (c.loaded.ensures.value ∙ ap (λ (present : Present). present.setting.loaded) c.found.ensures.same))

pub returns-in_ok-report-in-Whole-clause-worked : goal.returns-in_ok-report-in-Whole-clause-worked
returns-in_ok-report-in-Whole-clause-worked g c =
    report_worked c.one_answer.ensures c.args.self.now c.in-Whole.program.value
    (subst (Reads c.args.self.now.files)
    (ap answer_in c.in-Whole.is) c.in_ok-program.ensures.found) c.make_report.new.hands.seen c.in_ok-report-in-Whole.ensures.worked

pub returns-in_ok-report-in-Whole-clause-feeds : goal.returns-in_ok-report-in-Whole-clause-feeds
returns-in_ok-report-in-Whole-clause-feeds g c =
    subst (λ entries. Feeds c.args.self.now command.Report entries)
    (sym (c.in_ok-report-in-Whole.ensures.entries
    ∙ ap (λ loaded. program_entries loaded c.in-Whole.program.value)
    (c.loaded.ensures.value ∙ ap (λ (present : Present). present.setting.loaded) c.found.ensures.same)))
    (Feeds.report c.in-Whole.program.value (subst (Reads c.args.self.now.files) (ap answer_in c.in-Whole.is) c.in_ok-program.ensures.found))

pub returns-in_ok-refused_text-in-NoProgram-clause-answers : goal.returns-in_ok-refused_text-in-NoProgram-clause-answers
returns-in_ok-refused_text-in-NoProgram-clause-answers g c =
    report_answers c.args.self.now c.in_ok-program.field-0 (Err c.in-NoProgram.refused) c.in_ok-program.ensures.found
    (ap answer_in c.in-NoProgram.is) c.found.new.self c.of.result.text.items
    c.found.ensures.same (c.of.ensures.text ∙ c.in_ok-refused_text-in-NoProgram.ensures)

pub returns-in_ok-refused_text-in-NoProgram-clause-feeds : goal.returns-in_ok-refused_text-in-NoProgram-clause-feeds
returns-in_ok-refused_text-in-NoProgram-clause-feeds g c =
    subst (λ entries. Feeds c.args.self.now command.Report entries) (sym c.of.ensures.entries)
    (Feeds.report_refused c.in-NoProgram.refused
    (subst (Reads c.args.self.now.files) (ap answer_in c.in-NoProgram.is) c.in_ok-program.ensures.found))

pub returns-in_ok-refused_text-in-NoProgram-clause-worked : goal.returns-in_ok-refused_text-in-NoProgram-clause-worked
returns-in_ok-refused_text-in-NoProgram-clause-worked g c =
    report_refused c.one_answer.ensures c.args.self.now c.in-NoProgram.refused
    (subst (Reads c.args.self.now.files) (ap answer_in c.in-NoProgram.is) c.in_ok-program.ensures.found) c.args.hands.now.seen

pub returns-in_ok-report-in-Whole-clause-saves : goal.returns-in_ok-report-in-Whole-clause-saves
returns-in_ok-report-in-Whole-clause-saves g c =
    subst (λ saved. Saves c.args.self.now command.Report (bytes_saved saved)) (sym c.in_ok-report-in-Whole.ensures.saved)
    (Saves.other command.Report (λ is. cc))

pub returns-in_ok-refused_text-in-NoProgram-clause-saves : goal.returns-in_ok-refused_text-in-NoProgram-clause-saves
returns-in_ok-refused_text-in-NoProgram-clause-saves g c =
    subst (λ saved. Saves c.args.self.now command.Report (bytes_saved saved)) (sym c.of.ensures.saved)
    (Saves.other command.Report (λ is. cc))
