-- By what the files are.
use Rattle.std.proofs.Common.{◌≡◌, ◌≤◌, Ok, ap, subst}
use Rattle.std.proofs.lemmas.Result.{IfOk-weaker}
use Rattle.shape_data.specs.declared.program.Program.{Program}
use Rattle.summary_book.specs.declared.aims.Aim.TheVariants.{All}
use Rattle.project_form.specs.Reads.{Reads}
use Rattle.session_replies.specs.Parts.{answer_in}
use Rattle.session_replies.specs.Texts.{refused_line}
use Rattle.session_replies.specs.Work.{count_reached}
use Rattle.session_replies.proofs.Working.{total_refused, total_worked}
use Rattle.session_replies.proofs.session.Session.total.Goals as goal

pub returns-in-Whole-clause-worked : goal.returns-in-Whole-clause-worked
returns-in-Whole-clause-worked g c =
    IfOk-weaker c.total_text.result (λ text. count_reached c.in-Whole.program.value All ≤ c.total_text.new.hands.seen)
    (λ text. (program : Program) → Reads c.args.self.now.files (Ok program) → count_reached program All ≤ c.total_text.new.hands.seen)
    (λ text worked. total_worked c.one_answer.ensures c.args.self.now c.in-Whole.program.value
    (subst (Reads c.args.self.now.files) (ap answer_in c.in-Whole.is) c.in_ok-program.ensures.found) c.total_text.new.hands.seen worked)
    c.total_text.ensures.worked

pub returns-in-NoProgram-clause-worked : goal.returns-in-NoProgram-clause-worked
returns-in-NoProgram-clause-worked g c =
    IfOk-weaker c.refused_text.result (λ text. text.items ≡ refused_line c.in-NoProgram.refused)
    (λ text. (program : Program) → Reads c.args.self.now.files (Ok program) → count_reached program All ≤ c.args.hands.now.seen)
    (λ text says. total_refused c.one_answer.ensures c.args.self.now c.in-NoProgram.refused
    (subst (Reads c.args.self.now.files) (ap answer_in c.in-NoProgram.is) c.in_ok-program.ensures.found) c.args.hands.now.seen)
    c.refused_text.ensures
