-- By what the files are.
use Rattle.std.proofs.Common.{◌≡◌, Ok, Err, ap}
use Rattle.std.proofs.lemmas.Result.{IfOk-weaker}
use Rattle.session_lines.specs.declared.command.Command.TheVariants as command
use Rattle.session_replies.specs.Answers.{Answers}
use Rattle.session_replies.specs.Parts.{answer_in}
use Rattle.session_replies.specs.Texts.{ok_line, refused_line}
use Rattle.session_replies.proofs.Replying.{start_answers}
use Rattle.session_replies.proofs.session.Session.start.Goals as goal

pub returns-in_ok-start-in-Whole : goal.returns-in_ok-start-in-Whole
returns-in_ok-start-in-Whole g c = record {
  answers =
      IfOk-weaker c.ok_text.result (λ text. text.items ≡ ok_line) (λ text. Answers c.args.self.now command.Start text.items _)
      (λ text says. start_answers c.args.self.now c.in_ok-program.field-0 (Ok c.in-Whole.program.value) c.in_ok-program.ensures.found
      (ap answer_in c.in-Whole.is) _ text.items
      c.found.ensures.same says)
      c.ok_text.ensures;
}

pub returns-in-NoProgram : goal.returns-in-NoProgram
returns-in-NoProgram g c = record {
  answers =
      IfOk-weaker c.refused_text.result (λ text. text.items ≡ refused_line c.in-NoProgram.refused)
      (λ text. Answers c.args.self.now command.Start text.items c.found.new.self)
      (λ text says. start_answers c.args.self.now c.in_ok-program.field-0 (Err c.in-NoProgram.refused) c.in_ok-program.ensures.found
      (ap answer_in c.in-NoProgram.is) c.found.new.self text.items
      c.found.ensures.same says)
      c.refused_text.ensures;
}
