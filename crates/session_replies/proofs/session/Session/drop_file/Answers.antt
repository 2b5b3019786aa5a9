-- A file was dropped, or there was none.
use Rattle.std.proofs.Common.{◌≡◌}
use Rattle.std.proofs.lemmas.Result.{IfOk-weaker}
use Rattle.session_lines.specs.declared.command.Command.TheVariants as command
use Rattle.session_replies.specs.Answers.{Answers}
use Rattle.session_replies.specs.Texts.{drop_line}
use Rattle.session_replies.proofs.Replying.{drop_answers}
use Rattle.session_replies.proofs.session.Session.drop_file.Goals as goal

pub returns : goal.returns
returns c = record {
  answers =
      IfOk-weaker c.drop_text.result (λ text. text.items ≡ drop_line c.drop_file-there.result)
      (λ text. Answers c.args.self.now (command.DropFile c.args.name.now) text.items _)
      (λ text says. drop_answers c.args.self.now _ _ c.self.inside.missing _ c.args.name.now text.items c.drop_file-there.result
      c.self.view_is c.drop_file-there.ensures.dropped c.drop_file-there.ensures.files says)
      c.drop_text.ensures;
}
