-- The file was put, or refused.
use Rattle.std.proofs.Common.{◌≡◌, ◌∙◌, sym}
use Rattle.std.proofs.lemmas.Result.{IfOk-weaker}
use Rattle.session_lines.specs.declared.command.Command.TheVariants as command
use Rattle.session_replies.specs.Answers.{Answers}
use Rattle.session_replies.specs.Texts.{error_line, ok_line}
use Rattle.session_replies.proofs.Replying.{put_answers}
use Rattle.session_replies.proofs.session.Session.put.Goals as goal

pub returns-in-None : goal.returns-in-None
returns-in-None c = record {
  answers =
      IfOk-weaker c.ok_text.result (λ text. text.items ≡ ok_line)
      (λ text. Answers c.args.self.now (command.Put c.args.name.now c.args.bytes.items) text.items c.place.new.self)
      (λ text says. put_answers c.args.self.now c.place.new.self c.args.name.now c.args.bytes.items text.items _
      (sym c.in-None.is ∙ c.in_ok-place.ensures.refusal) c.in_ok-place.ensures.present says)
      c.ok_text.ensures;
}

pub returns-in-Some : goal.returns-in-Some
returns-in-Some c = record {
  answers =
      IfOk-weaker c.error_text.result (λ text. text.items ≡ error_line c.in-Some.code)
      (λ text. Answers c.args.self.now (command.Put c.args.name.now c.args.bytes.items) text.items c.place.new.self)
      (λ text says. put_answers c.args.self.now c.place.new.self c.args.name.now c.args.bytes.items text.items _
      (sym c.in-Some.is ∙ c.in_ok-place.ensures.refusal) c.in_ok-place.ensures.present says)
      c.error_text.ensures;
}
