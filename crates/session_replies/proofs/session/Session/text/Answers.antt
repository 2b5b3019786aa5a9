-- A file that is too long, and an empty line.
use Rattle.std.proofs.Common.{◌≡◌, ℕ, List, sym, subst}
use Rattle.std.specs.Prelude.{OnOk}
use Rattle.std.proofs.lemmas.Result.{IfOk-weaker}
use Rattle.session_lines.specs.declared.command.Command.TheVariants as command
use Rattle.session_replies.specs.Answers.{Answers}
use Rattle.session_replies.specs.Texts.{error_line}
use Rattle.session_replies.specs.Work.{IsWorked}
use Rattle.session_replies.proofs.session.Session.text.Goals as goal

pub returns-in-PutTooLong-clause-answers : goal.returns-in-PutTooLong-clause-answers
returns-in-PutTooLong-clause-answers g c =
    IfOk-weaker c.error_text.result (λ text. text.items ≡ error_line 143)
    (λ text. Answers c.args.self.now c.args.asked text.items c.args.self.now)
    (λ text says. subst (λ asked. Answers c.args.self.now asked text.items c.args.self.now) (sym c.in-PutTooLong.is)
    (subst (λ (whole : List ℕ). Answers c.args.self.now
    (command.PutTooLong c.in-PutTooLong.name c.in-PutTooLong.size) whole c.args.self.now) (sym says)
    (Answers.put_too_long c.in-PutTooLong.name c.in-PutTooLong.size)))
    c.error_text.ensures

pub returns-in-Blank-clause-answers : goal.returns-in-Blank-clause-answers
returns-in-Blank-clause-answers g c =
    subst (λ asked. Answers c.args.self.now asked c.new.result.items c.args.self.now) (sym c.in-Blank.is)
    (subst (λ (whole : List ℕ). Answers c.args.self.now command.Blank whole c.args.self.now) (sym c.new.ensures.items) Answers.blank)

pub returns-in-Show-clause-worked : goal.returns-in-Show-clause-worked
returns-in-Show-clause-worked g c =
    subst (λ asked. OnOk c.show.result (IsWorked c.args.self.now asked c.show.new.hands.seen)) (sym c.in-Show.is) c.show.ensures.worked

pub returns-in-Gen-clause-worked : goal.returns-in-Gen-clause-worked
returns-in-Gen-clause-worked g c =
    subst (λ asked. OnOk c.gen_file.result (IsWorked c.args.self.now asked c.gen_file.new.hands.seen))
    (sym c.in-Gen.is) c.gen_file.ensures.worked
