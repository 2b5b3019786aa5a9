-- A report is fed, and no other reply.
use Rattle.std.proofs.Common.{sym, subst}
use Rattle.std.specs.Prelude.{OnOk}
use Rattle.session_replies.specs.Answers.{Answers}
use Rattle.session_replies.specs.Entries.{Feeds}
use Rattle.session_replies.specs.Parts.{bytes_saved}
use Rattle.session_replies.specs.Saves.{Saves}
use Rattle.session_replies.specs.Work.{IsWorked}
use Rattle.session_replies.proofs.session.Session.reply.Goals as goal

pub returns-in-Report-clause-worked : goal.returns-in-Report-clause-worked
returns-in-Report-clause-worked g c =
    subst (λ asked. OnOk c.report.result (IsWorked c.args.self.now asked c.report.new.hands.seen))
    (sym c.in-Report.is) c.report.ensures.worked

pub returns-in-Save-clause-worked : goal.returns-in-Save-clause-worked
returns-in-Save-clause-worked g c =
    subst (λ asked. OnOk c.save.result (IsWorked c.args.self.now asked c.save.new.hands.seen)) (sym c.in-Save.is) c.save.ensures.worked

pub returns-in_ok-text-in_default : goal.returns-in_ok-text-in_default
returns-in_ok-text-in_default g c = record {
  answers =
      subst (λ items. Answers c.args.self.now c.args.asked items c.text.new.self)
      (sym c.of.ensures.text) c.in_ok-text-in_default.ensures.answers;
  feeds =
      subst (λ entries. Feeds c.args.self.now c.args.asked entries) (sym c.of.ensures.entries)
      (Feeds.other c.args.asked c.in_default.not-Report);
  saves =
      subst (λ saved. Saves c.args.self.now c.args.asked (bytes_saved saved)) (sym c.of.ensures.saved)
      (Saves.other c.args.asked c.in_default.not-Save);
  worked = c.in_ok-text-in_default.ensures.worked;
  rises = c.text.ensures.rises;
}
