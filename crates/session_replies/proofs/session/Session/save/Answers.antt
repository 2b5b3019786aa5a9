-- By whether there is a store, and by what the files are.
use Rattle.std.proofs.Common.{◌≡◌, ◌≤◌, ◌∙◌, [], Ok, Err, ap, false, rules, subst, sym, true}
use Rattle.std.proofs.lemmas.Result.{IfOk-weaker}
use Rattle.summary_book.specs.declared.aims.Aim.TheVariants as aims
use Rattle.session_lines.specs.declared.command.Command.TheVariants as command
use Rattle.project_form.specs.Reads.{Reads}
use Rattle.session_replies.specs.Answers.{Answers, Present}
use Rattle.session_replies.specs.Entries.{Feeds}
use Rattle.session_replies.specs.Parts.{answer_in, bytes_saved}
use Rattle.session_replies.specs.Saves.{Saves}
use Rattle.session_replies.specs.Texts.{program_stored_line, stored_program}
use Rattle.session_replies.specs.Work.{IsWorked, count_reached}
use Rattle.session_replies.proofs.Replying.{save_answers}
use Rattle.session_replies.proofs.Working.{save_nowhere, save_refused, save_worked}
use Rattle.session_replies.proofs.session.Session.save.Goals as goal

-- ---- there is no store

pub returns-then-not-self-clause-answers : goal.returns-then-not-self-clause-answers
returns-then-not-self-clause-answers g c =
    let none : c.args.self.now.setting.saves ≡ false = search rules in
    subst (λ whole. Answers c.args.self.now command.Save whole c.args.self.now) (sym (c.of.ensures.text ∙ c.in_ok-error_text.ensures))
    (Answers.save_nowhere none)

pub returns-then-not-self-clause-feeds : goal.returns-then-not-self-clause-feeds
returns-then-not-self-clause-feeds g c =
    subst (λ entries. Feeds c.args.self.now command.Save entries) (sym c.of.ensures.entries) (Feeds.other command.Save (λ is. cc))

pub returns-then-not-self-clause-saves : goal.returns-then-not-self-clause-saves
returns-then-not-self-clause-saves g c =
    let none : c.args.self.now.setting.saves ≡ false = search rules in
    subst (λ saved. Saves c.args.self.now command.Save (bytes_saved saved)) (sym c.of.ensures.saved) (Saves.save_nowhere none)

pub returns-then-not-self-clause-worked : goal.returns-then-not-self-clause-worked
returns-then-not-self-clause-worked g c =
    let none : c.args.self.now.setting.saves ≡ false = search rules in
    save_nowhere c.args.self.now c.args.hands.now.seen none

-- ---- the files are a program

pub returns-in-Whole-clause-answers : goal.returns-in-Whole-clause-answers
returns-in-Whole-clause-answers g c =
    let some : c.args.self.now.setting.saves ≡ true = search rules in
    let loaded_is = c.loaded.ensures.value ∙ ap (λ (present : Present). present.setting.loaded) c.found.ensures.same in
    IfOk-weaker c.make_store.result (λ reply. reply.text.items ≡ program_stored_line c.loaded.result.now c.in-Whole.program.value)
    (λ reply. Answers c.args.self.now command.Save reply.text.items c.found.new.self)
    (λ reply says. save_answers c.args.self.now c.in_ok-program.field-0 (Ok c.in-Whole.program.value) c.in_ok-program.ensures.found
    (ap answer_in c.in-Whole.is) c.found.new.self reply.text.items some
    c.found.ensures.same (says ∙ ap (λ loaded. program_stored_line loaded c.in-Whole.program.value) loaded_is))
    c.make_store.ensures.text

pub returns-in-Whole-clause-feeds : goal.returns-in-Whole-clause-feeds
returns-in-Whole-clause-feeds g c =
    IfOk-weaker c.make_store.result (λ reply. reply.entries.items ≡ []) (λ reply. Feeds c.args.self.now command.Save reply.entries.items)
    (λ reply none. subst (λ entries. Feeds c.args.self.now command.Save entries) (sym none)
    (Feeds.other command.Save (λ is. cc))) c.make_store.ensures.entries

pub returns-in-Whole-clause-saves : goal.returns-in-Whole-clause-saves
returns-in-Whole-clause-saves g c =
    let some : c.args.self.now.setting.saves ≡ true = search rules in
    let loaded_is = c.loaded.ensures.value ∙ ap (λ (present : Present). present.setting.loaded) c.found.ensures.same in
    let reads = subst (Reads c.args.self.now.files) (ap answer_in c.in-Whole.is) c.in_ok-program.ensures.found in
    IfOk-weaker c.make_store.result (λ reply. bytes_saved reply.saved ≡ stored_program c.loaded.result.now c.in-Whole.program.value)
    (λ reply. Saves c.args.self.now command.Save (bytes_saved reply.saved))
    (λ reply is. subst (Saves c.args.self.now command.Save)
    (sym (is ∙ ap (λ loaded. stored_program loaded c.in-Whole.program.value) loaded_is)) (Saves.save c.in-Whole.program.value some reads))
    c.make_store.ensures.saved

pub returns-in-Whole-clause-worked : goal.returns-in-Whole-clause-worked
returns-in-Whole-clause-worked g c =
    IfOk-weaker c.make_store.result (λ reply. count_reached c.in-Whole.program.value aims.All ≤ c.make_store.new.hands.seen)
    (λ reply. IsWorked c.args.self.now command.Save c.make_store.new.hands.seen)
    (λ reply worked. save_worked c.one_answer.ensures c.args.self.now c.in-Whole.program.value
    (subst (Reads c.args.self.now.files) (ap answer_in c.in-Whole.is) c.in_ok-program.ensures.found) c.make_store.new.hands.seen worked)
    c.make_store.ensures.worked

-- ---- the files are refused

pub returns-in_ok-refused_text-in-NoProgram-clause-answers : goal.returns-in_ok-refused_text-in-NoProgram-clause-answers
returns-in_ok-refused_text-in-NoProgram-clause-answers g c =
    let some : c.args.self.now.setting.saves ≡ true = search rules in
    save_answers c.args.self.now c.in_ok-program.field-0 (Err c.in-NoProgram.refused) c.in_ok-program.ensures.found
    (ap answer_in c.in-NoProgram.is) c.found.new.self c.of-in-NoProgram.result.text.items some
    c.found.ensures.same (c.of-in-NoProgram.ensures.text ∙ c.in_ok-refused_text-in-NoProgram.ensures)

pub returns-in_ok-refused_text-in-NoProgram-clause-feeds : goal.returns-in_ok-refused_text-in-NoProgram-clause-feeds
returns-in_ok-refused_text-in-NoProgram-clause-feeds g c =
    subst (λ entries. Feeds c.args.self.now command.Save entries) (sym c.of-in-NoProgram.ensures.entries)
    (Feeds.other command.Save (λ is. cc))

pub returns-in_ok-refused_text-in-NoProgram-clause-saves : goal.returns-in_ok-refused_text-in-NoProgram-clause-saves
returns-in_ok-refused_text-in-NoProgram-clause-saves g c =
    let some : c.args.self.now.setting.saves ≡ true = search rules in
    subst (λ saved. Saves c.args.self.now command.Save (bytes_saved saved)) (sym c.of-in-NoProgram.ensures.saved)
    (Saves.save_refused c.in-NoProgram.refused some
    (subst (Reads c.args.self.now.files) (ap answer_in c.in-NoProgram.is) c.in_ok-program.ensures.found))

pub returns-in_ok-refused_text-in-NoProgram-clause-worked : goal.returns-in_ok-refused_text-in-NoProgram-clause-worked
returns-in_ok-refused_text-in-NoProgram-clause-worked g c =
    save_refused c.one_answer.ensures c.args.self.now c.in-NoProgram.refused
    (subst (Reads c.args.self.now.files) (ap answer_in c.in-NoProgram.is) c.in_ok-program.ensures.found) c.args.hands.now.seen
