-- The summary of the name is among what was collected.
use Rattle.std.proofs.Common.{◌≡◌, ◌∙◌, Some, None, ap, sym}
use Rattle.bottom_up.specs.Placed.{answers_kept, summary_among}
use Rattle.settled_laws.specs.Laws.{aimed_answers}
use Rattle.loaded_answers.specs.Lookup.{lookup}
use Rattle.session_replies.specs.PlainAnswers.Solving.{solve}
use Rattle.summary_book.specs.declared.aims.Aim.TheVariants.{One}
use Rattle.session_replies.proofs.Reached.{answers_aimed}
use Rattle.session_replies.proofs.Reporting.{named_is_printable}
use Rattle.session_replies.proofs.Shown.{shown}
use Rattle.session_replies.proofs.known.summary.Goals as goal

pub unreachable-requires : goal.unreachable-requires
unreachable-requires g c =
    let own =
    shown c.args.loaded.now
    (c.each_is_reported.ensures.looked_up c.args.loaded.now
    (c.stored_are_right.ensures c.args.loaded.now c.requires.loaded)).formed c.args.program.now.value c.requires.formed c.args.name.now
    c.requires.defined in
    let none : None ≡ Some own.summary =
    sym c.in-None.is ∙ c.in_ok-summary.ensures ∙ ap (λ kept. summary_among (answers_kept kept) c.args.name.now) c.deref.ensures.value ∙
    ap (λ answers. summary_among answers c.args.name.now)
    (answers_aimed (lookup solve c.args.loaded.now) c.args.program.now.value
    (One c.in_ok-copy_of.field-0) c.in_ok-kept.kept.items c.in_ok-kept.ensures.known) ∙
    ap (λ name. summary_among
    (aimed_answers (lookup solve c.args.loaded.now) c.args.program.now.value (One name)) c.args.name.now)
    c.in_ok-copy_of.ensures ∙ own.among in
    absurd cc

pub returns-clause-value : goal.returns-clause-value
returns-clause-value g c =
    let own =
    shown c.args.loaded.now
    (c.each_is_reported.ensures.looked_up c.args.loaded.now
    (c.stored_are_right.ensures c.args.loaded.now c.requires.loaded)).formed c.args.program.now.value c.requires.formed c.args.name.now
    c.requires.defined in
    own.known ∙
    sym (sym c.in-Some.is ∙ c.in_ok-summary.ensures ∙ ap (λ kept. summary_among (answers_kept kept) c.args.name.now) c.deref.ensures.value ∙
    ap (λ answers. summary_among answers c.args.name.now)
    (answers_aimed (lookup solve c.args.loaded.now) c.args.program.now.value
    (One c.in_ok-copy_of.field-0) c.in_ok-kept.kept.items c.in_ok-kept.ensures.known) ∙
    ap (λ name. summary_among
    (aimed_answers (lookup solve c.args.loaded.now) c.args.program.now.value (One name)) c.args.name.now)
    c.in_ok-copy_of.ensures ∙ own.among)

pub returns-clause-printable : goal.returns-clause-printable
returns-clause-printable g c =
    let own =
    shown c.args.loaded.now
    (c.each_is_reported.ensures.looked_up c.args.loaded.now
    (c.stored_are_right.ensures c.args.loaded.now c.requires.loaded)).formed c.args.program.now.value c.requires.formed c.args.name.now
    c.requires.defined in
    named_is_printable c.each_is_reported.ensures.solved c.args.loaded.now
    (c.stored_are_right.ensures c.args.loaded.now c.requires.loaded) c.args.program.now.value c.requires.formed
    c.formed_is_printable.ensures c.args.name.now c.in-Some.summary
    (own.known ∙
    sym (sym c.in-Some.is ∙ c.in_ok-summary.ensures ∙ ap (λ kept. summary_among (answers_kept kept) c.args.name.now) c.deref.ensures.value ∙
    ap (λ answers. summary_among answers c.args.name.now)
    (answers_aimed (lookup solve c.args.loaded.now) c.args.program.now.value
    (One c.in_ok-copy_of.field-0) c.in_ok-kept.kept.items c.in_ok-kept.ensures.known) ∙
    ap (λ name. summary_among
    (aimed_answers (lookup solve c.args.loaded.now) c.args.program.now.value (One name)) c.args.name.now)
    c.in_ok-copy_of.ensures ∙ own.among))
