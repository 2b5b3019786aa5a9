-- What was answered is what is known, and what is known of a program can be printed.
use Rattle.std.proofs.Common.{◌≡◌, ◌∙◌, List, ap, ap₂, filter_map, length, map, subst, sym}
use Rattle.std.specs.Prelude.{All, IsSome}
use Rattle.std.proofs.lemmas.Result.{IfOk-weaker}
use Rattle.report_text.specs.Parts.{AreReportable}
use Rattle.shape_data.specs.declared.answer.ProcSummary.{ProcSummary}
use Rattle.shape_data.specs.declared.program.Program.{Program}
use Rattle.loaded_answers.specs.Lookup.{lookup}
use Rattle.session_replies.specs.PlainAnswers.Solving.{solve}
use Rattle.bottom_up.specs.BottomUp.{answers_in, known_by, program_summaries}
use Rattle.bottom_up.specs.declared.places.Place.{Place}
use Rattle.bottom_up.specs.Placed.{answers_kept, summary_in}
use Rattle.shape_data.specs.declared.answer.Kept.{Kept}
use Rattle.session_replies.specs.Entries.{entries_over, program_entries, summary_told}
use Rattle.session_replies.proofs.Entries.{summaries_told}
use Rattle.session_replies.proofs.Reached.{answers_known}
use Rattle.session_replies.proofs.Reporting.{are_reportable}
use Rattle.session_replies.proofs.known.entries.Goals as goal

pub summary_places-requires-clause-right : goal.summary_places-requires-clause-right
summary_places-requires-clause-right g c =
    let loaded = c.args.loaded.now in (
      lookup solve loaded,
      c.each_is_reported.ensures.looked_up loaded (c.stored_are_right.ensures loaded c.requires.loaded),
      ap answers_kept c.deref-2.ensures.value
          ∙ answers_known
          (lookup solve loaded) c.settled_is_known.ensures.aimed c.args.program.now.value c.in_ok-kept.kept.items
          c.in_ok-kept.ensures.known ∙
          ap (λ (program : Program). answers_in (known_by (lookup solve loaded) program)) (sym c.deref.ensures),
    )

pub told_of-requires-clause-one_each : goal.told_of-requires-clause-one_each
told_of-requires-clause-one_each g c =
    ap length c.deref-5.ensures.value ∙ c.in_ok-places.ensures.one_each
    ∙ ap (λ (program : Program). length program.procs) (c.deref.ensures ∙ sym c.deref-3.ensures) ∙ sym (ap length c.as_slice.ensures)

pub told_of-requires-clause-there : goal.told_of-requires-clause-there
told_of-requires-clause-there g c =
    subst (λ (places : List Place). All (λ place. IsSome (summary_in (answers_kept c.deref-4.result.now) place)) places)
    (sym c.deref-5.ensures.value)
    (subst (λ (kept : List Kept). All (λ place. IsSome (summary_in (answers_kept kept) place)) c.in_ok-places.places.items)
    (c.deref-2.ensures.value ∙ sym c.deref-4.ensures.value) c.in_ok-places.ensures.there)

pub returns-clause-value : goal.returns-clause-value
returns-clause-value g c =
    let loaded = c.args.loaded.now in
    let procs : c.as_slice.result.now ≡ c.args.program.now.value.procs =
    c.as_slice.ensures ∙ ap (λ (program : Program). program.procs) c.deref-3.ensures in
    let known : filter_map (summary_in (answers_kept c.deref-4.result.now)) c.deref-5.result.now
    ≡ program_summaries loaded c.args.program.now.value =
    ap₂ (λ (kept : List Kept) (places : List Place). filter_map (summary_in (answers_kept kept)) places)
    (c.deref-4.ensures.value ∙ sym c.deref-2.ensures.value) c.deref-5.ensures.value ∙
    c.in_ok-places.ensures.summaries (lookup solve loaded)
    (c.each_is_reported.ensures.looked_up loaded (c.stored_are_right.ensures loaded c.requires.loaded))
    (ap answers_kept c.deref-2.ensures.value
    ∙ answers_known
    (lookup solve loaded) c.settled_is_known.ensures.aimed c.args.program.now.value c.in_ok-kept.kept.items c.in_ok-kept.ensures.known ∙
    ap (λ (program : Program). answers_in (known_by (lookup solve loaded) program)) (sym c.deref.ensures)) ∙
    ap (program_summaries loaded) c.deref.ensures in
    IfOk-weaker c.told_of.result
    (λ told. told.items
    ≡ entries_over c.as_slice.result.now (filter_map (summary_in (answers_kept c.deref-4.result.now)) c.deref-5.result.now))
    (λ told. told.items ≡ program_entries loaded c.args.program.now.value) (λ told is. is ∙ ap₂ entries_over procs known) c.told_of.ensures

pub returns-clause-summaries : goal.returns-clause-summaries
returns-clause-summaries g c =
    let loaded = c.args.loaded.now in
    let program : Program = c.args.program.now.value in
    let reportable =
    are_reportable c.each_is_reported.ensures.solved loaded
    (c.stored_are_right.ensures loaded c.requires.loaded) program c.requires.formed c.formed_is_printable.ensures in
    IfOk-weaker c.told_of.result (λ told. told.items ≡ program_entries loaded program)
    (λ told. map summary_told told.items ≡ program_summaries loaded program)
    (λ told is. ap (map summary_told) is ∙ summaries_told program.procs (program_summaries loaded program) reportable.one_each)
    (returns-clause-value g c)

pub returns-clause-reportable : goal.returns-clause-reportable
returns-clause-reportable g c =
    let loaded = c.args.loaded.now in
    let program : Program = c.args.program.now.value in
    IfOk-weaker c.told_of.result (λ told. map summary_told told.items ≡ program_summaries loaded program)
    (λ told. AreReportable program.structs program.procs (map summary_told told.items))
    (λ told is.
    subst (λ (all : List ProcSummary). AreReportable program.structs program.procs all) (sym is)
    (are_reportable c.each_is_reported.ensures.solved loaded
    (c.stored_are_right.ensures loaded c.requires.loaded) program c.requires.formed c.formed_is_printable.ensures))
    (returns-clause-summaries g c)
