-- The answers to a command from what its parts were answered.
use Rattle.std.specs.List.{position}
use Rattle.std.specs.Option.{option_and_then}
use Rattle.std.proofs.Common.{◌≡◌, ℕ, Bool, true, List, Option, Some, None, Result, slice_get, get_or, sym, ap, ap₂, ◌∙◌, subst}
use Rattle.shape_data.specs.declared.answer.ProcSummary.{ProcSummary}
use Rattle.shape_data.specs.declared.program.Proc.{Proc}
use Rattle.shape_data.specs.declared.program.Program.{Program}
use Rattle.claim_core.specs.Views.{Solution}
use Rattle.report_text.specs.Report.{block_text}
use Rattle.bottom_up.specs.BottomUp.{program_summaries}
use Rattle.session_generator.specs.Generated.{generated}
use Rattle.session_lines.specs.declared.command.Command.TheVariants as command
use Rattle.project_form.specs.declared.fault.Refused.{Refused}
use Rattle.project_form.specs.Files.{SourceFile, has_file, put_refusal, with_file, without_file}
use Rattle.project_form.specs.Reads.{Reads}
use Rattle.session_replies.specs.declared.project_read.Found.{Found}
use Rattle.session_replies.specs.Answers.{Answers, GENERATED, Present, Setting, missing_by, text_of, unless_refused, with_drop, with_put}
use Rattle.session_replies.specs.Parts.{answer_in}
use Rattle.std.proofs.lemmas.Option.{get_or_from_slice_get}
use Rattle.summary_book.proofs.Lists.{position_found}
use Rattle.session_replies.specs.Known.{named_summary}
use Rattle.session_replies.specs.Texts.{block_at, block_named, block_of, is_named, drop_line, error_line, ok_line, program_report}
use Rattle.session_replies.specs.Texts.{program_stored_line, program_total, put_line}

-- a file was put, or refused
pub put_answers : (present after : Present) (name bytes text : List ℕ) (refusal : Option ℕ) →
    refusal ≡ put_refusal name bytes present.files → after ≡ with_put name bytes present →
    text ≡ put_line refusal → Answers present (command.Put name bytes) text after
put_answers present after name bytes text refusal is now says =
    subst (λ (later : Present). Answers present (command.Put name bytes) text later) (sym now)
    (subst (λ (whole : List ℕ). Answers present (command.Put name bytes) whole (with_put name bytes present)) (sym (says ∙ ap put_line is))
    (Answers.put name bytes))

-- a file was dropped, or there was none
pub drop_answers : (present : Present) (files later : List SourceFile) (missing : ℕ) (setting : Setting) (name text : List ℕ)
    (there : Bool) → record { files = files; missing = missing; setting = setting } ≡ present →
    there ≡ has_file name files → later ≡ without_file name files → text ≡ drop_line there →
    Answers present (command.DropFile name) text (record { files = later; missing = missing; setting = setting })
drop_answers present files later missing setting name text there before is now says =
    let old : Present = record { files = files; missing = missing; setting = setting } in
    subst (λ (p : Present). Answers p (command.DropFile name) text (record { files = later; missing = missing; setting = setting })) before
    (subst (λ (rest : List SourceFile). Answers old (command.DropFile name) text
    (record { files = rest; missing = missing; setting = setting })) (sym now)
    (subst (λ (whole : List ℕ). Answers old (command.DropFile name) whole (with_drop name old)) (sym (says ∙ ap drop_line is))
    (Answers.drop_file name)))

-- the generated file was refused
pub gen_refused_answers : (present after : Present) (n code : ℕ) (name bytes text : List ℕ) → name ≡ GENERATED → bytes ≡ generated n →
    Some code ≡ put_refusal name bytes present.files →
    after ≡ with_put name bytes present → text ≡ error_line code → Answers present (command.Gen n) text after
gen_refused_answers present after n code name bytes text named made refused now says =
    let same : with_put name bytes present ≡ present =
    ap (λ (refusal : Option ℕ).
    record {
      files = unless_refused refusal (with_file name bytes present.files) present.files;
      missing = present.missing;
      setting = present.setting;
    }) (sym refused) in
    let is : put_refusal GENERATED (generated n) present.files ≡ Some code =
    sym (refused ∙ ap (λ xs. put_refusal xs bytes present.files) named ∙ ap (λ xs. put_refusal GENERATED xs present.files) made) in
    subst (λ (later : Present). Answers present (command.Gen n) text later) (sym (now ∙ same))
    (subst (λ (whole : List ℕ). Answers present (command.Gen n) whole present) (sym says) (Answers.gen_refused n code is))

-- what files are was asked for
module _ (present : Present) (found : Found) (answer : Result Program Refused) (reads : Reads present.files (answer_in found))
    (is : answer_in found ≡ answer) where
  so_read : Reads present.files answer
  so_read = subst (Reads present.files) is reads

  pub start_answers : (after : Present) (text : List ℕ) → after ≡ present → text ≡ text_of (λ program. ok_line) answer →
      Answers present command.Start text after
  start_answers after text now says =
      subst (λ (later : Present). Answers present command.Start text later) (sym now)
      (subst (λ (whole : List ℕ). Answers present command.Start whole present) (sym says) (Answers.start answer so_read))

  pub show_answers : (after : Present) (name text : List ℕ) → after ≡ present →
      text ≡ text_of (block_named present.setting.loaded name) answer → Answers present (command.Show name) text after
  show_answers after name text now says =
      subst (λ (later : Present). Answers present (command.Show name) text later) (sym now)
      (subst (λ (whole : List ℕ). Answers present (command.Show name) whole present) (sym says) (Answers.show name answer so_read))

  pub save_answers : (after : Present) (text : List ℕ) → present.setting.saves ≡ true → after ≡ present →
      text ≡ text_of (program_stored_line present.setting.loaded) answer → Answers present command.Save text after
  save_answers after text saves now says =
      subst (λ (later : Present). Answers present command.Save text later) (sym now)
      (subst (λ (whole : List ℕ). Answers present command.Save whole present) (sym says) (Answers.save answer saves so_read))

  pub report_answers : (after : Present) (text : List ℕ) →
      after ≡ record present { missing = missing_by present.setting.loaded present.missing answer } →
      text ≡ text_of (program_report present.setting.loaded) answer → Answers present command.Report text after
  report_answers after text now says =
      subst (λ (later : Present). Answers present command.Report text later) (sym now)
      (subst (λ (whole : List ℕ). Answers present command.Report whole
      (record present { missing = missing_by present.setting.loaded present.missing answer })) (sym says) (Answers.report answer so_read))

-- the same files with another number
pub with_missing : (present : Present) (files : List SourceFile) (before missing missing' : ℕ) (setting : Setting) →
    record { files = files; missing = before; setting = setting } ≡ present → missing ≡ missing' →
    record { files = files; missing = missing; setting = setting } ≡ record present { missing = missing' }
with_missing present files before missing missing' setting same is =
    ap (λ (p : Present). record p { missing = missing }) same ∙ ap (λ (n : ℕ). record present { missing = n }) is

-- the generated file was put
pub gen_answers : (present mid after : Present) (n : ℕ) (name bytes text : List ℕ) (answer : Result Program Refused) → name ≡ GENERATED →
    bytes ≡ generated n → None ≡ put_refusal name bytes present.files →
    mid ≡ with_put name bytes present → after ≡ mid → Reads mid.files answer → text ≡ text_of (program_total mid.setting.loaded) answer →
    Answers present (command.Gen n) text after
gen_answers present mid after n name bytes text answer named made may put now reads says =
    let put_all : Present = record present { files = with_file GENERATED (generated n) present.files } in
    let one : with_put name bytes present ≡ record present { files = with_file name bytes present.files } =
    ap (λ (refusal : Option ℕ).
    record {
      files = unless_refused refusal (with_file name bytes present.files) present.files;
      missing = present.missing;
      setting = present.setting;
    }) (sym may) in
    let two : record present { files = with_file name bytes present.files } ≡ put_all =
    ap₂ (λ (xs ys : List ℕ).
    record { files = with_file xs ys present.files; missing = present.missing; setting = present.setting }) named made in
    let same : mid ≡ put_all = put ∙ one ∙ two in
    let is : put_refusal GENERATED (generated n) present.files ≡ None =
    sym (may ∙ ap₂ (λ (xs ys : List ℕ). put_refusal xs ys present.files) named made) in
    let read_so : Reads put_all.files answer = subst (λ (p : Present). Reads p.files answer) same reads in
    subst (λ (later : Present). Answers present (command.Gen n) text later) (sym (now ∙ same))
    (subst (λ (whole : List ℕ). Answers present (command.Gen n) whole put_all)
    (sym (says ∙ ap (λ (p : Present). text_of (program_total p.setting.loaded) answer) same)) (Answers.gen n answer is read_so))

-- the block of the procedure of a name, from its summary
pub block_is : (loaded : List Solution) (program : Program) (name : List ℕ) (place : ℕ) (proc : Proc) (summary : ProcSummary) →
    position (is_named name) program.procs ≡ Some place → proc ≡ get_or program.procs place proc →
    named_summary loaded program name ≡ Some summary → block_text program.structs proc summary ≡ block_named loaded name program
block_is loaded program name place proc summary is proc_is known =
    let found = position_found (is_named name) program.procs place is in
    let at : slice_get program.procs place ≡ Some proc =
    found.1 ∙ ap (λ p. Some p) (sym (proc_is ∙ get_or_from_slice_get program.procs place found.0 proc found.1)) in
    let there : slice_get (program_summaries loaded program) place ≡ Some summary =
    sym (ap (option_and_then (slice_get (program_summaries loaded program))) is) ∙ known in
    sym (ap (block_at loaded program) is ∙ ap (λ o. block_of program.structs o (slice_get (program_summaries loaded program) place)) at
    ∙ ap (λ o. block_of program.structs (Some proc) o) there)
