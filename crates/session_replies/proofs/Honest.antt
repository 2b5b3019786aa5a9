-- Over honest entries a command is answered as from nothing: what is known of a program is the same, but for the marks of stored answers,
-- which no reply shows and no store holds.
use Rattle.std.proofs.Common.{◌≡◌, ℕ, List, [], ◌∷◌, map, Option, Some, None, Result, Ok, Err, slice_get, refl, sym, ap, ◌∙◌, subst}
use Rattle.std.specs.List.{position}
use Rattle.shape_data.specs.declared.answer.ProcSummary.{ProcSummary}
use Rattle.shape_data.specs.declared.program.Program.{Program}
use Rattle.claim_core.specs.Views.{Solution}
use Rattle.report_text.specs.Report.{none_count, report_of, total_text}
use Rattle.store_json.specs.Texts.{entry_data, store_object, with_trailer}
use Rattle.serde_json.specs.Data.{Data}
use Rattle.serde_json.specs.Written.{compact_text}
use Rattle.bottom_up.specs.BottomUp.{bottom_up, program_summaries}
use Rattle.bottom_up.specs.Laws.{HonestIsFromNothing, IsHonest, unmarked}
use Rattle.session_lines.specs.declared.command.Command.TheVariants as command
use Rattle.project_form.specs.declared.fault.Refused.{Refused}
use Rattle.session_generator.specs.Generated.{generated}
use Rattle.project_form.specs.Files.{with_file}
use Rattle.session_replies.specs.Answers.{Answers, GENERATED, missing_by, text_of}
use Rattle.session_replies.specs.Laws.{HonestAnswers, from_nothing}
use Rattle.session_replies.specs.Texts.{block_at, block_named, block_of, is_named, program_report, program_store, program_stored_line}
use Rattle.session_replies.specs.Texts.{program_total, stored_line, unless_too_long}

-- the mark is not written
unmarked_data : (entries : List Solution) → map entry_data entries ≡ map entry_data (map unmarked entries)
unmarked_data [] = refl
unmarked_data (one ∷ entries) = ap (λ others. entry_data one ∷ others) (unmarked_data entries)

module _ (honest_is : HonestIsFromNothing) (loaded : List Solution) (honest : IsHonest loaded) where
  same : (program : Program) → program_summaries loaded program ≡ program_summaries [] program
  same program = (honest_is loaded honest program).0

  same_store : (program : Program) → program_store loaded program ≡ program_store [] program
  same_store program =
      let data_same : map entry_data (bottom_up loaded program) ≡ map entry_data (bottom_up [] program) =
      unmarked_data (bottom_up loaded program) ∙ ap (map entry_data) (honest_is loaded honest program).1
      ∙ sym (unmarked_data (bottom_up [] program)) in
      ap (λ (ds : List Data). with_trailer (compact_text (store_object ds))) data_same

  same_block : (name : List ℕ) (program : Program) → block_named loaded name program ≡ block_named [] name program
  same_block name program = by_place (position (is_named name) program.procs)
    where
      by_place : (o : Option ℕ) → block_at loaded program o ≡ block_at [] program o
      by_place None = refl
      by_place (Some number) =
          ap (λ (summaries : List ProcSummary). block_of program.structs (slice_get program.procs number) (slice_get summaries number))
          (same program)

  same_report : (program : Program) → program_report loaded program ≡ program_report [] program
  same_report program = ap (report_of program.structs program.procs) (same program)

  same_total : (program : Program) → program_total loaded program ≡ program_total [] program
  same_total program = ap total_text (same program)

  same_missing : (before : ℕ) (answer : Result Program Refused) → missing_by loaded before answer ≡ missing_by [] before answer
  same_missing before (Ok program) = ap none_count (same program)
  same_missing before (Err refused) = refl

  same_line : (program : Program) → program_stored_line loaded program ≡ program_stored_line [] program
  same_line program = ap (λ bytes. stored_line (unless_too_long bytes)) (same_store program)

  -- whatever is written of a program
  same_text : (one other : Program → List ℕ) → ((program : Program) → one program ≡ other program) → (answer : Result Program Refused)
      → text_of one answer ≡ text_of other answer
  same_text one other are (Ok program) = are program
  same_text one other are (Err refused) = refl

pub honest_so : HonestIsFromNothing → HonestAnswers
honest_so honest_is present _ _ _ honest Answers.blank = Answers.blank
honest_so honest_is present _ _ _ honest (Answers.put name bytes) = Answers.put name bytes
honest_so honest_is present _ _ _ honest (Answers.put_too_long name size) = Answers.put_too_long name size
honest_so honest_is present _ _ _ honest (Answers.drop_file name) = Answers.drop_file name
honest_so honest_is present _ _ _ honest (Answers.start answer reads) = Answers.start answer reads
honest_so honest_is present _ _ _ honest (Answers.show name answer reads) =
    let loaded = present.setting.loaded in
    subst (λ text. Answers (from_nothing present) (command.Show name) text (from_nothing present))
    (sym (same_text honest_is loaded honest (block_named loaded name) (block_named [] name)
    (same_block honest_is loaded honest name) answer)) (Answers.show name answer reads)
honest_so honest_is present _ _ _ honest (Answers.report answer reads) =
    let loaded = present.setting.loaded in
    subst (λ text. Answers (from_nothing present) command.Report text
    (from_nothing (record present { missing = missing_by loaded present.missing answer })))
    (sym (same_text honest_is loaded honest (program_report loaded) (program_report []) (same_report honest_is loaded honest) answer))
    (subst (λ (missing : ℕ). Answers (from_nothing present) command.Report (text_of (program_report []) answer)
    (from_nothing (record present { missing = missing })))
    (sym (same_missing honest_is loaded honest present.missing answer)) (Answers.report answer reads))
honest_so honest_is present _ _ _ honest (Answers.gen n answer may reads) =
    let loaded = present.setting.loaded in
    subst (λ text. Answers (from_nothing present) (command.Gen n) text
    (from_nothing (record present { files = with_file GENERATED (generated n) present.files })))
    (sym (same_text honest_is loaded honest (program_total loaded) (program_total []) (same_total honest_is loaded honest) answer))
    (Answers.gen n answer may reads)
honest_so honest_is present _ _ _ honest (Answers.gen_refused n code refused) = Answers.gen_refused n code refused
honest_so honest_is present _ _ _ honest (Answers.save answer saves reads) =
    let loaded = present.setting.loaded in
    subst (λ text. Answers (from_nothing present) command.Save text (from_nothing present))
    (sym (same_text honest_is loaded honest (program_stored_line loaded) (program_stored_line [])
    (same_line honest_is loaded honest) answer)) (Answers.save answer saves reads)
honest_so honest_is present _ _ _ honest (Answers.save_nowhere none) = Answers.save_nowhere none
