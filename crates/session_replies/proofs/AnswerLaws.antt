-- A command has an answer, and has it once, since files are a program or refused, and only one of these.
use Rattle.std.proofs.Common.{◌≡◌, ℕ, Bool, true, false, List, Option, Some, None, refl, sym, ap, ◌∙◌}
use Rattle.session_generator.specs.Generated.{generated}
use Rattle.session_lines.specs.declared.command.Command.{Command}
use Rattle.session_lines.specs.declared.command.Command.TheVariants as command
use Rattle.project_form.specs.Files.{AreFiles, SourceFile, put_refusal, with_file}
use Rattle.project_form.specs.Laws.{HaveAnswer, HaveOneAnswer, KeepLimits}
use Rattle.session_replies.specs.Answers.{Answers, GENERATED, IsAnswered, Present, missing_by, text_of, unless_refused}
use Rattle.session_replies.specs.Laws.{AnswersKeepSetting}
use Rattle.session_replies.specs.Texts.{block_named, error_line, ok_line, program_report, program_stored_line, program_total}

module _ (one_reading : HaveOneAnswer) where
  pub once : (present one other : Present) (asked : Command) (text text' : List ℕ) → Answers present asked text one
      → Answers present asked text' other → (text ≡ text') × (one ≡ other)
  once present _ _ _ _ _ Answers.blank Answers.blank = (refl, refl)
  once present _ _ _ _ _ (Answers.put name bytes) (Answers.put _ _) = (refl, refl)
  once present _ _ _ _ _ (Answers.put_too_long name size) (Answers.put_too_long _ _) = (refl, refl)
  once present _ _ _ _ _ (Answers.drop_file name) (Answers.drop_file _) = (refl, refl)
  once present _ _ _ _ _ (Answers.start answer is) (Answers.start answer' is') =
      (ap (text_of (λ program. ok_line)) (one_reading present.files answer answer' is is'), refl)
  once present _ _ _ _ _ (Answers.show name answer is) (Answers.show _ answer' is') =
      (ap (text_of (block_named present.setting.loaded name)) (one_reading present.files answer answer' is is'), refl)
  once present _ _ _ _ _ (Answers.report answer is) (Answers.report answer' is') =
      let same = one_reading present.files answer answer' is is' in (
        ap (text_of (program_report present.setting.loaded)) same,
        ap
            (λ found. record present { missing = missing_by present.setting.loaded present.missing found }) same,
      )
  once present _ _ _ _ _ (Answers.gen n answer may is) (Answers.gen _ answer' may' is') = (
    ap (text_of (program_total present.setting.loaded))
        (one_reading (with_file GENERATED (generated n) present.files) answer answer' is is'),
    refl,
  )
  once present _ _ _ _ _ (Answers.gen n answer may is) (Answers.gen_refused _ code refused) =
      let clash : None ≡ Some code = sym may ∙ refused in absurd cc
  once present _ _ _ _ _ (Answers.gen_refused n code refused) (Answers.gen _ answer may is) =
      let clash : None ≡ Some code = sym may ∙ refused in absurd cc
  once present _ _ _ _ _ (Answers.gen_refused n code refused) (Answers.gen_refused _ code' refused') =
      let same : Some code ≡ Some code' = sym refused ∙ refused' in
      let alike : code ≡ code' = cc in
      (ap error_line alike, refl)
  once present _ _ _ _ _ (Answers.save answer saves is) (Answers.save answer' saves' is') =
      (ap (text_of (program_stored_line present.setting.loaded)) (one_reading present.files answer answer' is is'), refl)
  once present _ _ _ _ _ (Answers.save answer saves is) (Answers.save_nowhere none) =
      let clash : true ≡ false = sym saves ∙ none in absurd cc
  once present _ _ _ _ _ (Answers.save_nowhere none) (Answers.save answer saves is) =
      let clash : true ≡ false = sym saves ∙ none in absurd cc
  once present _ _ _ _ _ (Answers.save_nowhere none) (Answers.save_nowhere none') = (refl, refl)

module _ (some_reading : HaveAnswer) where
  pub some : (present : Present) (asked : Command) → IsAnswered asked
      → (text : List ℕ) × (after : Present) × Answers present asked text after
  some present command.Blank is = (_, _, Answers.blank)
  some present (command.Put name bytes) is = (_, _, Answers.put name bytes)
  some present (command.PutTooLong name size) is = (_, _, Answers.put_too_long name size)
  some present (command.DropFile name) is = (_, _, Answers.drop_file name)
  some present command.Start is = let (answer, reads) = some_reading present.files in (_, _, Answers.start answer reads)
  some present (command.Show name) is = let (answer, reads) = some_reading present.files in (_, _, Answers.show name answer reads)
  some present command.Report is = let (answer, reads) = some_reading present.files in (_, _, Answers.report answer reads)
  some present (command.Gen n) is = by_refusal (put_refusal GENERATED (generated n) present.files) refl
    where
      by_refusal : (refusal : Option ℕ) → put_refusal GENERATED (generated n) present.files ≡ refusal
          → (text : List ℕ) × (after : Present) × Answers present (command.Gen n) text after
      by_refusal None may =
          let (answer, reads) = some_reading (with_file GENERATED (generated n) present.files) in (_, _, Answers.gen n answer may reads)
      by_refusal (Some code) refused = (_, _, Answers.gen_refused n code refused)
  some present command.Save is = by_saves present.setting.saves refl
    where
      by_saves : (saves : Bool) → present.setting.saves ≡ saves
          → (text : List ℕ) × (after : Present) × Answers present command.Save text after
      by_saves true saves = let (answer, reads) = some_reading present.files in (_, _, Answers.save answer saves reads)
      by_saves false none = (_, _, Answers.save_nowhere none)
  some present command.Quit is = absurd is

module _ (limits : KeepLimits) where
  put_keeps : (name bytes : List ℕ) (files : List SourceFile) (refusal : Option ℕ) → put_refusal name bytes files ≡ refusal → AreFiles files
      → AreFiles (unless_refused refusal (with_file name bytes files) files)
  put_keeps name bytes files None is are = limits.put name bytes files are is
  put_keeps name bytes files (Some code) is are = are

  pub keeps : (present after : Present) (asked : Command) (text : List ℕ) → AreFiles present.files → Answers present asked text after
      → AreFiles after.files
  keeps present _ _ _ are Answers.blank = are
  keeps present _ _ _ are (Answers.put name bytes) = put_keeps name bytes present.files (put_refusal name bytes present.files) refl are
  keeps present _ _ _ are (Answers.put_too_long name size) = are
  keeps present _ _ _ are (Answers.drop_file name) = limits.dropped name present.files are
  keeps present _ _ _ are (Answers.start answer is) = are
  keeps present _ _ _ are (Answers.show name answer is) = are
  keeps present _ _ _ are (Answers.report answer is) = are
  keeps present _ _ _ are (Answers.gen n answer may is) = limits.put GENERATED (generated n) present.files are may
  keeps present _ _ _ are (Answers.gen_refused n code refused) = are
  keeps present _ _ _ are (Answers.save answer saves is) = are
  keeps present _ _ _ are (Answers.save_nowhere none) = are

-- what the session began with stays
pub keeps_setting : AnswersKeepSetting
keeps_setting present _ _ _ Answers.blank = refl
keeps_setting present _ _ _ (Answers.put name bytes) = refl
keeps_setting present _ _ _ (Answers.put_too_long name size) = refl
keeps_setting present _ _ _ (Answers.drop_file name) = refl
keeps_setting present _ _ _ (Answers.start answer is) = refl
keeps_setting present _ _ _ (Answers.show name answer is) = refl
keeps_setting present _ _ _ (Answers.report answer is) = refl
keeps_setting present _ _ _ (Answers.gen n answer may is) = refl
keeps_setting present _ _ _ (Answers.gen_refused n code refused) = refl
keeps_setting present _ _ _ (Answers.save answer saves is) = refl
keeps_setting present _ _ _ (Answers.save_nowhere none) = refl
