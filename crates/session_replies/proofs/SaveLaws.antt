-- Which bytes a store has behind a command is decided, since files are a program or refused, and only one of these.
use Rattle.std.proofs.Common.{◌≡◌, ℕ, Bool, true, false, List, Option, Result, Ok, Err, refl, sym, ap, ◌∙◌}
use Rattle.shape_data.specs.declared.program.Program.{Program}
use Rattle.session_lines.specs.declared.command.Command.TheVariants as command
use Rattle.project_form.specs.declared.fault.Refused.{Refused}
use Rattle.project_form.specs.Laws.{HaveAnswer, HaveOneAnswer}
use Rattle.project_form.specs.Reads.{Reads}
use Rattle.session_replies.specs.Answers.{Present}
use Rattle.session_replies.specs.Laws.{OneSaving, SomeSaving}
use Rattle.session_replies.specs.Saves.{Saves}
use Rattle.session_replies.specs.Texts.{stored_program}

never : (present : Present) → present.setting.saves ≡ true → present.setting.saves ≡ false → {A : Type 0} → A
never present saves none = let clash : true ≡ false = sym saves ∙ none in absurd cc

module _ (one_reading : HaveOneAnswer) where
  apart : (present : Present) (program : Program) (refused : Refused) → Reads present.files (Ok program) → Reads present.files (Err refused)
      → {A : Type 0} → A
  apart present program refused reads refuses =
      let clash : Ok program ≡ Err refused = one_reading present.files (Ok program) (Err refused) reads refuses in absurd cc

  pub saved_once : OneSaving
  saved_once present _ _ _ (Saves.save program saves reads) (Saves.save other saves' reads') =
      let same : Ok program ≡ Ok other = one_reading present.files (Ok program) (Ok other) reads reads' in
      let alike : program ≡ other = cc in
      ap (stored_program present.setting.loaded) alike
  saved_once present _ _ _ (Saves.save program saves reads) (Saves.save_refused refused saves' refuses) =
      apart present program refused reads refuses
  saved_once present _ _ _ (Saves.save program saves reads) (Saves.save_nowhere none) = never present saves none
  saved_once present _ _ _ (Saves.save program saves reads) (Saves.other _ other) = absurd (other refl)
  saved_once present _ _ _ (Saves.save_refused refused saves refuses) (Saves.save program saves' reads) =
      apart present program refused reads refuses
  saved_once present _ _ _ (Saves.save_refused refused saves refuses) (Saves.save_refused _ _ _) = refl
  saved_once present _ _ _ (Saves.save_refused refused saves refuses) (Saves.save_nowhere none) = refl
  saved_once present _ _ _ (Saves.save_refused refused saves refuses) (Saves.other _ other) = absurd (other refl)
  saved_once present _ _ _ (Saves.save_nowhere none) (Saves.save program saves reads) = never present saves none
  saved_once present _ _ _ (Saves.save_nowhere none) (Saves.save_refused refused saves refuses) = refl
  saved_once present _ _ _ (Saves.save_nowhere none) (Saves.save_nowhere _) = refl
  saved_once present _ _ _ (Saves.save_nowhere none) (Saves.other _ other) = absurd (other refl)
  saved_once present _ _ _ (Saves.other asked other) (Saves.save program saves reads) = absurd (other refl)
  saved_once present _ _ _ (Saves.other asked other) (Saves.save_refused refused saves refuses) = absurd (other refl)
  saved_once present _ _ _ (Saves.other asked other) (Saves.save_nowhere none) = absurd (other refl)
  saved_once present _ _ _ (Saves.other asked other) (Saves.other _ _) = refl

module _ (some_reading : HaveAnswer) where
  saving : (present : Present) (saves : Bool) → present.setting.saves ≡ saves → (answer : Result Program Refused)
      → Reads present.files answer → (saved : Option (List ℕ)) × Saves present command.Save saved
  saving present false none answer reads = (_, Saves.save_nowhere none)
  saving present true saves (Ok program) reads = (_, Saves.save program saves reads)
  saving present true saves (Err refused) refuses = (_, Saves.save_refused refused saves refuses)

  pub saved_some : SomeSaving
  saved_some present command.Save = let own = some_reading present.files in saving present present.setting.saves refl own.0 own.1
  saved_some present command.Report = (_, Saves.other command.Report (λ is. cc))
  saved_some present command.Blank = (_, Saves.other command.Blank (λ is. cc))
  saved_some present (command.Put name bytes) = (_, Saves.other (command.Put name bytes) (λ is. cc))
  saved_some present (command.PutTooLong name size) = (_, Saves.other (command.PutTooLong name size) (λ is. cc))
  saved_some present (command.DropFile name) = (_, Saves.other (command.DropFile name) (λ is. cc))
  saved_some present command.Start = (_, Saves.other command.Start (λ is. cc))
  saved_some present (command.Show name) = (_, Saves.other (command.Show name) (λ is. cc))
  saved_some present (command.Gen n) = (_, Saves.other (command.Gen n) (λ is. cc))
  saved_some present command.Quit = (_, Saves.other command.Quit (λ is. cc))
