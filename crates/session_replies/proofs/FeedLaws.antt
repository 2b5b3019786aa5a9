-- Which entries are fed behind a command is decided, since files are a program or refused, and only one of these.
use Rattle.std.proofs.Common.{◌≡◌, List, Result, Ok, Err, refl, ap}
use Rattle.reporters.specs.declared.reporter.Entry.{Entry}
use Rattle.shape_data.specs.declared.program.Program.{Program}
use Rattle.session_lines.specs.declared.command.Command.TheVariants as command
use Rattle.project_form.specs.declared.fault.Refused.{Refused}
use Rattle.project_form.specs.Laws.{HaveAnswer, HaveOneAnswer}
use Rattle.project_form.specs.Reads.{Reads}
use Rattle.session_replies.specs.Answers.{Present}
use Rattle.session_replies.specs.Entries.{Feeds, program_entries}
use Rattle.session_replies.specs.Laws.{OneFeed, SomeFeed}

module _ (one_reading : HaveOneAnswer) where
  never : (present : Present) (program : Program) (refused : Refused) → Reads present.files (Ok program) → Reads present.files (Err refused)
      → {A : Type 0} → A
  never present program refused reads refuses =
      let clash : Ok program ≡ Err refused = one_reading present.files (Ok program) (Err refused) reads refuses in absurd cc

  pub fed_once : OneFeed
  fed_once present _ _ _ (Feeds.report program reads) (Feeds.report other reads') =
      let same : Ok program ≡ Ok other = one_reading present.files (Ok program) (Ok other) reads reads' in
      let alike : program ≡ other = cc in
      ap (program_entries present.setting.loaded) alike
  fed_once present _ _ _ (Feeds.report program reads) (Feeds.report_refused refused refuses) = never present program refused reads refuses
  fed_once present _ _ _ (Feeds.report program reads) (Feeds.other _ other) = absurd (other refl)
  fed_once present _ _ _ (Feeds.report_refused refused refuses) (Feeds.report program reads) = never present program refused reads refuses
  fed_once present _ _ _ (Feeds.report_refused refused refuses) (Feeds.report_refused _ _) = refl
  fed_once present _ _ _ (Feeds.report_refused refused refuses) (Feeds.other _ other) = absurd (other refl)
  fed_once present _ _ _ (Feeds.other asked other) (Feeds.report program reads) = absurd (other refl)
  fed_once present _ _ _ (Feeds.other asked other) (Feeds.report_refused refused refuses) = absurd (other refl)
  fed_once present _ _ _ (Feeds.other asked other) (Feeds.other _ _) = refl

module _ (some_reading : HaveAnswer) where
  report_feeds : (present : Present) (answer : Result Program Refused) → Reads present.files answer
      → (entries : List Entry) × Feeds present command.Report entries
  report_feeds present (Ok program) reads = (program_entries present.setting.loaded program, Feeds.report program reads)
  report_feeds present (Err refused) refuses = (_, Feeds.report_refused refused refuses)

  pub fed_some : SomeFeed
  fed_some present command.Report = let own = some_reading present.files in report_feeds present own.0 own.1
  fed_some present command.Blank = (_, Feeds.other command.Blank (λ is. cc))
  fed_some present (command.Put name bytes) = (_, Feeds.other (command.Put name bytes) (λ is. cc))
  fed_some present (command.PutTooLong name size) = (_, Feeds.other (command.PutTooLong name size) (λ is. cc))
  fed_some present (command.DropFile name) = (_, Feeds.other (command.DropFile name) (λ is. cc))
  fed_some present command.Start = (_, Feeds.other command.Start (λ is. cc))
  fed_some present (command.Show name) = (_, Feeds.other (command.Show name) (λ is. cc))
  fed_some present (command.Gen n) = (_, Feeds.other (command.Gen n) (λ is. cc))
  fed_some present command.Save = (_, Feeds.other command.Save (λ is. cc))
  fed_some present command.Quit = (_, Feeds.other command.Quit (λ is. cc))
