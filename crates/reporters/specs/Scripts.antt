-- What callers see of a reporter in memory that is told which of its calls fail.
use Rattle.std.specs.Prelude.{ℕ, List}
use Rattle.std.specs.declared.option.Option.{Option}
use Rattle.reporters.specs.declared.reporter.Entry.{Entry}

-- the entries taken, the number of entries at which it stops, the numbers of the calls that fail, how many calls there were, and how many
-- of them failed
pub record ReporterScript : Type 0 where
  pub entries : List Entry
  pub stop_at : Option ℕ
  pub fail_at : List ℕ
  pub calls : ℕ
  pub faults : ℕ
