-- What is known of a reporter.
use Rattle.std.specs.Prelude.{ℕ, ◌==◌, Bool, false, List, [], ◌∷◌, ◌++◌, length, if◌then◌else◌}
use Rattle.std.specs.Option.{option_map}
use Rattle.std.specs.declared.option.Option.{Option}
use Rattle.std.specs.declared.option.Option.TheVariants.{None, Some}
use Rattle.reporters.specs.declared.reporter.Entry.{Entry}
use Rattle.reporters.specs.declared.reporter.Go.{Go}
use Rattle.reporters.specs.declared.reporter.Go.TheVariants.{More, Stop}

-- the entries taken, where it tells them; how many calls failed; whether it takes each entry and never stops; the number of entries at
-- which it stops, if there is one
pub record Known : Type 0 where
  pub taken : Option (List Entry)
  pub faults : ℕ
  pub steady : Bool
  pub stop : Option ℕ

-- the entries taken, and then one more; not told where those taken are not told
abbrev pub after_taken : Option (List Entry) → Entry → Option (List Entry)
after_taken taken entry = option_map (λ entries. entries ++ entry ∷ []) taken

-- the entries are as many as the number
abbrev pub is_reached : Option ℕ → Option (List Entry) → Bool
is_reached None taken = false
is_reached (Some number) None = false
is_reached (Some number) (Some entries) = length entries == number

-- whether more are wanted, by the number at which it stops and the entries taken
abbrev pub go_at : Option ℕ → Option (List Entry) → Go
go_at stop taken = if is_reached stop taken then Stop else More
