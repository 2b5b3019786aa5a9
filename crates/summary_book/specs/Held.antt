-- Outstanding claims by their numbers.
use Rattle.std.specs.Prelude.{◌≡◌, ℕ, List, slice_get}
use Rattle.std.specs.declared.option.Option.TheVariants.{Some}
use Rattle.summary_book.specs.declared.rows.OutRow.{OutRow}

-- where one has the number, one with the number stands at the place
abbrev pub IsPlaceOf : ℕ → List OutRow → ℕ → Type 0
IsPlaceOf number rows place = (k : ℕ) (row : OutRow) → slice_get rows k ≡ Some row → row.number ≡ number
    → (found : OutRow) × (slice_get rows place ≡ Some found) × (found.number ≡ number)
