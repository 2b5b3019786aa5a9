-- Places in a heap, which is kept in rising order of address.
use Rattle.std.specs.Prelude.{◌≡◌, ℕ, ◌<◌, ◌≤◌, ℤ, ◌<ℤ◌, List, length, slice_get}
use Rattle.std.specs.Option.{IsSomeAnd, IfSome}
use Rattle.std.specs.declared.result.Result.{Result}
use Rattle.std.specs.declared.result.Result.TheVariants.{Ok, Err}
use Rattle.shape_data.specs.declared.machine.Cell.{Cell}

-- the cells before a place have lower addresses, and those from it on have higher ones
pub record IsGap (heap : List Cell) (at : ℤ) (place : ℕ) : Type 0 where
  pub within : place ≤ length heap
  pub lower : (k : ℕ) → k < place → IfSome (slice_get heap k) (λ cell. cell.at <ℤ at)
  pub higher : (k : ℕ) → place ≤ k → IfSome (slice_get heap k) (λ cell. at <ℤ cell.at)

-- the place of the cell at an address, or the place at which a cell with it would stand
abbrev pub IsPlace : List Cell → ℤ → Result ℕ ℕ → Type 0
IsPlace heap at (Ok place) = IsSomeAnd (slice_get heap place) (λ cell. cell.at ≡ at)
IsPlace heap at (Err place) = IsGap heap at place
