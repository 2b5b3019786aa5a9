-- What it comes to to look for the structure of a kind at an address, before the command that looks says what it does with it.
use Rattle.std.specs.Prelude.{◌≡◌, ℕ, ◌<◌, ℤ, List, length, slice_get}
use Rattle.std.specs.Option.{IfSome, IsSomeAnd}
use Rattle.std.specs.declared.result.Result.{Result}
use Rattle.std.specs.declared.result.Result.TheVariants.{Ok, Err}
use Rattle.shape_data.specs.declared.answer.Fault.{Fault}
use Rattle.shape_data.specs.declared.machine.Cell.{Cell}
use Rattle.shape_data.specs.declared.machine.Stepped.{Stepped}
use Rattle.shape_data.specs.declared.machine.Stepped.TheVariants as stepped
use Rattle.shape_data.specs.Machine.{at_cell}

-- the cell is what an access to the structure at the address uses
pub record IsUsed (heap : List Cell) (at : ℤ) (kind : List ℕ) (cell : Cell) : Type 0 where
  pub address : cell.at ≡ at
  pub kind_is : cell.kind ≡ kind
  pub used : (line : ℕ) (use_cell : Cell → Stepped) → at_cell heap at kind line use_cell ≡ use_cell cell

-- an access finds the place of the cell that it uses, or is a fault
abbrev pub IsAccess : List Cell → ℤ → List ℕ → Result ℕ Fault → Type 0
IsAccess heap at kind (Ok place) = IsSomeAnd (slice_get heap place) (IsUsed heap at kind)
IsAccess heap at kind (Err cause) = (line : ℕ) (use_cell : Cell → Stepped) → at_cell heap at kind line use_cell ≡ stepped.Fault line cause

-- each structure of the kind has the field
abbrev pub HaveField : List Cell → List ℕ → ℕ → Type 0
HaveField heap kind field = (place : ℕ) → IfSome (slice_get heap place) (λ cell. cell.kind ≡ kind → field < length cell.fields)
