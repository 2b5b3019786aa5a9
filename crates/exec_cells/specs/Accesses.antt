-- What a command does with a cell, as the code has it.
use Rattle.std.specs.Prelude.{ℕ, List}
use Rattle.std.specs.declared.option.Option.{Option}
use Rattle.std.specs.declared.result.Result.{Result}
use Rattle.std.specs.declared.result.Result.TheVariants.{Ok, Err}
use Rattle.shape_data.specs.declared.answer.Fault.{Fault}
use Rattle.shape_data.specs.declared.symbolic.Atom.{Atom}
use Rattle.shape_data.specs.declared.symbolic.Exp.{Exp}
use Rattle.sym_canon.specs.declared.parts.Pair.{Pair}
use Rattle.exec_laws.specs.declared.parts.Case.{Case}
use Rattle.exec_laws.specs.declared.parts.Case.TheVariants.{Drops}
use Rattle.exec_laws.specs.Cells.{load_cell, store_cell, without_cell}
use Rattle.exec_cells.specs.declared.cells.Access.{Access}
use Rattle.exec_cells.specs.declared.cells.Access.TheVariants as access
use Rattle.exec_cells.specs.declared.cells.CellFields.{CellFields}

-- what comes of a cell at what the base slot holds
abbrev pub use_of : Access → ℕ → ℕ → Pair → ℕ → Option Atom → Case
use_of (access.Load to kind field) base next = load_cell to base kind.now field next
use_of (access.Store kind field from) base next = store_cell base kind.now field from next
use_of access.Free base next = without_cell next

-- what comes of the fields that were found, or of none
abbrev pub with_found : (Exp → List Exp → Case) → Result CellFields Fault → Case
with_found use_fields (Ok found) = use_fields found.at found.fields.now
with_found use_fields (Err cause) = Drops cause
