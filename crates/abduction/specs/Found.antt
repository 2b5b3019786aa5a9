-- What an abduction says of what it found.
use Rattle.std.specs.Prelude.{◌≡◌, ℕ, ℤ, true, List, All}
use Rattle.shape_data.specs.declared.machine.Cell.{Cell}
use Rattle.shape_data.specs.declared.program.StructDef.{StructDef}
use Rattle.shape_data.specs.declared.symbolic.Exp.{Exp}
use Rattle.shape_data.specs.declared.symbolic.SymHeap.{SymHeap}
use Rattle.shape_data.specs.Meaning.{Holds}
use Rattle.sym_parts.specs.Shapes.Symbolic.{beside}
use Rattle.sym_parts.specs.Laws.Each.{EachInHeap}
use Rattle.sym_matching.specs.declared.matching.Abd.{Abd}
use Rattle.sym_matching.specs.declared.matching.Abd.TheVariants.{Found, NoMatch}
use Rattle.sym_matching.specs.Laws.{FitsAtom, GivesBeside}
use Rattle.sym_matching.specs.Reading.{is_logical}

-- what is missing speaks of logical variables and constants alone
abbrev pub IsLogical : Abd → Type 0
IsLogical (Found missing frame binding) = EachInHeap (λ e. is_logical e ≡ true) missing
IsLogical (NoMatch wanted) = Unit {0}

-- what holds a beside the missing part is a sum of one that holds the bound b and one that holds the frame, where b's cells have the
-- fields of their structures; what was bound stays so
abbrev pub SplitsBeside : SymHeap → SymHeap → List (ℕ × Exp) → List ℕ → List ℕ → Abd → Type 0
SplitsBeside a b bound flexible avoid (Found missing frame binding) =
    (structs : List StructDef) → All (FitsAtom structs) b.spatial → (s : ℕ → ℤ) (heap : List Cell) →
    Holds structs s heap (beside a missing) →
    GivesBeside structs s heap (beside a missing) b bound flexible avoid binding frame
SplitsBeside a b bound flexible avoid (NoMatch wanted) = Unit {0}
