-- What cases of a command say of locals and heaps, in strict execution.
use Rattle.std.specs.Prelude.{◌≡◌, ◌⊎◌, ℕ, ℤ, List, [], ◌∷◌}
use Rattle.shape_data.specs.declared.answer.Callee.{Callee}
use Rattle.shape_data.specs.declared.machine.Cell.{Cell}
use Rattle.shape_data.specs.declared.program.Cmd.{Cmd}
use Rattle.shape_data.specs.declared.program.Program.{Program}
use Rattle.shape_data.specs.declared.program.StructDef.{StructDef}
use Rattle.shape_data.specs.Meaning.{MeetsState}
use Rattle.sound_laws.specs.Commands.{Does}
use Rattle.exec_laws.specs.declared.parts.Case.{Case}
use Rattle.exec_laws.specs.declared.parts.Case.TheVariants.{On, Leaves, Drops}
use Rattle.exec_laws.specs.declared.parts.Exposed.{Exposed}
use Rattle.exec_laws.specs.declared.parts.Exposed.TheVariants.{Shown, Lacking}

-- P holds of one of the list
abbrev pub SomeOf : {A : Type 0} → (A → Type 0) → List A → Type 0
SomeOf P [] = ⊥
SomeOf P (x ∷ xs) = P x ⊎ SomeOf P xs

-- locals and a heap meet the case; without a cell nothing is said
abbrev pub IsExposed : List StructDef → (ℕ → ℤ) → List ℤ → List Cell → Exposed → Type 0
IsExposed structs s locals heap (Shown pair) = MeetsState structs s locals heap pair.state
IsExposed structs s locals heap (Lacking cause) = Unit {0}

-- the case goes on at the node, and locals and a heap meet it
abbrev pub GoesOn : List StructDef → (ℕ → ℤ) → ℕ → List ℤ → List Cell → Case → Type 0
GoesOn structs s next locals heap (On node pair) = (node ≡ next) × MeetsState structs s locals heap pair.state
GoesOn structs s next locals heap (Leaves pair) = ⊥
GoesOn structs s next locals heap (Drops cause) = ⊥

-- the case leaves the procedure, and a result and a heap meet it
abbrev pub HasLeft : List StructDef → (ℕ → ℤ) → ℤ → List Cell → Case → Type 0
HasLeft structs s value heap (On node pair) = ⊥
HasLeft structs s value heap (Leaves pair) = MeetsState structs s (value ∷ []) heap pair.state
HasLeft structs s value heap (Drops cause) = ⊥

-- the case is dropped
abbrev pub IsDropped : Case → Type 0
IsDropped (On node pair) = ⊥
IsDropped (Leaves pair) = ⊥
IsDropped (Drops cause) = Unit {0}

-- the cases cover the command, from locals and a heap: one of them is dropped, or the command leads to where one of them goes on or leaves
abbrev pub Cover : Program → List Callee → (ℕ → ℤ) → List ℤ → List Cell → Cmd → List Case → Type 0
Cover program callees s locals heap command cases =
    SomeOf IsDropped cases
    ⊎ Does program callees (λ next locals heap. SomeOf (GoesOn program.structs s next locals heap) cases)
    (λ value heap. SomeOf (HasLeft program.structs s value heap) cases) locals heap command
