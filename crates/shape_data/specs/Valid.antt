-- Valid triples: when a spec is right of a procedure.
use Rattle.std.specs.Prelude.{ℕ, ◌+◌, ℤ, List, [], ◌∷◌, slice_get}
use Rattle.std.specs.Option.{IsSomeAnd}
use Rattle.shape_data.specs.declared.machine.Cell.{Cell}
use Rattle.shape_data.specs.declared.machine.Choice.{Choice}
use Rattle.shape_data.specs.declared.machine.Outcome.{Outcome}
use Rattle.shape_data.specs.declared.machine.Outcome.TheVariants as outcome
use Rattle.shape_data.specs.declared.program.Proc.{Proc}
use Rattle.shape_data.specs.declared.program.Program.{Program}
use Rattle.shape_data.specs.declared.program.StructDef.{StructDef}
use Rattle.shape_data.specs.declared.symbolic.Post.{Post}
use Rattle.shape_data.specs.declared.symbolic.Spec.{Spec}
use Rattle.shape_data.specs.Heap.{IsSum}
use Rattle.shape_data.specs.Machine.{run, start}
use Rattle.shape_data.specs.Meaning.{Meets, MeetsOne}

-- the values of the variables from k on, one for each parameter
abbrev pub values_from : {A : Type 0} → (ℕ → ℤ) → ℕ → List A → List ℤ
values_from s k [] = []
values_from s k (param ∷ params) = s k ∷ values_from s (k + 1) params

-- the run has not ended in a fault; and where it returned, the heap is a footprint that meets one of the posts with the
-- result, beside the very same frame
abbrev pub Satisfies : List StructDef → (ℕ → ℤ) → List Cell → List Post → Outcome → Type 0
Satisfies structs s frame posts (outcome.Running config) = Unit {0}
Satisfies structs s frame posts (outcome.Returned value heap) =
    (footprint : List Cell) × IsSum structs heap footprint frame × MeetsOne structs s value footprint posts
Satisfies structs s frame posts (outcome.Fault line cause) = ⊥
Satisfies structs s frame posts (outcome.BadChoice index) = Unit {0}

-- from each footprint that meets the precondition, beside any frame and under any choices, the run of the procedure
-- satisfies the posts
abbrev pub ValidFor : Program → ℕ → Proc → Spec → Type 0
ValidFor program number proc spec =
    (s : ℕ → ℤ) (footprint frame whole : List Cell) → Meets program.structs s footprint spec.pre →
    IsSum program.structs whole footprint frame →
    (choices : List Choice) →
    Satisfies program.structs s frame spec.posts (run program (start proc.flow number (values_from s 0 proc.flow.params) whole) choices)

-- the spec is valid for the program's procedure of this number
abbrev pub Valid : Program → ℕ → Spec → Type 0
Valid program number spec = IsSomeAnd (slice_get program.procs number) (λ proc. ValidFor program number proc spec)
