-- What is known of a program's procedures is true of them.
use Rattle.std.specs.Prelude.{◌≡◌, ℕ, false, List, [], length, map, slice_get, All}
use Rattle.std.specs.declared.option.Option.TheVariants.{Some}
use Rattle.shape_data.specs.declared.answer.Answer.{Answer}
use Rattle.shape_data.specs.declared.answer.Key.{Key}
use Rattle.shape_data.specs.declared.answer.ProcSummary.{ProcSummary}
use Rattle.shape_data.specs.declared.program.Proc.{Proc}
use Rattle.shape_data.specs.declared.program.Program.{Program}
use Rattle.shape_data.specs.Valid.{Valid}
use Rattle.shape_data.specs.WellFormed.{HasReason, IsAnswer, IsKey, IsProgram, IsSummary}
use Rattle.solve_laws.specs.Certificates.Inductive.{Inductive}
use Rattle.solve_laws.specs.Certificates.Limits.{analysable}
use Rattle.claim_core.specs.Views.{Solution}
use Rattle.solve_laws.specs.Solving.{solve}
use Rattle.loaded_answers.specs.Lookup.{lookup}
use Rattle.bottom_up.specs.BottomUp.{bottom_up, known_by, program_summaries, summaries_for}

-- the summary of the procedure of a number: it is well formed over the program's structures, with at most 96 parts in each heap, has a
-- spec or says why it has none, and each of its specs is valid
pub record IsReported (program : Program) (number : ℕ) (proc : Proc) (summary : ProcSummary) : Type 0 where
  pub formed : IsSummary analysable program.structs proc.flow summary
  pub reason : HasReason summary
  pub valid : All (Valid program number) summary.specs

-- there is one for each procedure
abbrev pub AreReported : Program → List ProcSummary → Type 0
AreReported program summaries =
    (length summaries ≡ length program.procs)
    × ((number : ℕ) (proc : Proc) (summary : ProcSummary) → slice_get program.procs number ≡ Some proc →
    slice_get summaries number ≡ Some summary →
    IsReported program number proc summary)

-- SOLVED OR LOADED

-- such answers are right for their keys: inductive, well formed, with a reason where there is no spec
pub record AreRight (answer_of : Key → Answer) : Type 0 where
  pub inductive : (key : Key) → IsKey analysable key → Inductive key (answer_of key)
  pub formed : (key : Key) → IsKey analysable key → IsAnswer analysable key (answer_of key)
  pub reasons : (key : Key) → IsKey analysable key → All HasReason (answer_of key).procs

-- wherever the answers that keys are given are right, each procedure is reported
abbrev pub RightAreReported : Type 0
RightAreReported =
    (answer_of : Key → Answer) → AreRight answer_of → (program : Program) → IsProgram program →
    AreReported program (summaries_for (known_by answer_of program) program.procs)

-- an entry's answer is right for its key
pub record IsRight (one : Solution) : Type 0 where
  pub inductive : Inductive one.key one.answer
  pub formed : IsAnswer analysable one.key one.answer
  pub reasons : All HasReason one.answer.procs

-- over right entries what is looked up is right
abbrev pub LookedUpAreRight : Type 0
LookedUpAreRight = (loaded : List Solution) → All IsRight loaded → AreRight (lookup solve loaded)

-- so over right entries each procedure of a well-formed program is reported, and over none at all, where each key is solved
abbrev pub EachIsReported : Type 0
EachIsReported =
    (loaded : List Solution) → All IsRight loaded → (program : Program) → IsProgram program →
    AreReported program (program_summaries loaded program)

-- HONEST ENTRIES

-- each answer is what solving its key gives, but for the mark of a stored answer
abbrev pub IsHonest : List Solution → Type 0
IsHonest loaded = All (λ (one : Solution). one.answer.procs ≡ (solve one.key).procs) loaded

-- an entry without the mark
abbrev pub unmarked : Solution → Solution
unmarked one = record { key = one.key; answer = record { stored = false; procs = one.answer.procs } }

-- over honest entries the same is known as from nothing, but for the marks
abbrev pub HonestIsFromNothing : Type 0
HonestIsFromNothing =
    (loaded : List Solution) → IsHonest loaded → (program : Program) →
    (program_summaries loaded program ≡ program_summaries [] program)
    × (map unmarked (bottom_up loaded program) ≡ map unmarked (bottom_up [] program))
