-- What holds of every answer that solving gives, and of what stands on the way to it.
use Rattle.std.specs.Prelude.{◌≤◌, Bool, List, [], length, All}
use Rattle.shape_data.specs.declared.answer.Key.{Key}
use Rattle.shape_data.specs.declared.answer.ProcSummary.{ProcSummary}
use Rattle.shape_data.specs.declared.symbolic.Spec.{Spec}
use Rattle.shape_data.specs.WellFormed.{HasReason, IsAnswer, IsKey}
use Rattle.solve_laws.specs.Certificates.Inductive.{Inductive}
use Rattle.solve_laws.specs.Certificates.Limits.{analysable}
use Rattle.solve_laws.specs.Annotation.Laws.{IsSmallCert}
use Rattle.solve_laws.specs.Candidates.Searching.{MOST_CANDIDATES}
use Rattle.solve_laws.specs.declared.parts.Attempt.{Attempt}
use Rattle.solve_laws.specs.Attempts.{specs_of}
use Rattle.solve_laws.specs.Solving.{attempts_under, no_specs, pass, solve, strictly}
use Rattle.solve_laws.specs.Standing.{AreFormed, AreOwnSpecs, AreTasks}
use Rattle.solve_laws.specs.Tables.{table_with}

-- the answer of a well-formed key is inductive for it
abbrev pub SolvedIsInductive : Type 0
SolvedIsInductive = (key : Key) → IsKey analysable key → Inductive key (solve key)

-- it is well formed, with at most 96 parts in each heap
abbrev pub SolvedIsWellFormed : Type 0
SolvedIsWellFormed = (key : Key) → IsKey analysable key → IsAnswer analysable key (solve key)

-- a summary has at most eight specs, and small certificates
pub record IsSmallSummary (summary : ProcSummary) : Type 0 where
  pub specs : length summary.specs ≤ MOST_CANDIDATES
  pub certs : All IsSmallCert summary.certs

abbrev pub SolvedIsFew : Type 0
SolvedIsFew = (key : Key) → All IsSmallSummary (solve key).procs

-- a procedure without a spec has a reason
abbrev pub SolvedHasReasons : Type 0
SolvedHasReasons = (key : Key) → All HasReason (solve key).procs

-- ON THE WAY

-- the specs are well formed, and few, for each procedure of the key that has some
abbrev pub FitKey : Key → List (List Spec) → Type 0
FitKey key specs = AreOwnSpecs key.structs key.procs specs

-- no specs at all, none for each procedure, and what stands, are such
pub record SpecsFitKey (key : Key) : Type 0 where
  pub none : FitKey key []
  pub empty : FitKey key (no_specs key)
  pub standing : (attempts : List Attempt) → AreFormed key attempts → FitKey key (specs_of attempts)

abbrev pub SpecsFitKeys : Type 0
SpecsFitKeys = (key : Key) → SpecsFitKey key

-- with such specs for its own procedures, the analysis of each procedure of a well-formed key is well formed
abbrev pub TasksAreWellFormed : Type 0
TasksAreWellFormed = (key : Key) (specs : List (List Spec)) (cut : Bool) → IsKey analysable key → FitKey key specs
    → AreTasks key (table_with key specs cut)

-- and so is what stands of each
abbrev pub StandingIsWellFormed : Type 0
StandingIsWellFormed =
    (key : Key) (specs : List (List Spec)) (cut : Bool) → IsKey analysable key → FitKey key specs
    → AreFormed key (attempts_under key (table_with key specs cut))

-- what stands when it is annotated strictly, or when some of it is dropped, is well formed
abbrev pub StandingStaysWellFormed : Type 0
StandingStaysWellFormed =
    (key : Key) (attempts : List Attempt) → IsKey analysable key → AreFormed key attempts
    → AreFormed key (strictly key attempts) × AreFormed key (pass key attempts)
