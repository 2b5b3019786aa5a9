-- What holds of the specs and certificates that stand, and of the tables while a component is solved.
use Rattle.std.specs.Prelude.{◌≤◌, List, [], ◌∷◌, length, All}
use Rattle.std.specs.List.{AllByRecursion, AllZip}
use Rattle.shape_data.specs.declared.answer.Key.{Key}
use Rattle.shape_data.specs.declared.program.Flow.{Flow}
use Rattle.shape_data.specs.declared.program.StructDef.{StructDef}
use Rattle.shape_data.specs.declared.symbolic.Cert.{Cert}
use Rattle.shape_data.specs.declared.symbolic.Spec.{Spec}
use Rattle.shape_data.specs.WellFormed.{IsCert, IsSpec}
use Rattle.exec_laws.specs.declared.parts.Table.{Table}
use Rattle.solve_laws.specs.Certificates.Conditions.{IsTask}
use Rattle.solve_laws.specs.Certificates.Limits.{analysable}
use Rattle.solve_laws.specs.Candidates.Searching.{MOST_CANDIDATES}
use Rattle.solve_laws.specs.declared.parts.Attempt.{Attempt}
use Rattle.solve_laws.specs.declared.parts.Trial.{Trial}
use Rattle.solve_laws.specs.declared.parts.Trial.TheVariants.{Fell, Stands}
use Rattle.solve_laws.specs.Tables.{task_under}

-- WHAT STANDS

-- the spec and the certificate of what stands are such
abbrev pub OfStanding : (Spec → Cert → Type 0) → Trial → Type 0
OfStanding P (Stands spec cert) = P spec cert
OfStanding P (Fell why) = Unit {0}

-- so is all that stands
abbrev pub AllStanding : (Spec → Cert → Type 0) → List Trial → Type 0
AllStanding P trials = AllByRecursion (OfStanding P) trials

-- all that stands of a procedure is such, and there are at most eight trials
pub record IsTried (Q : Flow → Spec → Cert → Type 0) (flow : Flow) (one : Attempt) : Type 0 where
  pub few : length one.trials ≤ MOST_CANDIDATES
  pub stand : AllStanding (Q flow) one.trials

-- a spec of a procedure and its certificate are well formed, with at most 96 parts in each heap
abbrev pub IsFormed : List StructDef → Flow → Spec → Cert → Type 0
IsFormed structs flow spec cert = IsSpec analysable structs (length flow.params) spec × IsCert analysable structs flow cert

-- there is one attempt for each procedure of a key, and what stands of it is well formed
abbrev pub AreFormed : Key → List Attempt → Type 0
AreFormed key attempts = AllZip (IsTried (IsFormed key.structs)) key.procs attempts

-- OWN SPECS

-- the specs of a procedure are well formed, and few
pub record AreSpecs (structs : List StructDef) (flow : Flow) (specs : List Spec) : Type 0 where
  pub few : length specs ≤ 4294967295
  pub each : All (IsSpec analysable structs (length flow.params)) specs

-- so are those of each procedure that has some
abbrev pub AreOwnSpecs : List StructDef → List Flow → List (List Spec) → Type 0
AreOwnSpecs structs [] specs = Unit {0}
AreOwnSpecs structs (flow ∷ flows) [] = Unit {0}
AreOwnSpecs structs (flow ∷ flows) (one ∷ specs) = AreSpecs structs flow one × AreOwnSpecs structs flows specs

-- the analysis of each procedure of a key under a table is well formed
abbrev pub AreTasks : Key → Table → Type 0
AreTasks key table = All (λ (flow : Flow). IsTask (task_under key table flow)) key.procs
