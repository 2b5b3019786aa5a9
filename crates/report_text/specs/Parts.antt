-- What the calls of the crate ask of a summary.
use Rattle.std.specs.Prelude.{◌≡◌, ℕ, List, length, All}
use Rattle.shape_data.specs.declared.answer.ProcSummary.{ProcSummary}
use Rattle.shape_data.specs.declared.program.Flow.{Flow}
use Rattle.shape_data.specs.declared.program.Proc.{Proc}
use Rattle.shape_data.specs.declared.program.StructDef.{StructDef}
use Rattle.shape_data.specs.WellFormed.{HasReason, IsCountable, IsSummary, Limits, storable}
use Rattle.sym_text.specs.Shape.{IsShapedSpec}

-- the atoms of the specs have the shape of their structures, and a summary without a spec has a reason
pub record IsPrintable (structs : List StructDef) (summary : ProcSummary) : Type 0 where
  pub specs : All (IsShapedSpec structs) summary.specs
  pub reason : HasReason summary

-- summaries, and the specs of each, are fewer than 2^32
pub record AreCountable (summaries : List ProcSummary) : Type 0 where
  pub few : IsCountable summaries
  pub specs : All (λ (summary : ProcSummary). IsCountable summary.specs) summaries

-- the summaries are one for each procedure, and can be printed and counted
pub record AreReportable (structs : List StructDef) (procs : List Proc) (summaries : List ProcSummary) : Type 0 where
  pub one_each : length summaries ≡ length procs
  pub printable : All (IsPrintable structs) summaries
  pub countable : AreCountable summaries

-- a summary that is well formed within any limits, and that has a spec or a reason, can be printed
abbrev pub FormedIsPrintable : Type 0
FormedIsPrintable = (limits : Limits) (structs : List StructDef) (flow : Flow) (summary : ProcSummary)
    → IsSummary limits structs flow summary → HasReason summary → IsPrintable structs summary

-- so can a summary that a store may hold, and that has a spec or a reason
abbrev pub StorableIsPrintable : Type 0
StorableIsPrintable = (structs : List StructDef) (flow : Flow) (summary : ProcSummary) → IsSummary storable structs flow summary
    → HasReason summary → IsPrintable structs summary
