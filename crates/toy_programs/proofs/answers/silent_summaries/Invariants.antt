use Rattle.std.proofs.Common.{◌≡◌, List, [], All, take}
use Rattle.shape_data.specs.declared.program.StructDef.{StructDef}
use Rattle.shape_data.specs.WellFormed.{storable, AreSummaries, HasReason}
use Rattle.toy_programs.proofs.answers.silent_summaries.Given as goal

abbrev pub invariant-loop-flow : goal.invariant-loop-flow
invariant-loop-flow l = record {
  are : (structs : List StructDef) → AreSummaries storable structs (take l.flow-index l.flows) l.summaries;
  reasons : All HasReason l.summaries;
  silent : All (λ summary. summary.specs ≡ []) l.summaries;
}
