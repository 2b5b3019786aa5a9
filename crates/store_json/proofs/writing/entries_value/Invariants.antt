-- Each value is that of its entry.
use Rattle.std.proofs.Common.{◌≡◌, map, take}
use Rattle.serde_json.specs.View.{view}
use Rattle.shape_data.specs.declared.answer.Kept.{Kept}
use Rattle.claim_core.specs.Views.{solution_of}
use Rattle.store_json.specs.Texts.{entry_data}
use Rattle.store_json.proofs.writing.entries_value.Given as goal

abbrev pub invariant-loop-entry : goal.invariant-loop-entry
invariant-loop-entry l = map view l.values.items ≡ map (λ (kept : Kept). entry_data (solution_of kept)) (take l.entry-index l.entries)
