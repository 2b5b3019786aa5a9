-- What was read is what the values before are read as.
use Rattle.std.proofs.Common.{map, take}
use Rattle.std.specs.declared.option.Option.TheVariants.{Some}
use Rattle.serde_json.specs.View.{view}
use Rattle.claim_core.specs.Views.{solution_of}
use Rattle.store_json.specs.Reading.{AreEntriesOf}
use Rattle.store_json.proofs.entries.read_entries.Given as goal

abbrev pub invariant-loop-value : goal.invariant-loop-value
invariant-loop-value l = AreEntriesOf (map view (take l.value-index l.values)) (Some (map solution_of l.entries))
