-- Each value is that of its summary.
use Rattle.std.proofs.Common.{◌≡◌, map, take}
use Rattle.serde_json.specs.View.{view}
use Rattle.summary_json.specs.Answers.{summaries_data}
use Rattle.summary_json.proofs.answers.summaries_value.Given as goal

abbrev pub invariant-loop-place : goal.invariant-loop-place
invariant-loop-place l = map view l.values.items ≡ summaries_data l.structs (take l.place l.flows) (take l.place l.summaries)
