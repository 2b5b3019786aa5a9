-- What was read, and behind it what is still to be read, is all.
use Rattle.std.proofs.Common.{◌≡◌, drop, map}
use Rattle.serde_json.specs.View.{view}
use Rattle.flow_json.proofs.FormLemmas.{with_front}
use Rattle.summary_json.specs.Answers.{read_summaries}
use Rattle.summary_json.proofs.answers.read_summaries.Given as goal

abbrev pub invariant-loop-place : goal.invariant-loop-place
invariant-loop-place l =
    with_front l.summaries (read_summaries l.structs (drop l.place l.flows) (drop l.place (map view l.parts)))
    ≡ read_summaries l.structs l.flows (map view l.parts)
