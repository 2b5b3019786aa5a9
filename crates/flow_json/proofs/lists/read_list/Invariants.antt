-- What was read, and behind it what is still to be read, is all.
use Rattle.std.proofs.Common.{◌≡◌, map, drop}
use Rattle.serde_json.specs.View.{view}
use Rattle.flow_json.specs.Forms.{read_each}
use Rattle.flow_json.proofs.FormLemmas.{with_front}
use Rattle.flow_json.proofs.lists.read_list.Given as goal

abbrev pub invariant-loop-item : goal.invariant-loop-item
invariant-loop-item g l =
    with_front l.things (read_each g.T.Form.reader (map view (drop l.item-index l.item-items)))
    ≡ read_each g.T.Form.reader (map view l.item-items)
