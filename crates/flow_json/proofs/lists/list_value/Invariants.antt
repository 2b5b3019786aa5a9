-- Each value is that of its thing.
use Rattle.std.proofs.Common.{◌≡◌, map, take}
use Rattle.serde_json.specs.View.{view}
use Rattle.flow_json.proofs.lists.list_value.Given as goal

abbrev pub invariant-loop-thing : goal.invariant-loop-thing
invariant-loop-thing g l = map view l.values.items ≡ map g.T.Form.written (take l.thing-index l.things)
