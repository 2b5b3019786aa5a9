-- Each value is that of its thing.
use Rattle.std.proofs.Common.{◌≡◌, map, take}
use Rattle.serde_json.specs.View.{view}
use Rattle.summary_json.proofs.scoped.row_value.Given as goal

abbrev pub invariant-loop-thing : goal.invariant-loop-thing
invariant-loop-thing g l = map view l.values.items ≡ map (g.T.Scoped.written l.structs l.params) (take l.thing-index l.things)
