use Rattle.std.proofs.Common.{◌≡◌, take, map}
use Rattle.component_keys.specs.Structures.{pointed_by}
use Rattle.call_components.specs.Reaching.{rows}
use Rattle.composed_keys.proofs.structures.pointed_of.Given as goal

abbrev pub invariant-loop-def : goal.invariant-loop-def
invariant-loop-def l = rows l.all.items ≡ map (pointed_by l.structs) (take l.def-index l.structs)
