use Rattle.std.proofs.Common.{◌≡◌, take}
use Rattle.component_keys.specs.Keys.{names_of}
use Rattle.claim_replay.proofs.replaying.names_in.Given as goal

abbrev pub invariant-loop-flow : goal.invariant-loop-flow
invariant-loop-flow l = l.names ≡ names_of (take l.flow-index l.flows)
