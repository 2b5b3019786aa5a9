use Rattle.std.proofs.Common.{◌≡◌, [], map, take}
use Rattle.post_gen.proofs.listing.empty_nodes.Given as goal

abbrev pub invariant-loop-node : goal.invariant-loop-node
invariant-loop-node l = l.nodes.items ≡ map (λ node. []) (take l._node-index l.task.flow.now.nodes)
