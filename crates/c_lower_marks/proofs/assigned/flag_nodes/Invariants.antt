use Rattle.std.proofs.Common.{◌≡◌, drop}
use Rattle.c_lower_rules.specs.Marks.{assigned}
use Rattle.c_lower_marks.specs.Flagged.{flagged}
use Rattle.c_lower_marks.proofs.assigned.flag_nodes.Given as goal

abbrev pub invariant-loop-node : goal.invariant-loop-node
invariant-loop-node l = flagged (assigned (drop l.node-index l.nodes)) 0 l.flags ≡ flagged (assigned l.nodes) 0 l.initial.flags
