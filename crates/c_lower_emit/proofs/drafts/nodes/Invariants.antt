use Rattle.std.proofs.Common.{◌≡◌, map}
use Rattle.c_lower_emit.specs.Drafts.{laid, at_start}
use Rattle.c_lower_emit.proofs.drafts.nodes.Given as goal

abbrev pub invariant-loop-draft : goal.invariant-loop-draft
invariant-loop-draft l = l.nodes.items ≡ map (laid at_start) l.yielded
