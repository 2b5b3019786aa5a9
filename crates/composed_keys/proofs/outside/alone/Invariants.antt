use Rattle.std.proofs.Common.{◌≡◌, [], length, map, replicate}
use Rattle.call_components.specs.Reaching.{rows}
use Rattle.composed_keys.specs.declared.rows.Component.{Component as Row}
use Rattle.composed_keys.specs.Outside.{outers}
use Rattle.composed_keys.proofs.outside.alone.Given as goal

abbrev pub invariant-loop-members : goal.invariant-loop-members
invariant-loop-members l =
    record {
      members : map (λ (row : Row). row.members.items) l.made.items ≡ rows l.yielded;
      outer : outers l.made.items ≡ replicate (length l.yielded) [];
    }
