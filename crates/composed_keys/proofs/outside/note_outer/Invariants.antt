use Rattle.std.proofs.Common.{◌≡◌, map, take}
use Rattle.composed_keys.specs.declared.rows.Component.{Component as Row}
use Rattle.composed_keys.specs.Outside.{ArePutBy, outers}
use Rattle.composed_keys.proofs.outside.note_outer.Given as goal

abbrev pub invariant-loop-caller : goal.invariant-loop-caller
invariant-loop-caller l =
    record {
      members : map (λ (row : Row). row.members.items) l.made.items ≡ map (λ (row : Row). row.members.items) l.initial.made.items;
      put : ArePutBy l.places (take l.caller-index l.callers) l.outer (outers l.initial.made.items) (outers l.made.items);
    }
