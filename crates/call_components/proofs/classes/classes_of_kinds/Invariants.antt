use Rattle.std.proofs.Common.{◌≡◌, length, take}
use Rattle.call_components.specs.Reaching.{rows}
use Rattle.call_components.proofs.Grouped.{IsGrouped}
use Rattle.call_components.proofs.classes.classes_of_kinds.Given as goal

abbrev pub invariant-loop-number : goal.invariant-loop-number
invariant-loop-number l =
    record {
      grouped : IsGrouped l.kinds (take l.number-index l.order) (rows l.classes.items) l.slots.items;
      lengths : length l.slots.items ≡ l.count;
    }
