use Rattle.std.proofs.Common.{◌≡◌, take, length}
use Rattle.c_lower_exprs.specs.Slots.{IsBound}
use Rattle.c_lower_exprs.proofs.slots.forget_behind.Given as goal

abbrev pub invariant-loop-all : goal.invariant-loop-all
invariant-loop-all l = record {
  bound : IsBound l.all.items l.of_names l.visible;
  items : take l.len l.all.items ≡ take l.len l.initial.all.items;
}

abbrev pub decreases-loop-all : goal.decreases-loop-all
decreases-loop-all l = length l.all.items
