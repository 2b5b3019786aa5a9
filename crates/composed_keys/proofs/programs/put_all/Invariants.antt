use Rattle.std.proofs.Common.{◌≡◌, take, length}
use Rattle.composed_keys.specs.Programs.{ArePut}
use Rattle.composed_keys.proofs.programs.put_all.Given as goal

abbrev pub invariant-loop-number : goal.invariant-loop-number
invariant-loop-number l =
    record {
      lengths : length l.places.items ≡ length l.initial.places.items;
      put : ArePut (take l.number-index l.numbers) l.value l.initial.places.items l.places.items;
    }
