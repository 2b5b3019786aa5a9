use Rattle.std.proofs.Common.{◌≡◌, ◌<◌, ℕ, [], length, map, take}
use Rattle.std.specs.Prelude.{slice_index_or}
use Rattle.call_components.specs.Reaching.{rows}
use Rattle.composed_keys.specs.declared.rows.Component.{Component as Row}
use Rattle.composed_keys.specs.Rows.{outer_in}
use Rattle.composed_keys.specs.Outside.{outers}
use Rattle.composed_keys.proofs.outside.rows_of.Given as goal

abbrev pub invariant-loop-number : goal.invariant-loop-number
invariant-loop-number l =
    record {
      members : map (λ (row : Row). row.members.items) l.made.items ≡ rows l.fn.all.items;
      outer : (place : ℕ) → place < length (rows l.fn.all.items)
          → slice_index_or (outers l.made.items) place []
          ≡ outer_in (rows l.calls) l.places (take l.number-index l.order) (slice_index_or (rows l.fn.all.items) place []);
    }
