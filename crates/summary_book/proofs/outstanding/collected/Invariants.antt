use Rattle.std.proofs.Common.{◌≡◌, map}
use Rattle.std.specs.List.{filter, filter_map, range_with_len}
use Rattle.call_components.specs.Reaching.{marked}
use Rattle.claim_core.specs.Told.{events_of}
use Rattle.claim_laws.specs.Logs.{replay, settled_at}
use Rattle.summary_book.specs.Views.{slot_solution}
use Rattle.claim_core.specs.Views.{solution_of}
use Rattle.summary_book.proofs.outstanding.collected.Given as goal

abbrev pub invariant-loop-place : goal.invariant-loop-place
invariant-loop-place l = map solution_of l.all.items
    ≡ map slot_solution (filter_map (settled_at (replay (events_of l.log))) (filter (marked l.aim) (range_with_len 0 l.place)))
