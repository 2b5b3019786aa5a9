use Rattle.std.proofs.Common.{◌≡◌, ◌<◌, ℕ, false, slice_get, Some}
use Rattle.shape_data.specs.declared.answer.Key.{Key}
use Rattle.component_keys.specs.Tests.{key_test}
use Rattle.claim_core.specs.Told.{events_of}
use Rattle.claim_laws.specs.Invariant.{IsDueAt}
use Rattle.claim_laws.specs.Logs.{replay}
use Rattle.claim_laws.specs.World.{Out}
use Rattle.summary_book.proofs.turns.holder.Given as goal

abbrev pub invariant-loop-row : goal.invariant-loop-row
invariant-loop-row l =
    (key : Key) (k : ℕ) (claim : Out) → IsDueAt (replay (events_of l.log)) l.place key → k < l.row-index
    → slice_get (replay (events_of l.log)).out k ≡ Some claim → key_test.0 claim.key key ≡ false
