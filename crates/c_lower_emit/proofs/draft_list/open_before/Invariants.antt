use Rattle.std.proofs.Common.{ℕ, ◌<◌, ◌≤◌, length, slice_index}
use Rattle.c_lower_emit.proofs.draft_list.open_before.Given as goal

-- the places from here on are not before the place
abbrev pub invariant-loop-index : goal.invariant-loop-index
invariant-loop-index l = (k : ℕ) → l.index ≤ k → k < length l.places → l.place ≤ slice_index l.places k
