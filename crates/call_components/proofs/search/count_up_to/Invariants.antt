use Rattle.std.proofs.Common.{◌≡◌, ◌<◌, ◌≤◌, ℕ, slice_get, Some}
use Rattle.call_components.specs.declared.marks.Entry.{Entry}
use Rattle.call_components.proofs.search.count_up_to.Given as goal

-- the sets from here on begin behind the place
abbrev pub invariant-loop-index : goal.invariant-loop-index
invariant-loop-index l = (i : ℕ) (entry : Entry) → slice_get l.entries i ≡ Some entry → l.index ≤ i → l.place < entry.first
