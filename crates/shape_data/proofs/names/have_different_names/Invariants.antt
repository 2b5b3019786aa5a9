use Rattle.std.proofs.Common.{◌≢◌, ℕ, ◌<◌, length, slice_index_or}
use Rattle.shape_data.proofs.names.have_different_names.Given as goal

-- the names before the place differ from all later ones
abbrev pub invariant-loop-place : goal.invariant-loop-place
invariant-loop-place g l =
    (i j : ℕ) (d : g.row.T.Denot) → i < l.place → i < j → j < length l.things →
    g.T.Named.name_of (slice_index_or l.things i d) ≢ g.T.Named.name_of (slice_index_or l.things j d)
