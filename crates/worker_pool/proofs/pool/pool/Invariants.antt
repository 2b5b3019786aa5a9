use Rattle.std.specs.Prelude.{◌≡◌, ◌+◌, ◌≤◌, vec_len, vec_capacity}
use Rattle.worker_pool.proofs.pool.pool.Given as goal

abbrev pub invariant-loop-placed : goal.invariant-loop-placed
invariant-loop-placed g l = (l.rest.parts + l.placed ≡ l.workers + 1) × (l.rest.amount ≡ 0) × (vec_len l.shares ≡ l.placed) ×
    (l.workers ≤ vec_capacity l.shares)

abbrev pub invariant-loop-share : goal.invariant-loop-share
invariant-loop-share g l = l.ended.share.parts + vec_len l.shares ≡ l.workers + 1

abbrev pub decreases-loop-share : goal.decreases-loop-share
decreases-loop-share g l = goal.left-loop-share g l
