-- Counts that are added up, over lists.
use Rattle.std.proofs.Common.{◌≡◌, ℕ, ◌+◌, ◌≤◌}
use Rattle.c_lower_sizes.specs.Counts.{MOST_COUNTED, capped}

-- so far this has been counted, and so much is left of all
pub record IsSumUpTo (left all total : ℕ) : Type 0 where
  pub sum : capped (total + left) ≡ capped all
  pub small : total ≤ MOST_COUNTED
