-- What contracts see of the leader's hands.
use Rattle.std.specs.Prelude.{ℕ}

-- how many Publish events the leader has seen
pub record Seen : Type 0 where
  pub seen : ℕ
