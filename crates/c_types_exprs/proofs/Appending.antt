-- One text behind another.
use Rattle.std.proofs.Common.{ℕ, append_assoc}
use Rattle.std.proofs.lemmas.List.{append-nil}

pub ruleset appending = (append_assoc, append-nil)
