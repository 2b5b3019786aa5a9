-- Flags of slots.
use Rattle.std.specs.Prelude.{ℕ, suc, Bool, ◌||◌, List, [], ◌∷◌}

-- the flags of the slots from this one on, where those of slots that pass a test are set, too
abbrev pub flagged : (ℕ → Bool) → ℕ → List Bool → List Bool
flagged passes slot [] = []
flagged passes slot (flag ∷ flags) = (flag || passes slot) ∷ flagged passes (suc slot) flags
