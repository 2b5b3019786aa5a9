-- The slots of runs, in each of which a slot is one more than the one before.
use Rattle.std.specs.Prelude.{ℕ, zero, suc, ◌+◌, List, [], ◌∷◌, ◌++◌}
use Rattle.c_lower_emit.specs.declared.visible_slots.Run.{Run}

-- a slot and so many that follow it, the highest one first
abbrev pub falling : ℕ → ℕ → List ℕ
falling first zero = first ∷ []
falling first (suc more) = (first + suc more) ∷ falling first more

-- the slots of a run
abbrev pub slots_of_run : Run → List ℕ
slots_of_run run = falling run.first run.more

-- the slots of runs, those of the last run first
abbrev pub slots_in : List Run → List ℕ
slots_in [] = []
slots_in (first ∷ others) = slots_in others ++ slots_of_run first
