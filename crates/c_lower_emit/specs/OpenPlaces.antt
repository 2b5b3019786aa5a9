-- Which drafts have an exit that is still open, and where they stand.
use Rattle.std.specs.Prelude.{ℕ, zero, suc, Bool, true, false, if◌then◌else◌, List, [], ◌∷◌}
use Rattle.c_lower_emit.specs.declared.drafts.Draft.{Draft}
use Rattle.c_lower_emit.specs.declared.drafts.Label.{Label}
use Rattle.c_lower_emit.specs.declared.drafts.Label.TheVariants.{At, Next, Breaks, Continues, Holds, Fails}
use Rattle.c_lower_emit.specs.declared.drafts.Ways.{Ways}
use Rattle.c_lower_emit.specs.Drafts.{redirected}
use Rattle.c_lower_emit.specs.Stretches.{has_exit, has_exit_at}

-- the label is an exit, and no place
abbrev pub is_exit : Label → Bool
is_exit (At place) = false
is_exit Next = true
is_exit Breaks = true
is_exit Continues = true
is_exit Holds = true
is_exit Fails = true

-- the draft has an exit that is still open
abbrev pub is_open : Draft → Bool
is_open = has_exit is_exit

-- the places of the drafts that have an exit that is still open, where the first of all drafts stands at `n`
abbrev pub open_places : ℕ → List Draft → List ℕ
open_places n [] = []
open_places n (d ∷ ds) = if is_open d then n ∷ open_places (suc n) ds else open_places (suc n) ds

-- the draft at the place has an exit that is still open
abbrev pub is_open_at : List Draft → ℕ → Bool
is_open_at = has_exit_at is_exit

-- with the exits of the draft at the place replaced
abbrev pub led_at : Ways → ℕ → List Draft → List Draft
led_at w n [] = []
led_at w zero (d ∷ ds) = redirected w d ∷ ds
led_at w (suc n) (d ∷ ds) = d ∷ led_at w n ds

-- with the exits of the drafts at these places replaced
abbrev pub led_at_each : Ways → List ℕ → List Draft → List Draft
led_at_each w [] ds = ds
led_at_each w (n ∷ ns) ds = led_at_each w ns (led_at w n ds)
