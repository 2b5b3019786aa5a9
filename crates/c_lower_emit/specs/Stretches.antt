-- From where to where no draft has a certain exit.
use Rattle.std.specs.Prelude.{◌≡◌, ℕ, zero, suc, ◌<◌, ◌≤◌, Bool, true, false, ◌||◌, List, [], ◌∷◌, length}
use Rattle.c_lower_emit.specs.declared.drafts.Draft.{Draft}
use Rattle.c_lower_emit.specs.declared.drafts.Label.{Label}
use Rattle.c_lower_emit.specs.declared.drafts.Label.TheVariants.{At, Next, Breaks, Continues, Holds, Fails}
use Rattle.c_lower_emit.specs.declared.drafts.Ways.{Ways}
use Rattle.c_lower_emit.specs.Drafts.{redirect}

-- the exit behind a piece
abbrev pub is_next : Label → Bool
is_next (At place) = false
is_next Next = true
is_next Breaks = false
is_next Continues = false
is_next Holds = false
is_next Fails = false

-- the exit where a test goes on that holds
abbrev pub is_holds : Label → Bool
is_holds (At place) = false
is_holds Next = false
is_holds Breaks = false
is_holds Continues = false
is_holds Holds = true
is_holds Fails = false

-- the exit where a test goes on that doesn't hold
abbrev pub is_fails : Label → Bool
is_fails (At place) = false
is_fails Next = false
is_fails Breaks = false
is_fails Continues = false
is_fails Holds = false
is_fails Fails = true

-- the draft has such an exit
abbrev pub has_exit : (Label → Bool) → Draft → Bool
has_exit exit d = exit d.next || exit d.other

-- the draft at the place has such an exit
abbrev pub has_exit_at : (Label → Bool) → List Draft → ℕ → Bool
has_exit_at exit [] n = false
has_exit_at exit (d ∷ ds) zero = has_exit exit d
has_exit_at exit (d ∷ ds) (suc n) = has_exit_at exit ds n

-- none of the drafts from one place to another has such an exit
pub record Lacks (exit : Label → Bool) (from past : ℕ) (drafts : List Draft) : Type 0 where
  pub within : past ≤ length drafts
  pub none : (n : ℕ) → from ≤ n → n < past → has_exit_at exit drafts n ≡ false

-- the ways lead such exits elsewhere, and no other ones
pub record LeadsAway (exit : Label → Bool) (w : Ways) : Type 0 where
  pub others : (t : Label) → exit t ≡ false → redirect w t ≡ t
  pub gone : (t : Label) → exit (redirect w t) ≡ false
