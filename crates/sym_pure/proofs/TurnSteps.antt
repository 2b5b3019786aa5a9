-- A turn of the second rule.
use Rattle.std.proofs.Common.{◌≡◌, ℕ, suc, ◌+◌, ◌-◌, ◌<◌, List, refl, Some, None, arith}
use Rattle.std.specs.List.{remove, slice_get}
use Rattle.shape_data.specs.declared.symbolic.Atom.{Atom}
use Rattle.sym_pure.specs.declared.parts.Solved.{Solved}
use Rattle.sym_pure.specs.Emptying.{place_of_empty, with_equal_ends, settle}

module _ (turns done : ℕ) (solved : List Solved) (atoms : List Atom) (inside : done < turns) where
  turn_left : turns - done ≡ suc (turns - (done + 1))
  turn_left = omega arith

  pub settle-none : None ≡ place_of_empty solved atoms →
      settle (turns - done) solved atoms ≡ Some (record { solved = solved; atoms = atoms })
  settle-none none = rw (turn_left, ← none) refl

  pub settle-clash : (place : ℕ) → Some place ≡ place_of_empty solved atoms → None ≡ with_equal_ends solved (slice_get atoms place) →
      settle (turns - done) solved atoms ≡ None
  settle-clash place some clash = rw (turn_left, ← some, ← clash) refl

  pub settle-more : (place : ℕ) (more : List Solved) → Some place ≡ place_of_empty solved atoms →
      Some more ≡ with_equal_ends solved (slice_get atoms place) →
      settle (turns - done) solved atoms ≡ settle (turns - (done + 1)) more (remove atoms place)
  settle-more place more some goes = rw (turn_left, ← some, ← goes) refl
