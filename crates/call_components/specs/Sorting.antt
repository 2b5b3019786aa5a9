-- How numbers are sorted by their names.
use Rattle.std.specs.Prelude.{ℕ, zero, suc, Bool, List, [], ◌∷◌, ◌++◌, slice_index_or}
use Rattle.std.specs.Cmp.Lexicographic.{slice_cmp}
use Rattle.std.specs.Ordering.{nat_cmp, is_lt, ordering_then}
use Rattle.std.specs.declared.cmp.Ordering.{Ordering}

-- by names, and where those are the same by the numbers themselves
abbrev pub name_rank : List (List ℕ) → ℕ → ℕ → Ordering
name_rank names one other =
    ordering_then (slice_cmp nat_cmp (slice_index_or names one []) (slice_index_or names other [])) (nat_cmp one other)

-- the numbers below, in their own order
abbrev pub below : ℕ → List ℕ
below zero = []
below (suc number) = below number ++ number ∷ []

-- the number's name stands ahead of this one
abbrev pub is_ahead : List (List ℕ) → List ℕ → ℕ → Bool
is_ahead names name number = is_lt (slice_cmp nat_cmp (slice_index_or names number []) name)
