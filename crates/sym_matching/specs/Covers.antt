-- When a state or a post covers another.
use Rattle.std.specs.Prelude.{◌≡◌, ◌⊎◌, ℕ, ◌+◌, Bool, true, false, ◌==◌, ◌&&◌, if◌then◌else◌, leb, ltb, List, [], ◌∷◌, length, filter}
use Rattle.shape_data.specs.declared.symbolic.Atom.{Atom}
use Rattle.shape_data.specs.declared.symbolic.Exp.{Exp}
use Rattle.shape_data.specs.declared.symbolic.Post.{Post}
use Rattle.shape_data.specs.declared.symbolic.SymHeap.{SymHeap}
use Rattle.shape_data.specs.declared.symbolic.SymState.{SymState}
use Rattle.sym_parts.specs.Laws.Mapped.{on_state, renamed}
use Rattle.sym_canon.specs.Canonical.{as_state, canon_post, canon_state}
use Rattle.sym_matching.specs.declared.matching.Mode.TheVariants.{Subtract}
use Rattle.sym_matching.specs.declared.matching.Owed.{Owed}
use Rattle.sym_matching.specs.declared.matching.Turned.{Turned}
use Rattle.sym_matching.specs.declared.matching.Turned.TheVariants.{On, Stuck}
use Rattle.sym_matching.specs.Matches.{left_over, rules_of, start_of, want_heap}
use Rattle.sym_matching.specs.NewVariables.{number_apart}
use Rattle.sym_matching.specs.Steps.{and_then}
use Rattle.sym_matching.specs.Variables.{with_state}
use Rattle.sym_matching.specs.WantedFacts.{want_all_owed}

-- the least number from a first one on that is above all the variables
abbrev pub above : ℕ → List ℕ → ℕ
above first [] = first
above first (x ∷ xs) = above (if ltb x first then first else x + 1) xs

-- the existential variables of a state
abbrev pub existentials : SymState → List ℕ
existentials state = filter (λ x. leb 65536 x) (with_state [] state)

-- the state b with numbers for its existential variables that are free in a
abbrev pub apart_from : SymState → SymState → SymState
apart_from a b = on_state (renamed (number_apart (with_state [] a) (existentials b))) b

-- the wanted locals are equal to those that are there, slot by slot
abbrev pub equal_slots : List Exp → List Exp → List Owed
equal_slots [] haves = []
equal_slots (want ∷ wants) [] = []
equal_slots (want ∷ wants) (have ∷ haves) = record { number = 0; want = want; have = have } ∷ equal_slots wants haves

-- the match of the state b in a, b's existential variables being flexible: its locals slot by slot, then its heap. New
-- variables avoid all variables of both
abbrev pub match_state : SymState → SymState → Turned
match_state a b =
    and_then (want_heap (rules_of Subtract a.heap (existentials b)) b.heap)
    (want_all_owed (rules_of Subtract a.heap (existentials b)) (equal_slots b.locals a.locals)
    (start_of a.heap [] (with_state (with_state [] a) b) 0))

-- there is no atom
abbrev pub is_empty : List Atom → Bool
is_empty [] = true
is_empty (atom ∷ atoms) = false

-- the match went to its end, and its frame has no atom
abbrev pub takes_all : SymHeap → Turned → Bool
takes_all b (On m) = is_empty (left_over b m)
takes_all b (Stuck number) = false

-- as many locals, and b, renamed apart, matches a with nothing left over
abbrev pub matches_state : SymState → SymState → Bool
matches_state a b = length b.locals == length a.locals && takes_all (apart_from a b).heap (match_state a (apart_from a b))

-- the state b covers a: their canonical forms, with no parameter in the queue, are equal, or b matches a
abbrev pub StateCovers : SymState → SymState → Type 0
StateCovers b a = (canon_state a 0 ≡ canon_state b 0) ⊎ (matches_state a b ≡ true)

-- the post b covers a: likewise, the result being the one local
abbrev pub PostCovers : Post → Post → Type 0
PostCovers b a = (canon_post a 0 ≡ canon_post b 0) ⊎ (matches_state (as_state a) (as_state b) ≡ true)
