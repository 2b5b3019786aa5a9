-- Third rule: two atoms that meet at an expression, which stands nowhere else, are joined into one segment.
use Rattle.std.specs.Prelude.{◌≡◌, ℕ, zero, suc, ◌+◌, Bool, false, ◌==◌, ◌&&◌, if◌then◌else◌, List, length, slice_get, slice_set, position}
use Rattle.std.specs.List.{remove}
use Rattle.std.specs.Str.{bytes_eq}
use Rattle.std.specs.declared.option.Option.{Option}
use Rattle.std.specs.declared.option.Option.TheVariants.{None, Some}
use Rattle.shape_data.specs.declared.symbolic.Atom.{Atom}
use Rattle.shape_data.specs.declared.symbolic.Atom.TheVariants.{Points, Seg, Junk}
use Rattle.shape_data.specs.declared.symbolic.Exp.{Exp}
use Rattle.shape_data.specs.declared.symbolic.Exp.TheVariants.{Var, Const}
use Rattle.sym_parts.specs.Laws.Expressions.{same_exp}
use Rattle.abstraction_laws.specs.Occurrences.{exps_of_atoms, times_in}

-- where two atoms are joined: their places in the list, the expression at which they meet, and the segment that they make
pub record Join : Type 0 where
  pub first : ℕ
  pub second : ℕ
  pub middle : Exp
  pub segment : Atom

-- where an atom of a kind leads by a link: what the field of a cell holds, or the end of a segment by that link
abbrev pub end_by : List ℕ → ℕ → Atom → Option Exp
end_by kind link (Points at other fields) = if bytes_eq other kind then slice_get fields link else None
end_by kind link (Seg other field from to) = if bytes_eq other kind && field == link then Some to else None
end_by kind link Junk = None

-- the source of an atom
abbrev pub start_of : Atom → Option Exp
start_of (Points at kind fields) = Some at
start_of (Seg kind link from to) = Some from
start_of Junk = None

-- the segment to an end, if there is one
abbrev pub segment_to : List ℕ → ℕ → Exp → Option Exp → Option Atom
segment_to kind link from (Some to) = Some (Seg kind link from to)
segment_to kind link from None = None

-- the segment by the link, if there is one, from a cell through the second atom
abbrev pub segment_by : List ℕ → Exp → Atom → Option ℕ → Option Atom
segment_by kind from second (Some link) = segment_to kind link from (end_by kind link second)
segment_by kind from second None = None

-- the segment that two atoms make which meet at v: the first is a cell of T whose field f (the first one, of several) holds
-- v, or a segment `T.f` to v; the second is a cell of T or a segment `T.f`. It goes from the first's source to the second's
-- link or end
abbrev pub segment_of : Exp → Atom → Atom → Option Atom
segment_of v (Points at kind fields) second = segment_by kind at second (position (same_exp v) fields)
segment_of v (Seg kind link from to) second = if same_exp v to then segment_to kind link from (end_by kind link second) else None
segment_of v Junk second = None

-- the atoms may be joined at an expression: it is a variable that passes the test, and stands where the two meet and nowhere else
-- in an atom
abbrev pub is_joint : (ℕ → Bool) → List Atom → Exp → Bool
is_joint may atoms (Var x) = may x && times_in (Var x) (exps_of_atoms atoms) == 2
is_joint may atoms (Const n) = false

-- a join at v, if there is a segment
abbrev pub join_into : ℕ → ℕ → Exp → Option Atom → Option Join
join_into i j v (Some segment) = Some (record { first = i; second = j; middle = v; segment = segment })
join_into i j v None = None

-- the join of two atoms, the second of which starts at an expression
abbrev pub join_from : (ℕ → Bool) → List Atom → ℕ → ℕ → Option Atom → Option Atom → Option Exp → Option Join
join_from may atoms i j (Some first) (Some second) (Some v) =
    if is_joint may atoms v then join_into i j v (segment_of v first second) else None
join_from may atoms i j _ _ _ = None

-- the source of an atom, if there is one
abbrev pub start_of_some : Option Atom → Option Exp
start_of_some (Some atom) = start_of atom
start_of_some None = None

-- the join of the atoms at two places, which are not the same
abbrev pub join_at : (ℕ → Bool) → List Atom → ℕ → ℕ → Option Join
join_at may atoms i j = if i == j then None
    else join_from may atoms i j (slice_get atoms i) (slice_get atoms j) (start_of_some (slice_get atoms j))

-- the first of two that is there
abbrev pub or_else : Option Join → Option Join → Option Join
or_else (Some join) other = Some join
or_else None other = other

-- the first join among so many places, from one on
abbrev pub first_join : (ℕ → Option Join) → ℕ → ℕ → Option Join
first_join find place zero = None
first_join find place (suc count) = or_else (find place) (first_join find (place + 1) count)

-- the first join whose middle passes the test: by the place of the first atom, then by that of the second
abbrev pub find_join : (ℕ → Bool) → List Atom → Option Join
find_join may atoms = first_join (λ i. first_join (join_at may atoms i) 0 (length atoms)) 0 (length atoms)

-- the atoms with the segment in the first one's place, and without the second
abbrev pub with_join : List Atom → Option Join → List Atom
with_join atoms (Some join) = remove (slice_set atoms join.first join.segment) join.second
with_join atoms None = atoms

-- the atoms with their first join made, if there is one
abbrev pub join_first : (ℕ → Bool) → List Atom → List Atom
join_first may atoms = with_join atoms (find_join may atoms)

-- what a join is that was found: the atoms at the two places, which differ, meet at the middle and make the segment
pub record IsJoin (atoms : List Atom) (join : Join) : Type 0 where
  pub one : Atom
  pub other : Atom
  pub one_there : slice_get atoms join.first ≡ Some one
  pub other_there : slice_get atoms join.second ≡ Some other
  pub apart : (join.first == join.second) ≡ false
  pub starts : start_of other ≡ Some join.middle
  pub makes : segment_of join.middle one other ≡ Some join.segment
