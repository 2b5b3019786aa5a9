-- The wanted atoms, in the order in which they are taken: each time the first one whose source is determined and, for a
-- segment, whose end is determined. If there is none, the first whose source is determined. If there is none, the match is
-- stuck on the first one that is left.
use Rattle.std.specs.Prelude.{ℕ, zero, suc, ◌+◌, Bool, true, not, ◌&&◌, List, [], ◌∷◌, position, slice_get}
use Rattle.std.specs.List.{remove}
use Rattle.std.specs.declared.option.Option.{Option}
use Rattle.std.specs.declared.option.Option.TheVariants.{None, Some}
use Rattle.shape_data.specs.declared.symbolic.Atom.{Atom}
use Rattle.shape_data.specs.declared.symbolic.Atom.TheVariants.{Points, Seg, Junk}
use Rattle.sym_matching.specs.declared.matching.Matching.{Matching}
use Rattle.sym_matching.specs.declared.matching.Turned.{Turned}
use Rattle.sym_matching.specs.declared.matching.Turned.TheVariants.{On, Stuck}
use Rattle.sym_matching.specs.declared.matching.Wanted.{Wanted}
use Rattle.sym_matching.specs.Reading.{read, is_unbound}
use Rattle.sym_matching.specs.Steps.{Rules, and_then}
use Rattle.sym_matching.specs.WantedCells.{want_cell}
use Rattle.sym_matching.specs.WantedSegments.{want_segment}

-- the rules for an atom, whose source is read. Junk is not wanted here
abbrev pub want_atom : Rules → ℕ → Atom → Matching → Turned
want_atom rules number (Points at kind fields) m = want_cell rules number kind fields (read rules.facts m.binding at) m
want_atom rules number (Seg kind link from to) m = want_segment rules number kind link (read rules.facts m.binding from) to m
want_atom rules number Junk m = On m

-- the source of the atom is determined
abbrev pub has_source : Rules → Matching → Atom → Bool
has_source rules m (Points at kind fields) = not (is_unbound rules.flexible m.binding at)
has_source rules m (Seg kind link from to) = not (is_unbound rules.flexible m.binding from)
has_source rules m Junk = true

-- a segment's end is determined
abbrev pub has_end : Rules → Matching → Atom → Bool
has_end rules m (Points at kind fields) = true
has_end rules m (Seg kind link from to) = not (is_unbound rules.flexible m.binding to)
has_end rules m Junk = true

-- the place, or else another
abbrev pub or_else : Option ℕ → Option ℕ → Option ℕ
or_else None other = other
or_else (Some place) other = Some place

-- the place of the atom that is taken next: the first whose source and end are determined, else the first whose source is
abbrev pub next_place : Rules → Matching → List Wanted → Option ℕ
next_place rules m wanted =
    or_else (position (λ w. has_source rules m w.atom && has_end rules m w.atom) wanted) (position (λ w. has_source rules m w.atom) wanted)

-- the number of the first wanted atom that is left
abbrev pub first_number : List Wanted → ℕ
first_number [] = 0
first_number (first ∷ others) = first.number

-- the atom is taken, and then the others
abbrev pub want_one : Rules → Matching → (Matching → Turned) → ℕ → Option Wanted → Turned
want_one rules m go_on number None = Stuck number
want_one rules m go_on number (Some wanted) = and_then go_on (want_atom rules wanted.number wanted.atom m)

-- the atom at the place is taken, and then the others; without a place the match is stuck on the first that is left
abbrev pub want_at : Rules → Matching → List Wanted → (List Wanted → Matching → Turned) → Option ℕ → Turned
want_at rules m wanted go_on None = Stuck (first_number wanted)
want_at rules m wanted go_on (Some place) = want_one rules m (go_on (remove wanted place)) (first_number wanted) (slice_get wanted place)

-- all wanted atoms; there are as many turns as atoms
abbrev pub want_atoms : ℕ → Rules → List Wanted → Matching → Turned
want_atoms zero rules wanted m = On m
want_atoms (suc turns) rules wanted m = want_at rules m wanted (want_atoms turns rules) (next_place rules m wanted)

-- the atoms other than Junk, with their numbers from one on
abbrev pub wanted_from : ℕ → List Atom → List Wanted
wanted_from number [] = []
wanted_from number (Points at kind fields ∷ atoms) =
    record { number = number; atom = Points at kind fields } ∷ wanted_from (number + 1) atoms
wanted_from number (Seg kind link from to ∷ atoms) =
    record { number = number; atom = Seg kind link from to } ∷ wanted_from (number + 1) atoms
wanted_from number (Junk ∷ atoms) = wanted_from (number + 1) atoms
