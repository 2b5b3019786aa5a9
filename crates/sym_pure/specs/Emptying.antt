-- Second rule of the normal form: a segment from 0 or from a cell's address is empty, so it goes and its ends are equal.
use Rattle.std.specs.Prelude.{ℕ, zero, suc, pos, Bool, false, ◌||◌, List, map, slice_get}
use Rattle.std.specs.List.{position, remove}
use Rattle.std.specs.declared.option.Option.{Option}
use Rattle.std.specs.declared.option.Option.TheVariants.{None, Some}
use Rattle.shape_data.specs.declared.symbolic.Atom.{Atom}
use Rattle.shape_data.specs.declared.symbolic.Atom.TheVariants.{Points, Seg, Junk}
use Rattle.shape_data.specs.declared.symbolic.Exp.{Exp}
use Rattle.shape_data.specs.declared.symbolic.Exp.TheVariants.{Const}
use Rattle.sym_parts.specs.Laws.Addresses.{addresses}
use Rattle.sym_parts.specs.Laws.Expressions.{same_exp, is_among}
use Rattle.sym_parts.specs.Laws.Mapped.{on_atom}
use Rattle.sym_pure.specs.declared.parts.Settled.{Settled}
use Rattle.sym_pure.specs.declared.parts.Solved.{Solved}
use Rattle.sym_pure.specs.Solving.{read, unless_clash, with_equation}

-- 0, or the address of a cell
abbrev pub is_plain : List Exp → Exp → Bool
is_plain cells e = same_exp e (Const (pos 0)) || is_among e cells

-- the atom is a segment that starts, read through the solved equations, at 0 or at a cell's address
abbrev pub is_empty : List Solved → List Exp → Atom → Bool
is_empty solved cells (Points at kind fields) = false
is_empty solved cells (Seg kind link from to) = is_plain cells (read solved from)
is_empty solved cells Junk = false

-- the place of the first such segment
abbrev pub place_of_empty : List Solved → List Atom → Option ℕ
place_of_empty solved atoms = position (is_empty solved (addresses (map (on_atom (read solved)) atoms))) atoms

-- the ends of a segment are equal; other atoms say nothing here
abbrev pub with_equal_ends : List Solved → Option Atom → Option (List Solved)
with_equal_ends solved (Some (Seg kind link from to)) = with_equation solved from to
with_equal_ends solved (Some (Points at kind fields)) = Some solved
with_equal_ends solved (Some Junk) = Some solved
with_equal_ends solved None = Some solved

-- the atom at the place goes, its ends are made equal, and so again; without a place all is settled
abbrev pub settle_at : (List Solved → List Atom → Option Settled) → List Solved → List Atom → Option ℕ → Option Settled
settle_at again solved atoms None = Some (record { solved = solved; atoms = atoms })
settle_at again solved atoms (Some place) =
    unless_clash (λ more. again more (remove atoms place)) (with_equal_ends solved (slice_get atoms place))

-- as often as there is such a segment, but no more than the turns: one for each atom is enough, since each turn takes one.
-- None is a contradiction
abbrev pub settle : ℕ → List Solved → List Atom → Option Settled
settle zero solved atoms = Some (record { solved = solved; atoms = atoms })
settle (suc turns) solved atoms = settle_at (λ more others. settle turns more others) solved atoms (place_of_empty solved atoms)
