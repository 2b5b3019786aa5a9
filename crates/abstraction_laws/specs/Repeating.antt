-- The second to the fourth rule, again and again.
use Rattle.std.specs.Prelude.{ℕ, zero, suc, ◌+◌, Bool, true, false, not, ◌&&◌, leb, List, length, filter}
use Rattle.shape_data.specs.declared.symbolic.Atom.{Atom}
use Rattle.shape_data.specs.declared.symbolic.Exp.{Exp}
use Rattle.shape_data.specs.declared.symbolic.Exp.TheVariants.{Var}
use Rattle.shape_data.specs.declared.symbolic.SymHeap.{SymHeap}
use Rattle.sym_parts.specs.Laws.Expressions.{is_among}
use Rattle.sym_parts.specs.Laws.Junks.{is_other}
use Rattle.abstraction_laws.specs.Joining.{join_first}
use Rattle.abstraction_laws.specs.Losing.{lose}
use Rattle.abstraction_laws.specs.Reaching.{keep_reached}

-- the variable is existential and in no local
abbrev pub is_inner : List Exp → ℕ → Bool
is_inner locals x = leb 65536 x && not (is_among (Var x) locals)

-- Third rule, where it is used: the first two atoms that meet at an existential variable, which is in no local, are joined
abbrev pub join_inner : Bool → List Exp → List Atom → List Atom
join_inner true locals atoms = join_first (is_inner locals) atoms
join_inner false locals atoms = atoms

-- the heap with these atoms, and without the disequalities that they leave without sense
abbrev pub with_atoms : List Exp → SymHeap → List Atom → SymHeap
with_atoms locals heap atoms = record { pure = lose locals atoms heap.pure; spatial = atoms }

-- the rules once, one after the other
abbrev pub reduce_once : Bool → List Exp → SymHeap → SymHeap
reduce_once joins locals heap = with_atoms locals heap (join_inner joins locals (keep_reached locals heap.spatial))

-- so many times
abbrev pub reduce_times : ℕ → Bool → List Exp → SymHeap → SymHeap
reduce_times zero joins locals heap = heap
reduce_times (suc turns) joins locals heap = reduce_times turns joins locals (reduce_once joins locals heap)

-- the atoms other than Junk, and the facts: where the rules change a heap, this becomes less
abbrev pub size_of : SymHeap → ℕ
size_of heap = length (filter is_other heap.spatial) + length heap.pure

-- the second to the fourth rule, repeated until nothing changes: so many times are enough
abbrev pub reduce : Bool → List Exp → SymHeap → SymHeap
reduce joins locals heap = reduce_times (size_of heap) joins locals heap
