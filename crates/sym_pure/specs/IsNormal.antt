-- What a normal state is, as a test of its own that rewrites nothing.
use Rattle.std.specs.Prelude.{ℕ, suc, Bool, true, false, not, ◌==◌, ◌&&◌, ◌||◌, ltb, leb, List, [], ◌∷◌}
use Rattle.std.specs.List.{list_all, list_any}
use Rattle.shape_data.specs.declared.symbolic.Atom.{Atom}
use Rattle.shape_data.specs.declared.symbolic.Atom.TheVariants.{Points, Seg, Junk}
use Rattle.shape_data.specs.declared.symbolic.Exp.{Exp}
use Rattle.shape_data.specs.declared.symbolic.Exp.TheVariants.{Var, Const}
use Rattle.shape_data.specs.declared.symbolic.Fact.{Fact}
use Rattle.shape_data.specs.declared.symbolic.Fact.TheVariants.{Eq, Ne}
use Rattle.shape_data.specs.declared.symbolic.SymHeap.{SymHeap}
use Rattle.shape_data.specs.declared.symbolic.SymState.{SymState}
use Rattle.sym_parts.specs.Laws.Addresses.{addresses}
use Rattle.sym_parts.specs.Laws.Junks.{is_junk}
use Rattle.sym_pure.specs.Contradictions.{has_clash}
use Rattle.sym_pure.specs.Emptying.{is_empty}
use Rattle.sym_pure.specs.Redundancy.{is_redundant}

-- the expression is a constant, or a variable below this one
abbrev pub is_below : ℕ → Exp → Bool
is_below x (Var y) = ltb y x
is_below x (Const n) = true

-- the variable has an equation among the facts
abbrev pub is_solved_in : List Fact → ℕ → Bool
is_solved_in [] x = false
is_solved_in (Eq (Var y) right ∷ facts) x = x == y || is_solved_in facts x
is_solved_in (Eq (Const n) right ∷ facts) x = is_solved_in facts x
is_solved_in (Ne left right ∷ facts) x = is_solved_in facts x

-- the expression is not a variable that has an equation
abbrev pub is_read : List Fact → Exp → Bool
is_read facts (Var x) = not (is_solved_in facts x)
is_read facts (Const n) = true

-- the fact's right side, and of a disequality the left one too, are read
abbrev pub is_read_fact : List Fact → Fact → Bool
is_read_fact facts (Eq left right) = is_read facts right
is_read_fact facts (Ne left right) = is_read facts left && is_read facts right

-- the atom's expressions are read
abbrev pub is_read_atom : List Fact → Atom → Bool
is_read_atom facts (Points at kind fields) = is_read facts at && list_all (is_read facts) fields
is_read_atom facts (Seg kind link from to) = is_read facts from && is_read facts to
is_read_atom facts Junk = true

-- the fact is a disequality
abbrev pub is_disequality : Fact → Bool
is_disequality (Eq left right) = false
is_disequality (Ne left right) = true

-- equations first, each of a logical variable from this one on and of something below it, in the order of the variables;
-- then disequalities
abbrev pub are_in_order : ℕ → List Fact → Bool
are_in_order low [] = true
are_in_order low (Eq (Var x) right ∷ facts) = leb low x && ltb x 65536 && is_below x right && are_in_order (suc x) facts
are_in_order low (Eq (Const n) right ∷ facts) = false
are_in_order low (Ne left right ∷ facts) = list_all is_disequality facts

-- some disequality is redundant beside those behind it
abbrev pub has_redundant : List Exp → List Fact → Bool
has_redundant cells [] = false
has_redundant cells (Eq left right ∷ facts) = has_redundant cells facts
has_redundant cells (Ne left right ∷ facts) = is_redundant cells facts left right || has_redundant cells facts

-- there are two Junk
abbrev pub has_two_junk : List Atom → Bool
has_two_junk [] = false
has_two_junk (atom ∷ atoms) = (is_junk atom && list_any is_junk atoms) || has_two_junk atoms

-- the heap's facts: in order, read, and none redundant
abbrev pub are_normal_facts : SymHeap → Bool
are_normal_facts heap = are_in_order 0 heap.pure && list_all (is_read_fact heap.pure) heap.pure
    && not (has_redundant (addresses heap.spatial) heap.pure)

-- the heap's atoms: read, no segment that is known to be empty, and no two Junk
abbrev pub are_normal_atoms : SymHeap → Bool
are_normal_atoms heap =
    list_all (is_read_atom heap.pure) heap.spatial && not (list_any (is_empty [] (addresses heap.spatial)) heap.spatial)
    && not (has_two_junk heap.spatial)

-- the heap is normal: its facts and atoms are, and they do not contradict one another
abbrev pub is_normal_heap : SymHeap → Bool
is_normal_heap heap = are_normal_facts heap && are_normal_atoms heap && not (has_clash heap.pure heap.spatial)

-- the state is normal: its heap is, and its locals are read
abbrev pub is_normal : SymState → Bool
is_normal state = is_normal_heap state.heap && list_all (is_read state.heap.pure) state.locals
