-- Abstraction of a pair of a missing heap and a state at the head of a loop, and of a candidate.
use Rattle.std.specs.Prelude.{ℕ, zero, suc, ◌+◌, Bool, true, false, not, if◌then◌else◌, ◌==◌, ◌&&◌, ◌||◌, leb, ltb, List, ◌++◌, length}
use Rattle.std.specs.Prelude.{is_some, option_map}
use Rattle.std.specs.declared.option.Option.{Option}
use Rattle.std.specs.declared.option.Option.TheVariants.{None, Some}
use Rattle.shape_data.specs.declared.program.Flow.{Flow}
use Rattle.shape_data.specs.declared.program.HeadMark.{HeadMark}
use Rattle.shape_data.specs.declared.program.StructDef.{StructDef}
use Rattle.shape_data.specs.declared.symbolic.Atom.{Atom}
use Rattle.shape_data.specs.declared.symbolic.Exp.{Exp}
use Rattle.shape_data.specs.declared.symbolic.Exp.TheVariants.{Var, Const}
use Rattle.shape_data.specs.declared.symbolic.Fact.{Fact}
use Rattle.shape_data.specs.declared.symbolic.Fact.TheVariants.{Eq, Ne}
use Rattle.shape_data.specs.declared.symbolic.SymHeap.{SymHeap}
use Rattle.shape_data.specs.declared.symbolic.SymState.{SymState}
use Rattle.sym_parts.specs.Shapes.Symbolic.{emp}
use Rattle.sym_parts.specs.Laws.Expressions.{is_among}
use Rattle.sym_parts.specs.Laws.Mapped.{on_state}
use Rattle.sym_canon.specs.declared.parts.Pair.{Pair}
use Rattle.sym_canon.specs.Canonical.{canon_pair, without_locals}
use Rattle.sym_forms.specs.PairForms.{pair_form, without_facts}
use Rattle.abstraction_laws.specs.Forgetting.{first_new}
use Rattle.abstraction_laws.specs.Heads.{at_head}
use Rattle.abstraction_laws.specs.Joining.{Join, find_join, with_join}
use Rattle.abstraction_laws.specs.Losing.{is_lost_among, without_disequalities}
use Rattle.abstraction_laws.specs.Occurrences.{exps_of_atoms, exps_of_heap}

-- THE JOIN AT A LOGICAL VARIABLE

-- the variable is a logical one that is no parameter
abbrev pub is_further : ℕ → ℕ → Bool
is_further params x = leb params x && ltb x 65536

-- the variable stands in no atom, or the atoms may be joined at it
abbrev pub is_absent_or_joint : List Atom → ℕ → Bool
is_absent_or_joint atoms x = not (is_among (Var x) (exps_of_atoms atoms)) || is_some (find_join (λ y. y == x) atoms)

-- a pair may be joined at a variable: it is a logical one that is no parameter, it is in no local, and the state's atoms don't
-- hinder it
abbrev pub may_join : ℕ → SymState → ℕ → Bool
may_join params state x = is_further params x && not (is_among (Var x) state.locals) && is_absent_or_joint state.heap.spatial x

-- the heap with the join made, if there is one
abbrev pub heap_with_join : SymHeap → Option Join → SymHeap
heap_with_join heap join = record { pure = heap.pure; spatial = with_join heap.spatial join }

-- the state with its atoms joined at the variable, where they may be
abbrev pub state_joined_at : SymState → Exp → SymState
state_joined_at state (Var x) =
    record { locals = state.locals; heap = heap_with_join state.heap (find_join (λ y. y == x) state.heap.spatial) }
state_joined_at state (Const n) = state

-- the pair with a join of the missing heap made, in the state too if the middle stands in its atoms
abbrev pub pair_with_join : Pair → Option Join → Pair
pair_with_join pair (Some join) =
    record { missing = heap_with_join pair.missing (Some join); state = state_joined_at pair.state join.middle }
pair_with_join pair None = pair

-- the first join of the missing heap at which the pair may be joined, made
abbrev pub join_pair_once : ℕ → Pair → Pair
join_pair_once params pair = pair_with_join pair (find_join (may_join params pair.state) pair.missing.spatial)

-- so many times
abbrev pub join_pair_times : ℕ → ℕ → Pair → Pair
join_pair_times zero params pair = pair
join_pair_times (suc turns) params pair = join_pair_times turns params (join_pair_once params pair)

-- Second step of a pair: joins at logical variables until there is none. Each takes an atom of the missing heap, so as many
-- turns as it has atoms are enough
abbrev pub join_pair : ℕ → Pair → Pair
join_pair params pair = join_pair_times (length pair.missing.spatial) params pair

-- THE OTHER STEPS

-- First step: the four rules in the state
abbrev pub reduce_state : List StructDef → HeadMark → Pair → Pair
reduce_state structs mark pair = record { missing = pair.missing; state = at_head structs mark pair.state }

-- the variable is a logical one that is no parameter and not in the missing heap
abbrev pub is_unknown : ℕ → SymHeap → ℕ → Bool
is_unknown params missing x = is_further params x && not (is_among (Var x) (exps_of_heap missing))

-- such a variable x becomes the existential variable that is x above another
abbrev pub made_existential : ℕ → ℕ → SymHeap → Exp → Exp
made_existential params first missing (Var x) = if is_unknown params missing x then Var (first + x) else Var x
made_existential params first missing (Const n) = Const n

-- Third step: logical variables of the state that are no parameters and not in the missing heap become existential; above the
-- state's own existential variables all are new
abbrev pub make_existential : ℕ → Pair → Pair
make_existential params pair =
    record { missing = pair.missing; state = on_state (made_existential params (first_new pair.state) pair.missing) pair.state }

-- the fact is an equation of a variable that is neither a parameter nor in the missing heap
abbrev pub is_lost_equation : ℕ → SymHeap → Fact → Bool
is_lost_equation params missing (Eq (Var x) right) = not (ltb x params || is_among (Var x) (exps_of_heap missing))
is_lost_equation params missing (Eq (Const n) right) = true
is_lost_equation params missing (Ne left right) = false

-- the state without facts that pass the test
abbrev pub state_without_facts : (Fact → Bool) → SymState → SymState
state_without_facts test state = record { locals = state.locals; heap = without_facts test state.heap }

-- Fourth step: such equations go from the state
abbrev pub lose_equations : ℕ → Pair → Pair
lose_equations params pair =
    record { missing = pair.missing; state = state_without_facts (is_lost_equation params pair.missing) pair.state }

-- the expressions of the locals and of the atoms of both heaps
abbrev pub exps_beside_facts : Pair → List Exp
exps_beside_facts pair = pair.state.locals ++ exps_of_atoms (pair.state.heap.spatial ++ pair.missing.spatial)

-- the heap without the disequalities of what passes the test
abbrev pub heap_without_disequalities : (Exp → Bool) → SymHeap → SymHeap
heap_without_disequalities test heap = record { pure = without_disequalities test heap.pure; spatial = heap.spatial }

-- Fifth step: disequalities over a variable that is no parameter, and in no local and no atom of either heap, go from both
abbrev pub lose_in_pair : ℕ → Pair → Pair
lose_in_pair params pair = record {
  missing = heap_without_disequalities (is_lost_among params (exps_beside_facts pair)) pair.missing;
  state =
      record {
        locals = pair.state.locals;
        heap = heap_without_disequalities (is_lost_among params (exps_beside_facts pair)) pair.state.heap;
      };
}

-- the five steps, once and in order
abbrev pub five_steps : ℕ → List StructDef → HeadMark → Pair → Pair
five_steps params structs mark pair =
    lose_in_pair params (lose_equations params (make_existential params (join_pair params (reduce_state structs mark pair))))

-- THE TWO CALLS

-- a pair in canonical form
abbrev pub canon_of : ℕ → Pair → Pair
canon_of params pair = canon_pair pair.missing pair.state params

-- a pair in normal and then in canonical form; none where one of its parts is a contradiction
abbrev pub pair_in_forms : ℕ → Pair → Option Pair
pair_in_forms params pair = option_map (canon_of params) (pair_form params pair)

-- a pair at the head of a loop
abbrev pub abstract_pair : Pair → Flow → HeadMark → List StructDef → Option Pair
abstract_pair pair flow mark structs = pair_in_forms (length flow.params) (five_steps (length flow.params) structs mark pair)

-- a missing heap beside a state that says nothing
abbrev pub beside_nothing : SymHeap → Pair
beside_nothing missing = record { missing = missing; state = without_locals emp }

-- a candidate of a recursive component: joined at its logical variables that are no parameters, as the missing heap of a
-- pair whose state hinders nothing
abbrev pub abstract_pre : SymHeap → ℕ → Option SymHeap
abstract_pre missing params = option_map (λ pair. pair.missing) (pair_in_forms params (join_pair params (beside_nothing missing)))
