-- How pairs come to a node: abstracted at the head of a loop. And how the missing heap at an exit becomes a candidate.
use Rattle.std.specs.Prelude.{ℕ, ◌+◌, Bool, true, false, ◌&&◌, ◌||◌, ltb, length, option_map}
use Rattle.std.specs.Option.{option_and_then}
use Rattle.std.specs.declared.option.Option.{Option}
use Rattle.std.specs.declared.option.Option.TheVariants.{None, Some}
use Rattle.shape_data.specs.declared.program.HeadMark.{HeadMark}
use Rattle.shape_data.specs.declared.symbolic.SymHeap.{SymHeap}
use Rattle.shape_data.specs.declared.symbolic.SymState.{SymState}
use Rattle.sym_parts.specs.Shapes.Symbolic.{emp}
use Rattle.sym_canon.specs.declared.parts.Pair.{Pair}
use Rattle.sym_canon.specs.Canonical.{canon_pair}
use Rattle.abstraction_laws.specs.Pairs.{abstract_pair, abstract_pre, beside_nothing, pair_in_forms}
use Rattle.solve_laws.specs.Certificates.Coming.{Task, mark_at, start_form}
use Rattle.solve_laws.specs.Certificates.Sameness.{same_heap, same_state}

-- PAIRS

-- the two pairs are the same
abbrev pub same_pair : Pair → Pair → Bool
same_pair a b = same_heap a.missing b.missing && same_state a.state b.state

-- the parts of a heap: facts and atoms
abbrev pub parts_of : SymHeap → ℕ
parts_of heap = length heap.pure + length heap.spatial

-- a heap of the pair has over 96 parts
abbrev pub has_many_parts : Pair → Bool
has_many_parts pair = ltb 96 (parts_of pair.missing) || ltb 96 (parts_of pair.state.heap)

-- a pair that comes to a node with this mark: abstracted, where there is one
abbrev pub pair_at_mark : Task → Option HeadMark → Pair → Option Pair
pair_at_mark task None pair = Some pair
pair_at_mark task (Some mark) pair = abstract_pair pair task.flow mark task.structs

-- a pair that comes to the node at a place
abbrev pub pair_at_node : Task → ℕ → Pair → Option Pair
pair_at_node task at pair = pair_at_mark task (mark_at task.flow at) pair

-- the start pair: nothing is missing, beside the start state of the empty heap
abbrev pub start_pair : Task → SymState → Pair
start_pair task start = canon_pair emp start (length task.flow.params)

-- the start pair, which comes to node 0
abbrev pub start_pair_at_node : Task → Option Pair
start_pair_at_node task = option_and_then (λ start. pair_at_node task 0 (start_pair task start)) (start_form task.flow emp)

-- CANDIDATES

-- a missing heap in normal and canonical form, its further variables numbered as they come into sight in it
abbrev pub in_form : ℕ → SymHeap → Option SymHeap
in_form params missing = option_map (λ pair. pair.missing) (pair_in_forms params (beside_nothing missing))

-- a missing heap at an exit: joined, in a recursive component
abbrev pub candidate_by : Bool → ℕ → SymHeap → Option SymHeap
candidate_by true params missing = abstract_pre missing params
candidate_by false params missing = in_form params missing

abbrev pub candidate_of : Task → SymHeap → Option SymHeap
candidate_of task missing = candidate_by task.recursive (length task.flow.params) missing
