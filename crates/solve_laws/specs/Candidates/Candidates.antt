-- The candidates of a procedure: pairs of a missing heap and a state are executed from the empty missing heap, first in first out; the
-- missing heap at each exit is a candidate. A path that is dropped drops no other.
use Rattle.std.specs.Prelude.{ℕ, zero, suc, List, [], ◌∷◌, map}
use Rattle.std.specs.declared.option.Option.{Option}
use Rattle.std.specs.declared.option.Option.TheVariants.{None, Some}
use Rattle.shape_data.specs.declared.answer.Fault.TheVariants as fault
use Rattle.shape_data.specs.declared.symbolic.SymHeap.{SymHeap}
use Rattle.shape_data.specs.declared.symbolic.SymState.{SymState}
use Rattle.sym_canon.specs.declared.parts.Pair.{Pair}
use Rattle.exec_laws.specs.declared.parts.Case.{Case}
use Rattle.exec_laws.specs.declared.parts.Case.TheVariants.{On, Leaves, Drops}
use Rattle.exec_laws.specs.Execution.{search_cases}
use Rattle.solve_laws.specs.Certificates.Coming.{Task, normal_state}
use Rattle.solve_laws.specs.Certificates.Gaps.{line_at}
use Rattle.solve_laws.specs.declared.candidates.parts.Found.{Found}
use Rattle.solve_laws.specs.Candidates.Coming.{candidate_of, pair_at_node, start_pair_at_node}
use Rattle.solve_laws.specs.Candidates.Searching.{Search, candidate_comes, drops, pair_comes, unless_none}

-- A TURN

-- a case that an execution gave: a pair is abstracted and comes to its node; at an exit the missing heap comes as a candidate; a drop
-- drops this path alone
abbrev pub case_comes : Task → ℕ → Case → Search → Search
case_comes task line (On node pair) search = unless_none (pair_comes line node) (pair_at_node task node pair) search
case_comes task line (Leaves pair) search = unless_none (candidate_comes line) (candidate_of task pair.missing) search
case_comes task line (Drops cause) search = drops cause line search

-- the cases come in order
abbrev pub cases_come : Task → ℕ → List Case → Search → Search
cases_come task line [] search = search
cases_come task line (case ∷ cases) search = cases_come task line cases (case_comes task line case search)

-- what the execution of a node gives of a missing heap and a state in normal form; nothing of a contradiction
abbrev pub cases_of_form : Task → ℕ → SymHeap → Option SymState → List Case
cases_of_form task node missing None = []
cases_of_form task node missing (Some state) =
    search_cases task.flow task.structs node (record { missing = missing; state = state }) task.table

-- the cases of a pair at a node: its state is brought to normal form first (numbering its logical variables may have left an equation
-- solved for the smaller one)
abbrev pub cases_of_pair : Task → ℕ → Pair → List Case
cases_of_pair task node pair = cases_of_form task node pair.missing (normal_state pair.state)

-- the turn of a pair at a node
abbrev pub turn_of : Task → ℕ → Pair → Search → Search
turn_of task node pair search = cases_come task (line_at task node) (cases_of_pair task node pair) search

-- ALL TURNS

-- how many turns there are at most
abbrev pub MOST_TURNS : ℕ
MOST_TURNS = 2048

-- no turn is left: if a pair waits, the search ends with `Turns` at the line of the node whose turn it would have been
abbrev pub without_turns : Task → Search → List (ℕ × Pair) → Search
without_turns task search [] = search
without_turns task search ((node, pair) ∷ queue) = drops fault.Turns (line_at task node) search

-- the first of the queue has its turn, and so again
abbrev pub with_turn : (Search → Search) → Task → Search → List (ℕ × Pair) → Search
with_turn again task search [] = search
with_turn again task search ((node, pair) ∷ queue) =
    again (turn_of task node pair (record { nodes = search.nodes; queue = queue; pres = search.pres; first_drop = search.first_drop }))

-- so many turns are left
abbrev pub turns : ℕ → Task → Search → Search
turns zero task search = without_turns task search search.queue
turns (suc left) task search = with_turn (turns left task) task search search.queue

-- THE CANDIDATES

-- nothing is listed
abbrev pub empty_search : Task → Search
empty_search task = record { nodes = map (λ node. []) task.flow.nodes; queue = []; pres = []; first_drop = None }

-- the search when the start pair has come to node 0
abbrev pub started : Task → Search
started task = unless_none (pair_comes (line_at task 0) 0) (start_pair_at_node task) (empty_search task)

-- what was found
abbrev pub found_by : Search → Found
found_by search = record { pres = search.pres; first_drop = search.first_drop }

-- CANDIDATES: the start pair comes to node 0, and then there are turns
unfoldable pub candidates : Task → Found
candidates task = found_by (turns MOST_TURNS task (started task))
