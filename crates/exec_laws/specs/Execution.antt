-- Symbolic execution of one node. What comes of its command is a list of cases in the order of its row: each goes on at a node,
-- leaves the procedure, or is dropped. One definition serves strict execution, of a state, and the search's, of a pair of a
-- missing heap and a state.
use Rattle.std.specs.Prelude.{ℕ, pos, List, [], ◌∷◌, filter_map, length, option_map, slice_get, slice_index_or}
use Rattle.std.specs.declared.option.Option.{Option}
use Rattle.std.specs.declared.option.Option.TheVariants.{None, Some}
use Rattle.shape_data.specs.declared.answer.Fault.{Fault}
use Rattle.shape_data.specs.declared.program.Cmd.{Cmd}
use Rattle.shape_data.specs.declared.program.Cmd.TheVariants as cmd
use Rattle.shape_data.specs.declared.program.Flow.{Flow}
use Rattle.shape_data.specs.declared.program.Node.{Node}
use Rattle.shape_data.specs.declared.program.StructDef.{StructDef}
use Rattle.shape_data.specs.declared.symbolic.Exp.TheVariants.{Const}
use Rattle.shape_data.specs.declared.symbolic.Post.{Post}
use Rattle.shape_data.specs.declared.symbolic.SymState.{SymState}
use Rattle.sym_parts.specs.Shapes.Symbolic.{emp}
use Rattle.sym_canon.specs.declared.parts.Pair.{Pair}
use Rattle.exec_laws.specs.declared.parts.Case.{Case}
use Rattle.exec_laws.specs.declared.parts.Case.TheVariants.{On, Leaves, Drops}
use Rattle.exec_laws.specs.declared.parts.Mode.{Mode}
use Rattle.exec_laws.specs.declared.parts.Mode.TheVariants.{Strict, Search}
use Rattle.exec_laws.specs.declared.parts.Step.{Step}
use Rattle.exec_laws.specs.declared.parts.Step.TheVariants as step
use Rattle.exec_laws.specs.declared.parts.Table.{Table}
use Rattle.exec_laws.specs.Branching.{branch}
use Rattle.exec_laws.specs.Calling.{call}
use Rattle.exec_laws.specs.Cells.{free, load, new, store}
use Rattle.exec_laws.specs.Pairs.{Setting, canonical, formed}
use Rattle.exec_laws.specs.Values.{any, arith, copy, leave}

-- the cases of a command, in the order of its row
abbrev pub cases_of : Setting → Pair → Cmd → List Case
cases_of setting pair (cmd.Copy to from next) = copy to from next pair
cases_of setting pair (cmd.Arith to op left right next) = arith to op left right next pair
cases_of setting pair (cmd.Any to ty next) = any to next pair
cases_of setting pair (cmd.Load to base kind field next) = load setting to base kind field next pair
cases_of setting pair (cmd.Store base kind field from next) = store setting base kind field from next pair
cases_of setting pair (cmd.New to kind next) = new setting to kind next pair
cases_of setting pair (cmd.Free base kind next) = free setting base kind next pair
cases_of setting pair (cmd.Call to callee args next) = call setting to callee args next pair
cases_of setting pair (cmd.Branch op pointers left right on_true on_false) = branch setting op pointers left right on_true on_false pair
cases_of setting pair (cmd.Return value) = leave value pair

-- the canonical form of a pair's normal form; a contradiction is left out
abbrev pub both_forms : Setting → Pair → Option Pair
both_forms setting pair = option_map (canonical setting.mode setting.params) (formed setting.mode setting.params pair)

-- a case with its pair in these forms
abbrev pub formed_case : Setting → Case → Option Case
formed_case setting (On node pair) = option_map (On node) (both_forms setting pair)
formed_case setting (Leaves pair) = option_map Leaves (both_forms setting pair)
formed_case setting (Drops cause) = Some (Drops cause)

-- the cases of a command, in normal and canonical form
abbrev pub formed_cases : Setting → Pair → Cmd → List Case
formed_cases setting pair command = filter_map (formed_case setting) (cases_of setting pair command)

-- the cases of a node; without a node there are none
abbrev pub cases_at : Setting → Pair → Option Node → List Case
cases_at setting pair None = []
cases_at setting pair (Some node) = formed_cases setting pair node.cmd

-- the setting of a procedure
abbrev pub setting_of : Mode → Flow → List StructDef → Table → Setting
setting_of mode flow structs table = record { mode = mode; params = length flow.params; structs = structs; table = table }

-- EXECUTION of a node of a procedure, from a pair
abbrev pub execution : Mode → Flow → List StructDef → ℕ → Pair → Table → List Case
execution mode flow structs node pair table = cases_at (setting_of mode flow structs table) pair (slice_get flow.nodes node)

-- IN THE SEARCH: the cases, drops among them
abbrev pub search_cases : Flow → List StructDef → ℕ → Pair → Table → List Case
search_cases flow structs node pair table = execution Search flow structs node pair table

-- STRICT: if some case is dropped, failure with the fault of the first; else where it goes on, and where it leaves

-- the fault of the first case that is dropped
abbrev pub first_drop : List Case → Option Fault
first_drop [] = None
first_drop (On node pair ∷ cases) = first_drop cases
first_drop (Leaves pair ∷ cases) = first_drop cases
first_drop (Drops cause ∷ cases) = Some cause

-- where it goes on
abbrev pub next_of : Case → Option (ℕ × SymState)
next_of (On node pair) = Some (node, pair.state)
next_of (Leaves pair) = None
next_of (Drops cause) = None

-- the post of a state whose one local is the result
abbrev pub post_of : SymState → Post
post_of state = record { ret = slice_index_or state.locals 0 (Const (pos 0)); heap = state.heap }

-- where it leaves
abbrev pub exit_of : Case → Option Post
exit_of (On node pair) = None
exit_of (Leaves pair) = Some (post_of pair.state)
exit_of (Drops cause) = None

-- the answer of strict execution
abbrev pub answer : ℕ → List Case → Option Fault → Step
answer line cases None = step.Next (filter_map next_of cases) (filter_map exit_of cases)
answer line cases (Some cause) = step.Fail cause line

-- the line of a node
abbrev pub line_of : Option Node → ℕ
line_of None = 0
line_of (Some node) = node.line

-- a state with nothing missing
abbrev pub nothing_missing : SymState → Pair
nothing_missing state = record { missing = emp; state = state }

-- the answer to these cases
abbrev pub answer_to : ℕ → List Case → Step
answer_to line cases = answer line cases (first_drop cases)

-- STRICT EXECUTION of a node from a state
abbrev pub exec : Flow → List StructDef → ℕ → SymState → Table → Step
exec flow structs node state table =
    answer_to (line_of (slice_get flow.nodes node)) (execution Strict flow structs node (nothing_missing state) table)
