-- The key under which a component is analysed: its procedures, the structures used, and its callees with what is known of them.
use Rattle.std.specs.Prelude.{ℕ, zero, suc, Bool, ◌&&◌, not, nat_eq, List, [], ◌∷◌, map, length, slice_get, if◌then◌else◌}
use Rattle.std.specs.List.{list_any, filter, find, filter_map, position}
use Rattle.std.specs.Option.{option_map, unwrap_or}
use Rattle.std.specs.Cmp.Lexicographic.{pointwise}
use Rattle.std.specs.declared.option.Option.{Option}
use Rattle.std.specs.declared.option.Option.TheVariants.{None, Some}
use Rattle.shape_data.specs.declared.answer.Answer.{Answer}
use Rattle.shape_data.specs.declared.answer.Callee.{Callee}
use Rattle.shape_data.specs.declared.answer.Key.{Key}
use Rattle.shape_data.specs.declared.program.Cmd.{Cmd}
use Rattle.shape_data.specs.declared.program.Cmd.TheVariants as cmd
use Rattle.shape_data.specs.declared.program.Flow.{Flow}
use Rattle.shape_data.specs.declared.program.Program.{Program}
use Rattle.shape_data.specs.declared.program.StructDef.{StructDef}
use Rattle.shape_data.specs.declared.symbolic.Spec.{Spec}
use Rattle.component_keys.specs.Structures.{structs_used}
use Rattle.component_keys.specs.Components.{holds, calls_of, components, by_name}

-- the name of the procedure that a command calls
abbrev pub callee_of : Cmd → Option (List ℕ)
callee_of (cmd.Call to callee args next) = Some callee
callee_of _ = None

-- the names that a procedure calls
abbrev pub called_by : Flow → List (List ℕ)
called_by flow = filter_map (λ node. callee_of node.cmd) flow.nodes

-- the names of procedures
abbrev pub names_of : List Flow → List (List ℕ)
names_of flows = map (λ flow. flow.name) flows

-- the procedures of a program
abbrev pub flows_of : Program → List Flow
flows_of program = map (λ proc. proc.flow) program.procs

-- the number of the procedure of a name
abbrev pub number_of : List Flow → List ℕ → Option ℕ
number_of flows name = position (λ flow. pointwise nat_eq flow.name name) flows

-- the numbers of the defined procedures that each calls
abbrev pub calls_in : List Flow → List (List ℕ)
calls_in flows = map (λ flow. filter_map (number_of flows) (called_by flow)) flows

-- a procedure outside of a component that one of its members calls, and the number of that procedure's component
pub record Outer : Type 0 where
  pub name : List ℕ
  pub params : List (List ℕ)
  pub component : ℕ

-- a component: its procedures in order of their names, and the procedures outside that they call, in order of their names
pub record Component : Type 0 where
  pub flows : List Flow
  pub outer : List Outer

-- one of the numbers calls it, and it is none of them
abbrev pub is_outer : List (List ℕ) → List ℕ → ℕ → Bool
is_outer calls class number = not (holds class number) && list_any (λ member. holds (calls_of calls member) number) class

-- the place of the first class that holds the number, or the end
abbrev pub place_of : ℕ → List (List ℕ) → ℕ
place_of number [] = zero
place_of number (first ∷ others) = if holds first number then zero else suc (place_of number others)

-- the procedure as a callee
abbrev pub outer_at : List Flow → List (List ℕ) → ℕ → Option Outer
outer_at flows all number =
    option_map (λ flow. record { name = flow.name; params = flow.params; component = place_of number all }) (slice_get flows number)

abbrev pub component_of : List Flow → List (List ℕ) → List (List ℕ) → List ℕ → Component
component_of flows calls all class = record {
  flows = filter_map (slice_get flows) class;
  outer = filter_map (outer_at flows all) (filter (is_outer calls class) (by_name (names_of flows) (length flows)));
}

-- the components over their numbers
abbrev pub components_over : List Flow → List (List ℕ) → List (List ℕ) → List Component
components_over flows calls all = map (component_of flows calls all) all

-- the components of a program, callees first
unfoldable pub program_components : Program → List Component
program_components program =
    components_over (flows_of program) (calls_in (flows_of program))
    (components (names_of (flows_of program)) (calls_in (flows_of program)))

-- one of them calls one of them
abbrev pub is_recursive : List Flow → Bool
is_recursive flows =
    list_any (λ flow. list_any (λ name. list_any (λ other. pointwise nat_eq other name) (names_of flows)) (called_by flow)) flows

-- the specs that an answer has for a procedure
abbrev pub specs_in : Answer → List ℕ → List Spec
specs_in answer name =
    unwrap_or (option_map (λ summary. summary.specs) (find (λ summary. pointwise nat_eq summary.name name) answer.procs)) []

-- the key of a component over what is known of its callees
abbrev pub key_over : List StructDef → List Flow → List Callee → Key
key_over structs flows callees =
    record { recursive = is_recursive flows; procs = flows; structs = structs_used structs flows callees; callees = callees }
