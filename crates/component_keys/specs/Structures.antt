-- Which structures the analysis of some procedures depends on: those that the procedures or their callees' specs name, and those that
-- the fields of such structures point to, again and again.
use Rattle.std.specs.Prelude.{ℕ, nat_eq, List, ◌++◌, map, slice_get, length}
use Rattle.std.specs.List.{filter, filter_map, flat_map, position}
use Rattle.std.specs.Cmp.Lexicographic.{pointwise}
use Rattle.std.specs.Option.{option_to_list}
use Rattle.std.specs.declared.option.Option.{Option}
use Rattle.std.specs.declared.option.Option.TheVariants.{None, Some}
use Rattle.shape_data.specs.declared.answer.Callee.{Callee}
use Rattle.shape_data.specs.declared.program.Cmd.{Cmd}
use Rattle.shape_data.specs.declared.program.Cmd.TheVariants as cmd
use Rattle.shape_data.specs.declared.program.Flow.{Flow}
use Rattle.shape_data.specs.declared.program.StructDef.{StructDef}
use Rattle.shape_data.specs.declared.program.Ty.{Ty}
use Rattle.shape_data.specs.declared.program.Ty.TheVariants.{Int, Ptr, Void}
use Rattle.shape_data.specs.declared.symbolic.Atom.{Atom}
use Rattle.shape_data.specs.declared.symbolic.Atom.TheVariants.{Points, Seg, Junk}
use Rattle.shape_data.specs.declared.symbolic.Spec.{Spec}
use Rattle.shape_data.specs.declared.symbolic.SymHeap.{SymHeap}
use Rattle.component_keys.specs.Components.{holds, reached_from, by_name}

-- the structure that a type points to
abbrev pub type_struct : Ty → Option (List ℕ)
type_struct Int = None
type_struct (Ptr name) = Some name
type_struct Void = None

-- the structure that a command names
abbrev pub command_struct : Cmd → Option (List ℕ)
command_struct (cmd.Any to ty next) = type_struct ty
command_struct (cmd.Load to base kind field next) = Some kind
command_struct (cmd.Store base kind field from next) = Some kind
command_struct (cmd.New to kind next) = Some kind
command_struct (cmd.Free base kind next) = Some kind
command_struct _ = None

-- the structures that a procedure names: in the types of its slots and of its result, and in its commands
abbrev pub named_by_flow : Flow → List (List ℕ)
named_by_flow flow = filter_map type_struct flow.slots ++ option_to_list (type_struct flow.ret)
    ++ filter_map (λ node. command_struct node.cmd) flow.nodes

-- the structure of a cell or of a segment's cells
abbrev pub atom_struct : Atom → Option (List ℕ)
atom_struct (Points at kind fields) = Some kind
atom_struct (Seg kind link from to) = Some kind
atom_struct Junk = None

abbrev pub named_by_heap : SymHeap → List (List ℕ)
named_by_heap heap = filter_map atom_struct heap.spatial

abbrev pub named_by_spec : Spec → List (List ℕ)
named_by_spec spec = named_by_heap spec.pre ++ flat_map (λ post. named_by_heap post.heap) spec.posts

abbrev pub named_by_callee : Callee → List (List ℕ)
named_by_callee callee = flat_map named_by_spec callee.specs

-- the number of the structure of a name
abbrev pub struct_number : List StructDef → List ℕ → Option ℕ
struct_number structs name = position (λ def. pointwise nat_eq def.name name) structs

-- the numbers of the listed structures among these names
abbrev pub struct_numbers : List StructDef → List (List ℕ) → List ℕ
struct_numbers structs names = filter_map (struct_number structs) names

-- the numbers of the structures that a structure's fields point to
abbrev pub pointed_by : List StructDef → StructDef → List ℕ
pointed_by structs def = struct_numbers structs (filter_map (λ field. type_struct field.ty) def.fields)

-- the same for each structure
abbrev pub pointed_rows : List StructDef → List (List ℕ)
pointed_rows structs = map (pointed_by structs) structs

-- the numbers of the structures that the procedures or the callees' specs name
abbrev pub named_numbers : List StructDef → List Flow → List Callee → List ℕ
named_numbers structs flows callees = struct_numbers structs (flat_map named_by_flow flows ++ flat_map named_by_callee callees)

-- the structures of these numbers and those that their fields point to, again and again, in order of their names
abbrev pub structs_from : List StructDef → List ℕ → List StructDef
structs_from structs numbers =
    filter_map (slice_get structs)
    (filter (holds (reached_from (pointed_rows structs) numbers)) (by_name (map (λ def. def.name) structs) (length structs)))

-- the structures used by procedures with these callees
unfoldable pub structs_used : List StructDef → List Flow → List Callee → List StructDef
structs_used structs flows callees = structs_from structs (named_numbers structs flows callees)
