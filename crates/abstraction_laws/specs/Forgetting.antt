-- First rule: constants are forgotten, and new existential variables stand in their places.
use Rattle.std.specs.Prelude.{ℕ, ◌+◌, Bool, true, false, ◌&&◌, ◌||◌, if◌then◌else◌, max, List, [], ◌∷◌, length}
use Rattle.std.specs.declared.option.Option.{Option}
use Rattle.std.specs.declared.option.Option.TheVariants.{None, Some}
use Rattle.shape_data.specs.declared.program.Field.{Field}
use Rattle.shape_data.specs.declared.program.HeadMark.{HeadMark}
use Rattle.shape_data.specs.declared.program.StructDef.{StructDef}
use Rattle.shape_data.specs.declared.program.Ty.{Ty}
use Rattle.shape_data.specs.declared.program.Ty.TheVariants.{Int, Ptr, Void}
use Rattle.shape_data.specs.declared.symbolic.Atom.{Atom}
use Rattle.shape_data.specs.declared.symbolic.Atom.TheVariants.{Points, Seg, Junk}
use Rattle.shape_data.specs.declared.symbolic.Exp.{Exp}
use Rattle.shape_data.specs.declared.symbolic.Exp.TheVariants.{Var, Const}
use Rattle.shape_data.specs.declared.symbolic.SymState.{SymState}
use Rattle.shape_data.specs.Heap.{struct_named}
use Rattle.sym_parts.specs.Laws.Fresh.{is_one_of}
use Rattle.sym_forms.specs.Sizes.{fields_of}
use Rattle.abstraction_laws.specs.Occurrences.{exps_of_state}

-- the expression is a constant
abbrev pub is_constant : Exp → Bool
is_constant (Var x) = false
is_constant (Const n) = true

-- the type is int
abbrev pub is_int : Ty → Bool
is_int Int = true
is_int (Ptr name) = false
is_int Void = false

-- the number, or one that is above the variable
abbrev pub above_exp : ℕ → Exp → ℕ
above_exp first (Var x) = max first (x + 1)
above_exp first (Const n) = first

-- the least number from a first one on that is above all variables of the expressions
abbrev pub above : ℕ → List Exp → ℕ
above first [] = first
above first (e ∷ es) = above (above_exp first e) es

-- the first of the new existential variables: from it on none stands in the state
abbrev pub first_new : SymState → ℕ
first_new state = above 65536 (exps_of_state state)

-- a slot is forgotten where it is dead, or where it is one of the mark's ints and holds a constant
abbrev pub is_forgotten : HeadMark → ℕ → Exp → Bool
is_forgotten mark slot e = is_one_of mark.dead slot || (is_one_of mark.ints slot && is_constant e)

-- the locals from a slot on, with the new variable of its place (slot i has that of place i) for each that is forgotten
abbrev pub forget_slots : HeadMark → ℕ → ℕ → List Exp → List Exp
forget_slots mark next slot [] = []
forget_slots mark next slot (e ∷ es) = (if is_forgotten mark slot e then Var next else e) ∷ forget_slots mark (next + 1) (slot + 1) es

-- a value that is an int's constant is forgotten
abbrev pub forget_value : ℕ → Ty → Exp → Exp
forget_value next ty e = if is_int ty && is_constant e then Var next else e

-- the values of a cell's fields, with the new variable of its place for each constant of an int field
abbrev pub forget_fields : ℕ → List Field → List Exp → List Exp
forget_fields next fields [] = []
forget_fields next [] (e ∷ es) = e ∷ es
forget_fields next (field ∷ fields) (e ∷ es) = forget_value next field.ty e ∷ forget_fields (next + 1) fields es

-- the values of a cell of a structure; of one that is not listed nothing is known
abbrev pub forget_cell : ℕ → Option StructDef → List Exp → List Exp
forget_cell next (Some def) values = forget_fields next def.fields values
forget_cell next None values = values

-- an atom, each place of a cell's fields having a new variable of its own
abbrev pub forget_atom : List StructDef → ℕ → Atom → Atom
forget_atom structs next (Points at kind fields) = Points at kind (forget_cell next (struct_named structs kind) fields)
forget_atom structs next (Seg kind link from to) = Seg kind link from to
forget_atom structs next Junk = Junk

-- the atoms
abbrev pub forget_atoms : List StructDef → ℕ → List Atom → List Atom
forget_atoms structs next [] = []
forget_atoms structs next (atom ∷ atoms) = forget_atom structs next atom ∷ forget_atoms structs (next + fields_of atom) atoms

-- First rule at the head of a loop: slots in `dead`, slots in `ints` that hold a constant, and int fields that hold a constant
-- get new existential variables
abbrev pub forget : List StructDef → HeadMark → SymState → SymState
forget structs mark state = record {
  locals = forget_slots mark (first_new state) 0 state.locals;
  heap = record { pure = state.heap.pure; spatial = forget_atoms structs (first_new state + length state.locals) state.heap.spatial };
}
