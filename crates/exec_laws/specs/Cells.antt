-- The rows of the commands on cells: Load, Store, New, Free.
use Rattle.std.specs.Prelude.{ℕ, suc, pos, if◌then◌else◌, List, [], ◌∷◌, ◌++◌, length, map, position, slice_get, slice_index_or, slice_set}
use Rattle.std.specs.List.{remove}
use Rattle.std.specs.Str.{bytes_eq}
use Rattle.std.specs.declared.option.Option.{Option}
use Rattle.std.specs.declared.option.Option.TheVariants.{None, Some}
use Rattle.shape_data.specs.declared.answer.Fault.TheVariants as fault
use Rattle.shape_data.specs.declared.program.Operand.{Operand}
use Rattle.shape_data.specs.declared.program.StructDef.{StructDef}
use Rattle.shape_data.specs.declared.symbolic.Atom.{Atom}
use Rattle.shape_data.specs.declared.symbolic.Atom.TheVariants.{Points, Seg, Junk}
use Rattle.shape_data.specs.declared.symbolic.Exp.{Exp}
use Rattle.shape_data.specs.declared.symbolic.Exp.TheVariants.{Var, Const}
use Rattle.shape_data.specs.declared.symbolic.Fact.TheVariants.{Eq, Ne}
use Rattle.shape_data.specs.Heap.{struct_named}
use Rattle.sym_parts.specs.Laws.Expressions.{same_exp}
use Rattle.sym_canon.specs.declared.parts.Pair.{Pair}
use Rattle.sym_canon.specs.Placing.{is_cell_at}
use Rattle.sym_pure.specs.Sources.{differs}
use Rattle.exec_laws.specs.declared.parts.Case.{Case}
use Rattle.exec_laws.specs.declared.parts.Case.TheVariants.{On, Drops}
use Rattle.exec_laws.specs.declared.parts.Exposed.{Exposed}
use Rattle.exec_laws.specs.declared.parts.Exposed.TheVariants.{Shown, Lacking}
use Rattle.exec_laws.specs.Exposing.{cause_at, expose}
use Rattle.exec_laws.specs.Pairs.{Setting, atoms_of, in_slot, new_existentials, unless_left_out, where_true, with_atoms, with_slot}
use Rattle.exec_laws.specs.Values.{operand}

-- THE CELL AT A SLOT

-- the place of the first cell at what a slot holds
abbrev pub cell_place : ℕ → Pair → Option ℕ
cell_place slot pair = position (is_cell_at (in_slot pair slot)) (atoms_of pair)

-- what comes of the cell at what a slot holds, by its place and itself; null or unowned without one. (Each case of expose has one)
abbrev pub at_place : (ℕ → Option Atom → Case) → ℕ → Pair → Option ℕ → Case
at_place use_atom slot pair None = Drops (cause_at (in_slot pair slot))
at_place use_atom slot pair (Some place) = use_atom place (slice_get (atoms_of pair) place)

-- what comes of one case of expose; one without a cell is dropped
abbrev pub in_case : (Pair → ℕ → Option Atom → Case) → ℕ → Exposed → Case
in_case use_atom slot (Shown pair) = at_place (use_atom pair) slot pair (cell_place slot pair)
in_case use_atom slot (Lacking cause) = Drops cause

-- for each case of expose its cell
abbrev pub for_each_case : (Pair → ℕ → Option Atom → Case) → ℕ → List Exposed → List Case
for_each_case use_atom slot cases = map (in_case use_atom slot) cases

-- the cell's address and fields; a cell of another kind is dropped
abbrev pub with_fields : List ℕ → (Exp → List Exp → Case) → Exp → Option Atom → Case
with_fields kind use_fields e None = Drops (cause_at e)
with_fields kind use_fields e (Some (Points at kind' fields)) = if bytes_eq kind' kind then use_fields at fields else Drops fault.Kind
with_fields kind use_fields e (Some (Seg kind' link from to)) = Drops (cause_at e)
with_fields kind use_fields e (Some Junk) = Drops (cause_at e)

-- LOAD: for each case of expose the field's value; a cell of another kind is dropped
abbrev pub load_fields : ℕ → ℕ → ℕ → Pair → Exp → List Exp → Case
load_fields to field next pair at fields = On next (with_slot to (slice_index_or fields field (Const (pos 0))) pair)

abbrev pub load_cell : ℕ → ℕ → List ℕ → ℕ → ℕ → Pair → ℕ → Option Atom → Case
load_cell to base kind field next pair place cell = with_fields kind (load_fields to field next pair) (in_slot pair base) cell

abbrev pub load : Setting → ℕ → ℕ → List ℕ → ℕ → ℕ → Pair → List Case
load setting to base kind field next pair = for_each_case (load_cell to base kind field next) base (expose setting kind base pair)

-- STORE: for each case of expose the cell with the value in its field; a cell of another kind is dropped
abbrev pub store_fields : List ℕ → ℕ → Operand → ℕ → Pair → ℕ → Exp → List Exp → Case
store_fields kind field from next pair place at fields =
    On next (with_atoms (slice_set (atoms_of pair) place (Points at kind (slice_set fields field (operand pair from)))) pair)

abbrev pub store_cell : ℕ → List ℕ → ℕ → Operand → ℕ → Pair → ℕ → Option Atom → Case
store_cell base kind field from next pair place cell =
    with_fields kind (store_fields kind field from next pair place) (in_slot pair base) cell

abbrev pub store : Setting → ℕ → List ℕ → ℕ → Operand → ℕ → Pair → List Case
store setting base kind field from next pair = for_each_case (store_cell base kind field from next) base (expose setting kind base pair)

-- a cell at the first of these new variables, with the others in its fields, and its address in the slot
abbrev pub with_new : ℕ → List ℕ → List ℕ → Pair → Pair
with_new to kind [] pair = pair
with_new to kind (at ∷ fields) pair = with_slot to (Var at) (with_atoms (atoms_of pair ++ Points (Var at) kind (map Var fields) ∷ []) pair)

-- a new existential address with a cell of new fields. (In well-formed procedures the structure of a command is listed)
abbrev pub new_struct : ℕ → List ℕ → ℕ → Pair → Option StructDef → Case
new_struct to kind next pair None = Drops fault.Kind
new_struct to kind next pair (Some def) = On next (with_new to kind (new_existentials (suc (length def.fields)) pair) pair)

-- NEW: 0; then a new existential address with a cell of new fields
abbrev pub new : Setting → ℕ → List ℕ → ℕ → Pair → List Case
new setting to kind next pair =
    On next (with_slot to (Const (pos 0)) pair) ∷ new_struct to kind next pair (struct_named setting.structs kind) ∷ []

-- the case that is no contradiction goes on
abbrev pub goes_on : ℕ → Option Pair → List Case
goes_on next made = unless_left_out (λ pair. On next pair ∷ []) made

-- FREE, the case e = 0, unless e and 0 differ: unchanged but for that fact
abbrev pub free_null : Setting → Exp → ℕ → Pair → List Case
free_null setting e next pair =
    if differs pair.state.heap e (Const (pos 0)) then [] else goes_on next (where_true setting (Eq e (Const (pos 0))) pair)

-- the cell goes, whatever its kind
abbrev pub without_cell : ℕ → Pair → ℕ → Option Atom → Case
without_cell next pair place cell = On next (with_atoms (remove (atoms_of pair) place) pair)

-- FREE, the case e != 0: that fact is added, then for each case of expose the cell goes. (Each case is in normal form by then,
-- so that the fact goes before the cell)
abbrev pub free_cell : Setting → ℕ → List ℕ → Exp → ℕ → Pair → List Case
free_cell setting base kind e next pair =
    unless_left_out (λ apart. for_each_case (without_cell next) base (expose setting kind base apart))
    (where_true setting (Ne e (Const (pos 0))) pair)

-- FREE e: e is 0: unchanged. Else the case e = 0, then the case e != 0
abbrev pub free_at : Setting → ℕ → List ℕ → Exp → ℕ → Pair → List Case
free_at setting base kind e next pair =
    if same_exp e (Const (pos 0)) then On next pair ∷ [] else free_null setting e next pair ++ free_cell setting base kind e next pair

abbrev pub free : Setting → ℕ → List ℕ → ℕ → Pair → List Case
free setting base kind next pair = free_at setting base kind (in_slot pair base) next pair
