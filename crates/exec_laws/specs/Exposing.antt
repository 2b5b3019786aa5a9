-- Expose: the cases in which a cell stands at what a slot holds. If there is a cell at it, that is it. Else, with the first segment
-- from e to t: the empty case, unless e and t differ, takes it away, adds e = t and exposes again; the unfolded case has a cell at
-- e with new existential fields and a segment from its link. Else there is none: null or unowned.
-- In the search the unfolded case adds e != t too, and a logical variable without an atom gets a cell in both heaps.
use Rattle.std.specs.Prelude.{ℕ, zero, suc, pos, if◌then◌else◌, List, [], ◌∷◌, ◌++◌, length, map, position, slice_get}
use Rattle.std.specs.List.{insert, list_any, remove}
use Rattle.std.specs.declared.option.Option.{Option}
use Rattle.std.specs.declared.option.Option.TheVariants.{None, Some}
use Rattle.shape_data.specs.declared.answer.Fault.{Fault}
use Rattle.shape_data.specs.declared.answer.Fault.TheVariants as fault
use Rattle.shape_data.specs.declared.program.StructDef.{StructDef}
use Rattle.shape_data.specs.declared.symbolic.Atom.{Atom}
use Rattle.shape_data.specs.declared.symbolic.Atom.TheVariants.{Points, Seg, Junk}
use Rattle.shape_data.specs.declared.symbolic.Exp.{Exp}
use Rattle.shape_data.specs.declared.symbolic.Exp.TheVariants.{Var, Const}
use Rattle.shape_data.specs.declared.symbolic.Fact.TheVariants.{Eq, Ne}
use Rattle.shape_data.specs.declared.symbolic.SymHeap.{SymHeap}
use Rattle.shape_data.specs.Heap.{struct_named}
use Rattle.sym_parts.specs.Laws.Expressions.{same_exp}
use Rattle.sym_canon.specs.declared.parts.Pair.{Pair}
use Rattle.sym_canon.specs.Placing.{is_cell_at, is_segment_from}
use Rattle.sym_pure.specs.Sources.{differs}
use Rattle.sym_matching.specs.Reading.{is_logical_variable}
use Rattle.sym_matching.specs.Steps.{contradicts}
use Rattle.sym_matching.specs.Renaming.Calls.{variables_from}
use Rattle.exec_laws.specs.declared.parts.Exposed.{Exposed}
use Rattle.exec_laws.specs.declared.parts.Exposed.TheVariants.{Shown, Lacking}
use Rattle.exec_laws.specs.declared.parts.Mode.{Mode}
use Rattle.exec_laws.specs.declared.parts.Mode.TheVariants.{Strict, Search}
use Rattle.exec_laws.specs.Pairs.{Setting, atoms_of, formed, in_slot, new_existentials, new_logical, unless_left_out, where_true}
use Rattle.exec_laws.specs.Pairs.{with_atoms}

-- a case that is no contradiction
abbrev pub shown : Option Pair → List Exposed
shown made = unless_left_out (λ pair. Shown pair ∷ []) made

-- THERE IS NONE

-- null where e is 0, and unowned otherwise
abbrev pub cause_at : Exp → Fault
cause_at e = if same_exp e (Const (pos 0)) then fault.Null else fault.Unowned

-- without a cell at e
abbrev pub lacking : Exp → List Exposed
lacking e = Lacking (cause_at e) ∷ []

-- A MISSING CELL, IN THE SEARCH

-- the heap with one more atom
abbrev pub with_atom : Atom → SymHeap → SymHeap
with_atom atom heap = record heap { spatial = heap.spatial ++ atom ∷ [] }

-- the pair with one more atom in both heaps
abbrev pub with_atom_in_both : Atom → Pair → Pair
with_atom_in_both atom pair = with_atoms (atoms_of pair ++ atom ∷ []) (record pair { missing = with_atom atom pair.missing })

-- the cell joins both heaps; unowned where the missing heap becomes a contradiction
abbrev pub miss_cell : Setting → Atom → Pair → List Exposed
miss_cell setting cell pair =
    if contradicts (with_atom cell pair.missing)
    then Lacking fault.Unowned ∷ []
    else shown (formed setting.mode setting.params (with_atom_in_both cell pair))

-- a cell of a structure at e, with new logical fields. (In well-formed procedures the structure of a command is listed)
abbrev pub miss_struct : Setting → List ℕ → Exp → Pair → Option StructDef → List Exposed
miss_struct setting kind e pair None = Lacking fault.Kind ∷ []
miss_struct setting kind e pair (Some def) =
    miss_cell setting (Points e kind (map Var (variables_from (new_logical setting.params pair) (length def.fields)))) pair

-- NO ATOM FROM e

-- null or unowned; in the search, a logical variable gets a cell of the command's kind in both heaps
abbrev pub without_atom : Mode → Setting → List ℕ → Exp → Pair → List Exposed
without_atom Strict setting kind e pair = lacking e
without_atom Search setting kind e pair =
    if is_logical_variable e then miss_struct setting kind e pair (struct_named setting.structs kind) else lacking e

-- A SEGMENT FROM e TO t

-- the segment at the place is taken away
abbrev pub without_segment : ℕ → Pair → Pair
without_segment place pair = with_atoms (remove (atoms_of pair) place) pair

-- THE EMPTY CASE, unless e and t differ: the segment goes, e = t is added, and so again
abbrev pub empty_case : (Pair → List Exposed) → Setting → Pair → ℕ → Exp → Exp → List Exposed
empty_case again setting pair place e t =
    if differs pair.state.heap e t then [] else unless_left_out again (where_true setting (Eq e t) (without_segment place pair))

-- the segment at the place becomes a cell with these fields and a segment from its link
abbrev pub with_unfolded : ℕ → List ℕ → ℕ → Exp → Exp → List ℕ → ℕ → Pair → Pair
with_unfolded place kind link e t fields next pair =
    with_atoms
    (insert (insert (remove (atoms_of pair) place) place (Seg kind link (Var next) t)) place (Points e kind (map Var fields))) pair

-- in the search the ends differ. In strict execution nothing is added, since a chain from e to an equal end may be a cycle
abbrev pub where_ends_differ : Mode → Setting → Exp → Exp → Pair → Option Pair
where_ends_differ Strict setting e t pair = formed Strict setting.params pair
where_ends_differ Search setting e t pair = where_true setting (Ne e t) pair

-- with new fields, of which this is the link. (In well-formed heaps the link is a field of its structure, which is listed)
abbrev pub unfolded_to : Setting → Pair → ℕ → List ℕ → ℕ → Exp → Exp → List ℕ → Option ℕ → List Exposed
unfolded_to setting pair place kind link e t fields None = Lacking fault.Kind ∷ []
unfolded_to setting pair place kind link e t fields (Some next) =
    shown (where_ends_differ setting.mode setting e t (with_unfolded place kind link e t fields next pair))

-- with these new fields
abbrev pub unfolded_with : Setting → Pair → ℕ → List ℕ → ℕ → Exp → Exp → List ℕ → List Exposed
unfolded_with setting pair place kind link e t fields = unfolded_to setting pair place kind link e t fields (slice_get fields link)

-- THE UNFOLDED CASE: a cell at e with new existential fields, and a segment from its link
abbrev pub unfolded_case : Setting → Pair → ℕ → List ℕ → ℕ → Exp → Exp → Option StructDef → List Exposed
unfolded_case setting pair place kind link e t None = Lacking fault.Kind ∷ []
unfolded_case setting pair place kind link e t (Some def) =
    unfolded_with setting pair place kind link e t (new_existentials (length def.fields) pair)

-- both cases, of the segment at the place
abbrev pub cases_of_segment : (Pair → List Exposed) → Setting → Exp → Pair → ℕ → Option Atom → List Exposed
cases_of_segment again setting e pair place None = lacking e
cases_of_segment again setting e pair place (Some (Points at kind fields)) = lacking e
cases_of_segment again setting e pair place (Some (Seg kind link from to)) =
    empty_case again setting pair place from to ++ unfolded_case setting pair place kind link from to (struct_named setting.structs kind)
cases_of_segment again setting e pair place (Some Junk) = lacking e

-- with the first segment from e, or without one
abbrev pub at_segment : (Pair → List Exposed) → Setting → List ℕ → Exp → Pair → Option ℕ → List Exposed
at_segment again setting kind e pair None = without_atom setting.mode setting kind e pair
at_segment again setting kind e pair (Some place) = cases_of_segment again setting e pair place (slice_get (atoms_of pair) place)

-- Expose at what a slot holds, for a command on cells of a kind. Each empty case takes a segment away, so as many turns as
-- there are atoms are enough
abbrev pub expose_within : ℕ → Setting → List ℕ → ℕ → Pair → List Exposed
expose_within zero setting kind slot pair = without_atom setting.mode setting kind (in_slot pair slot) pair
expose_within (suc turns) setting kind slot pair =
    if list_any (is_cell_at (in_slot pair slot)) (atoms_of pair)
    then Shown pair ∷ []
    else
    at_segment (λ later. expose_within turns setting kind slot later) setting kind (in_slot pair slot) pair
    (position (is_segment_from (in_slot pair slot)) (atoms_of pair))

-- EXPOSE
abbrev pub expose : Setting → List ℕ → ℕ → Pair → List Exposed
expose setting kind slot pair = expose_within (length (atoms_of pair)) setting kind slot pair
