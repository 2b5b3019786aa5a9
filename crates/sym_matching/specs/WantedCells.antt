-- The rules for a wanted cell at e, in their order. (Missing parts are for abduction alone.)
-- 1. A cell is left at e: of another kind, stuck; else it is taken, and each wanted field binds its unbound variable or leaves
--    the fact that the two are equal.
-- 2. A segment of the kind is left from e whose ends differ: it becomes a cell at e with new existential fields, which is
--    taken as in rule 1, and a segment from the cell's link.
-- 3. As rule 2 with ends not known to differ, both logical: their disequality is missing, and then rule 2 for this segment.
-- 4. e is a logical variable, and no atom is left from it: the cell is missing, unbound fields being new logical variables
--    and the others logical.
use Rattle.std.specs.Prelude.{ℕ, Bool, false, not, ◌&&◌, ◌||◌, if◌then◌else◌, List, [], ◌∷◌, length, map, position, slice_get}
use Rattle.std.specs.List.{list_all, list_any}
use Rattle.std.specs.Str.{bytes_eq}
use Rattle.std.specs.declared.option.Option.{Option}
use Rattle.std.specs.declared.option.Option.TheVariants.{None, Some}
use Rattle.shape_data.specs.declared.symbolic.Atom.{Atom}
use Rattle.shape_data.specs.declared.symbolic.Atom.TheVariants.{Points, Seg, Junk}
use Rattle.shape_data.specs.declared.symbolic.Exp.{Exp}
use Rattle.shape_data.specs.declared.symbolic.Exp.TheVariants.{Var}
use Rattle.shape_data.specs.declared.symbolic.Fact.TheVariants.{Ne}
use Rattle.shape_data.specs.declared.symbolic.SymHeap.{SymHeap}
use Rattle.sym_parts.specs.Laws.Expressions.{same_exp}
use Rattle.sym_canon.specs.Placing.{is_cell_at, is_segment_from}
use Rattle.sym_pure.specs.Sources.{differs}
use Rattle.sym_matching.specs.declared.matching.Matching.{Matching}
use Rattle.sym_matching.specs.declared.matching.Mode.{Mode}
use Rattle.sym_matching.specs.declared.matching.Mode.TheVariants.{Subtract, Abduce}
use Rattle.sym_matching.specs.declared.matching.Turned.{Turned}
use Rattle.sym_matching.specs.declared.matching.Turned.TheVariants.{On, Stuck}
use Rattle.sym_matching.specs.NewVariables.{fresh_variables}
use Rattle.sym_matching.specs.Reading.{read, is_unbound, is_logical, is_logical_variable}
use Rattle.sym_matching.specs.Steps.{Rules, whole, bind, owe, take_atom, unfold_at, miss_atom, miss_fact, bind_new, and_then}

-- a wanted field binds its unbound variable, or leaves the fact that the two are equal
abbrev pub take_field : Rules → ℕ → Exp → Exp → Matching → Matching
take_field rules number want have m = if is_unbound rules.flexible m.binding want then bind m want have else owe m number want have

-- each wanted field, in order; in well-formed heaps there are as many of both
abbrev pub take_fields : Rules → ℕ → List Exp → List Exp → Matching → Matching
take_fields rules number [] haves m = m
take_fields rules number (want ∷ wants) [] m = m
take_fields rules number (want ∷ wants) (have ∷ haves) m = take_fields rules number wants haves (take_field rules number want have m)

-- RULE 4: e is a logical variable, and no atom is left from it: the cell is missing

-- an atom from the expression: the cell at it, or a segment from it
abbrev pub is_atom_from : Exp → Atom → Bool
is_atom_from e atom = is_cell_at e atom || is_segment_from e atom

-- an unbound field gets a new logical variable
abbrev pub name_field : Rules → Exp → Matching → Matching
name_field rules want m = if is_unbound rules.flexible m.binding want then bind_new m want else m

-- each unbound field, in order
abbrev pub name_fields : Rules → List Exp → Matching → Matching
name_fields rules [] m = m
name_fields rules (want ∷ wants) m = name_fields rules wants (name_field rules want m)

-- the cell with these fields is missing, if they are logical
abbrev pub miss_read : Rules → ℕ → List ℕ → Exp → List Exp → Matching → Turned
miss_read rules number kind e fields m =
    if list_all is_logical fields then miss_atom rules number (Points e kind fields) m else Stuck number

-- unbound fields are named, and then all of them are read
abbrev pub miss_named : Rules → ℕ → List ℕ → List Exp → Exp → Matching → Turned
miss_named rules number kind wants e m = miss_read rules number kind e (map (read rules.facts m.binding) wants) m

-- in abduction
abbrev pub miss_cell : Rules → ℕ → List ℕ → List Exp → Exp → Matching → Mode → Turned
miss_cell rules number kind wants e m Subtract = Stuck number
miss_cell rules number kind wants e m Abduce =
    if is_logical_variable e && not (list_any (is_atom_from e) m.left) then miss_named rules number kind wants e (name_fields rules wants m)
    else Stuck number

-- RULE 2: a segment of the kind is left from e, and its ends differ: it is unfolded, and its cell taken

-- the segment at the place is unfolded with new variables, and its cell is matched
abbrev pub take_unfolded : Rules → ℕ → List Exp → Matching → ℕ → Option Atom → Turned
take_unfolded rules number wants m place None = Stuck number
take_unfolded rules number wants m place (Some (Points at kind haves)) = Stuck number
take_unfolded rules number wants m place (Some (Seg kind link from to)) =
    On (take_fields rules number wants (map Var (fresh_variables (length wants) m.used))
    (unfold_at m place kind link from to (fresh_variables (length wants) m.used)))
take_unfolded rules number wants m place (Some Junk) = Stuck number

-- a segment of the kind from the expression, whose ends are known to differ in the heap
abbrev pub is_to_unfold : SymHeap → Exp → List ℕ → Atom → Bool
is_to_unfold heap e kind (Points at kind' fields) = false
is_to_unfold heap e kind (Seg kind' link from to) = same_exp e from && bytes_eq kind' kind && differs heap from to
is_to_unfold heap e kind Junk = false

-- RULE 3: as rule 2 with ends not known to differ, both logical: their disequality is missing, and then rule 2

-- a segment of the kind from the expression, with both ends logical
abbrev pub is_to_part : Exp → List ℕ → Atom → Bool
is_to_part e kind (Points at kind' fields) = false
is_to_part e kind (Seg kind' link from to) = same_exp e from && bytes_eq kind' kind && is_logical from && is_logical to
is_to_part e kind Junk = false

-- the disequality of the ends of the segment at the place is missing; then the segment is unfolded
abbrev pub take_parted : Rules → ℕ → List Exp → Matching → ℕ → Option Atom → Turned
take_parted rules number wants m place None = Stuck number
take_parted rules number wants m place (Some (Points at kind haves)) = Stuck number
take_parted rules number wants m place (Some (Seg kind link from to)) =
    and_then (λ n. take_unfolded rules number wants n place (Some (Seg kind link from to))) (miss_fact rules number (Ne from to) m)
take_parted rules number wants m place (Some Junk) = Stuck number

-- rule 3 where it has a place, else rule 4
abbrev pub part_at : Rules → ℕ → List ℕ → List Exp → Exp → Matching → Option ℕ → Turned
part_at rules number kind wants e m None = miss_cell rules number kind wants e m rules.mode
part_at rules number kind wants e m (Some place) = take_parted rules number wants m place (slice_get m.left place)

-- the place of rule 3, which speaks of what is missing
abbrev pub place_to_part : Mode → Exp → List ℕ → List Atom → Option ℕ
place_to_part Subtract e kind atoms = None
place_to_part Abduce e kind atoms = position (is_to_part e kind) atoms

-- rule 2 where it has a place, else the rules after it
abbrev pub unfold_place : Rules → ℕ → List ℕ → List Exp → Exp → Matching → Option ℕ → Turned
unfold_place rules number kind wants e m None = part_at rules number kind wants e m (place_to_part rules.mode e kind m.left)
unfold_place rules number kind wants e m (Some place) = take_unfolded rules number wants m place (slice_get m.left place)

-- RULE 1: a cell is left at e: of another kind, stuck; else it is taken, and its fields are matched

-- what is at the place is taken
abbrev pub take_cell : Rules → ℕ → List ℕ → List Exp → Matching → ℕ → Option Atom → Turned
take_cell rules number kind wants m place None = Stuck number
take_cell rules number kind wants m place (Some (Points at kind' haves)) =
    if bytes_eq kind' kind then On (take_fields rules number wants haves (take_atom m place (Points at kind' haves))) else Stuck number
take_cell rules number kind wants m place (Some (Seg kind' link from to)) = Stuck number
take_cell rules number kind wants m place (Some Junk) = Stuck number

-- rule 1 where it has a place, else the rules after it
abbrev pub cell_place : Rules → ℕ → List ℕ → List Exp → Exp → Matching → Option ℕ → Turned
cell_place rules number kind wants e m None =
    unfold_place rules number kind wants e m (position (is_to_unfold (whole rules m) e kind) m.left)
cell_place rules number kind wants e m (Some place) = take_cell rules number kind wants m place (slice_get m.left place)

-- a cell of the kind with these fields is wanted at e, which is read
abbrev pub want_cell : Rules → ℕ → List ℕ → List Exp → Exp → Matching → Turned
want_cell rules number kind wants e m = cell_place rules number kind wants e m (position (is_cell_at e) m.left)
