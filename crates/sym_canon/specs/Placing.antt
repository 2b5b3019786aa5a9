-- The order of the atoms: as a search from the parameters and the locals comes to them, breadth first.
use Rattle.std.specs.Prelude.{ℕ, zero, suc, ◌+◌, pos, Bool, true, false, not, List, [], ◌∷◌, ◌++◌, length, filter, drop, position}
use Rattle.std.specs.Prelude.{slice_index_or}
use Rattle.std.specs.List.{list_any}
use Rattle.std.specs.declared.option.Option.{Option}
use Rattle.std.specs.declared.option.Option.TheVariants.{None, Some}
use Rattle.shape_data.specs.declared.symbolic.Atom.{Atom}
use Rattle.shape_data.specs.declared.symbolic.Atom.TheVariants.{Points, Seg, Junk}
use Rattle.shape_data.specs.declared.symbolic.Exp.{Exp}
use Rattle.shape_data.specs.declared.symbolic.Exp.TheVariants.{Var, Const}
use Rattle.sym_parts.specs.Laws.Addresses.{addresses}
use Rattle.sym_parts.specs.Laws.Expressions.{same_exp, is_among}
use Rattle.sym_parts.specs.Laws.Junks.{is_junk, is_other}

-- the source of an atom, and then its fields or its end
abbrev pub exps_of : Atom → List Exp
exps_of (Points at kind fields) = at ∷ fields
exps_of (Seg kind link from to) = from ∷ to ∷ []
exps_of Junk = []

-- where an atom leads: the fields of a cell, the end of a segment
abbrev pub leads_to : Atom → List Exp
leads_to (Points at kind fields) = fields
leads_to (Seg kind link from to) = to ∷ []
leads_to Junk = []

-- where the atoms lead, one after the other
abbrev pub all_lead_to : List Atom → List Exp
all_lead_to [] = []
all_lead_to (atom ∷ atoms) = leads_to atom ++ all_lead_to atoms

-- the atom is a cell at the expression
abbrev pub is_cell_at : Exp → Atom → Bool
is_cell_at e (Points at kind fields) = same_exp e at
is_cell_at e (Seg kind link from to) = false
is_cell_at e Junk = false

-- the atom is a segment from the expression
abbrev pub is_segment_from : Exp → Atom → Bool
is_segment_from e (Points at kind fields) = false
is_segment_from e (Seg kind link from to) = same_exp e from
is_segment_from e Junk = false

-- where there is a cell at the expression, that cell; else the segments from it
abbrev pub is_placed_by : Bool → Exp → Atom → Bool
is_placed_by true e atom = is_cell_at e atom
is_placed_by false e atom = is_segment_from e atom

-- an expression places an atom that is left: the cell at it, else a segment from it
abbrev pub is_placed : List Atom → Exp → Atom → Bool
is_placed left e atom = is_placed_by (is_among e (addresses left)) e atom

-- an expression places some atom that is left
abbrev pub places_some : List Atom → Exp → Bool
places_some left e = list_any (is_placed left e) left

-- what an expression places, in list order; where these lead joins the queue behind what is still in it
abbrev pub place_by : (List Exp → List Atom → List Atom) → List Exp → List Atom → Exp → List Atom
place_by again queue left e =
    filter (is_placed left e) left
    ++ again (queue ++ all_lead_to (filter (is_placed left e) left)) (filter (λ atom. not (is_placed left e atom)) left)

-- the first atom that is left; its source, fields or end make up the queue
abbrev pub place_first : (List Exp → List Atom → List Atom) → List Atom → List Atom
place_first again [] = again [] []
place_first again (first ∷ rest) = first ∷ again (exps_of first) rest

-- the queue's expressions are taken until one places something; where none does, the first atom is placed
abbrev pub place_at : (List Exp → List Atom → List Atom) → List Exp → List Atom → Option ℕ → List Atom
place_at again queue left (Some k) = place_by again (drop (k + 1) queue) left (slice_index_or queue k (Const (pos 0)))
place_at again queue left None = place_first again left

-- the atoms that are left, in their order from this queue on. Each turn places one at least, so as many turns as there
-- are atoms are enough
abbrev pub place : ℕ → List Exp → List Atom → List Atom
place zero queue left = left
place (suc turns) queue left = place_at (λ later others. place turns later others) queue left (position (places_some left) queue)

-- this many parameters, from a number on
abbrev pub params_from : ℕ → ℕ → List Exp
params_from first zero = []
params_from first (suc count) = Var first ∷ params_from (first + 1) count

-- the atoms in their order, from the parameters and then the locals on, with Junk last
abbrev pub placed : ℕ → List Exp → List Atom → List Atom
placed params locals atoms = place (length (filter is_other atoms)) (params_from 0 params ++ locals) (filter is_other atoms)
    ++ filter is_junk atoms
