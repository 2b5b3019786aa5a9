-- The rules for a wanted segment from e to t, in their order. (Missing parts are for abduction alone.)
-- 1. t is determined and equal to e: done.
-- 2. A segment of the kind and link is left from e to u: it is taken; an unbound t is bound to u, else the segment from u to
--    t is wanted.
-- 3. A cell of the kind is left at e with link u: the same.
-- 4. t is unbound: it is bound to e. In abduction, where e is a logical variable, a segment from e to a new logical variable
--    is missing instead, to which t is bound.
-- 5. e is a logical variable and t logical: the segment is missing.
use Rattle.std.specs.Prelude.{ℕ, zero, suc, pos, Bool, false, ◌==◌, ◌&&◌, if◌then◌else◌, List, length, position, slice_get, slice_index_or}
use Rattle.std.specs.Str.{bytes_eq}
use Rattle.std.specs.declared.option.Option.{Option}
use Rattle.std.specs.declared.option.Option.TheVariants.{None, Some}
use Rattle.shape_data.specs.declared.symbolic.Atom.{Atom}
use Rattle.shape_data.specs.declared.symbolic.Atom.TheVariants.{Points, Seg, Junk}
use Rattle.shape_data.specs.declared.symbolic.Exp.{Exp}
use Rattle.shape_data.specs.declared.symbolic.Exp.TheVariants.{Var, Const}
use Rattle.sym_parts.specs.Laws.Expressions.{same_exp}
use Rattle.sym_matching.specs.declared.matching.Matching.{Matching}
use Rattle.sym_matching.specs.declared.matching.Mode.{Mode}
use Rattle.sym_matching.specs.declared.matching.Mode.TheVariants.{Subtract, Abduce}
use Rattle.sym_matching.specs.declared.matching.Turned.{Turned}
use Rattle.sym_matching.specs.declared.matching.Turned.TheVariants.{On, Stuck}
use Rattle.sym_matching.specs.Reading.{read, is_unbound, is_logical, is_logical_variable}
use Rattle.sym_matching.specs.Steps.{Rules, bind, bind_new, take_atom, miss_atom}

-- a segment of the kind and link from the expression
abbrev pub is_segment_of : List ℕ → ℕ → Exp → Atom → Bool
is_segment_of kind link e (Points at kind' fields) = false
is_segment_of kind link e (Seg kind' link' from to) = same_exp e from && bytes_eq kind' kind && link' == link
is_segment_of kind link e Junk = false

-- a cell of the kind at the expression
abbrev pub is_cell_of : List ℕ → Exp → Atom → Bool
is_cell_of kind e (Points at kind' fields) = same_exp e at && bytes_eq kind' kind
is_cell_of kind e (Seg kind' link from to) = false
is_cell_of kind e Junk = false

-- where an atom leads to by a link: a cell to what its field holds, a segment to its end
abbrev pub next_of : ℕ → Atom → Exp
next_of link (Points at kind fields) = slice_index_or fields link (Const (pos 0))
next_of link (Seg kind link' from to) = to
next_of link Junk = Const (pos 0)

-- the place, or else that of a cell
abbrev pub or_cell : List ℕ → Exp → List Atom → Option ℕ → Option ℕ
or_cell kind e atoms None = position (is_cell_of kind e) atoms
or_cell kind e atoms (Some place) = Some place

-- RULES 2 and 3: the place of the first piece of the segment: a segment that is left from e, else a cell
abbrev pub piece : List ℕ → ℕ → Exp → List Atom → Option ℕ
piece kind link e atoms = or_cell kind e atoms (position (is_segment_of kind link e) atoms)

-- the atom at the place is taken, and the match goes on with where it leads to
abbrev pub take_piece : ℕ → ℕ → Matching → (Exp → Matching → Turned) → ℕ → Option Atom → Turned
take_piece number link m go_on place None = Stuck number
take_piece number link m go_on place (Some atom) = go_on (next_of link atom) (take_atom m place atom)

-- and without a place otherwise
abbrev pub piece_at : ℕ → ℕ → Matching → (Exp → Matching → Turned) → Turned → Option ℕ → Turned
piece_at number link m go_on otherwise None = otherwise
piece_at number link m go_on otherwise (Some place) = take_piece number link m go_on place (slice_get m.left place)

-- RULE 5: e is a logical variable and the end is logical: the segment is missing
abbrev pub miss_segment : Rules → ℕ → List ℕ → ℕ → Exp → Exp → Matching → Mode → Turned
miss_segment rules number kind link to e m Subtract = Stuck number
miss_segment rules number kind link to e m Abduce =
    if is_logical_variable e && is_logical to then miss_atom rules number (Seg kind link e to) m else Stuck number

-- RULE 1, the end being known: where it is e, all is done. Else a piece is taken, and the segment from where it leads to is
-- wanted. Each piece is an atom that was left, so as many turns as there are such atoms are enough
abbrev pub walk : ℕ → Rules → ℕ → List ℕ → ℕ → Exp → Exp → Matching → Turned
walk zero rules number kind link to e m = if same_exp e to then On m else miss_segment rules number kind link to e m rules.mode
walk (suc turns) rules number kind link to e m =
    if same_exp e to
    then On m
    else piece_at number link m (walk turns rules number kind link to) (miss_segment rules number kind link to e m rules.mode)
    (piece kind link e m.left)

-- RULE 4, the end being unbound and no piece there: it is bound to e. In abduction, where e is a logical variable, the
-- segment to a new logical variable is missing instead (which is below 65,536 by the condition of abduction)
abbrev pub bind_end : Rules → ℕ → List ℕ → ℕ → Exp → Exp → Matching → Mode → Turned
bind_end rules number kind link to e m Subtract = On (bind m to e)
bind_end rules number kind link to e m Abduce =
    if is_logical_variable e then miss_segment rules number kind link (Var m.next) e (bind_new m to) Abduce else On (bind m to e)

-- the end being unbound: one piece is taken, and the end bound to where it leads to
abbrev pub reach : Rules → ℕ → List ℕ → ℕ → Exp → Exp → Matching → Turned
reach rules number kind link to e m =
    piece_at number link m (λ next n. On (bind n to next)) (bind_end rules number kind link to e m rules.mode) (piece kind link e m.left)

-- a segment is wanted from e, which is read, to an end
abbrev pub want_segment : Rules → ℕ → List ℕ → ℕ → Exp → Exp → Matching → Turned
want_segment rules number kind link e to m =
    if is_unbound rules.flexible m.binding to
    then reach rules number kind link to e m
    else walk (length m.left) rules number kind link (read rules.facts m.binding to) e m
