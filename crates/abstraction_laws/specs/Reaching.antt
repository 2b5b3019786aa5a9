-- Second rule: what is reached stays, other atoms become Junk.
use Rattle.std.specs.Prelude.{ℕ, zero, suc, Bool, true, not, ◌||◌, ltb, if◌then◌else◌, List, [], ◌∷◌, ◌++◌, filter, length}
use Rattle.std.specs.List.{list_all}
use Rattle.shape_data.specs.declared.symbolic.Atom.{Atom}
use Rattle.shape_data.specs.declared.symbolic.Atom.TheVariants.{Points, Seg, Junk}
use Rattle.shape_data.specs.declared.symbolic.Exp.{Exp}
use Rattle.shape_data.specs.declared.symbolic.Exp.TheVariants.{Var, Const}
use Rattle.sym_parts.specs.Laws.Expressions.{is_among}
use Rattle.sym_canon.specs.Placing.{all_lead_to}

-- the expression is reached: it is a constant, a logical variable, or one of those seen
abbrev pub is_reached : List Exp → Exp → Bool
is_reached seen (Var x) = ltb x 65536 || is_among (Var x) seen
is_reached seen (Const n) = true

-- the atom's source is reached; Junk has none, and stays
abbrev pub is_kept : List Exp → Atom → Bool
is_kept seen (Points at kind fields) = is_reached seen at
is_kept seen (Seg kind link from to) = is_reached seen from
is_kept seen Junk = true

-- the atom's source is not reached
abbrev pub is_left : List Exp → Atom → Bool
is_left seen atom = not (is_kept seen atom)

-- what is seen, with what stands in the fields or the end of each atom whose source is reached, again and again. Each turn
-- takes one of the atoms that are left or changes nothing, so as many turns as there are atoms are enough
abbrev pub see_from : ℕ → List Exp → List Atom → List Exp
see_from zero seen left = seen
see_from (suc turns) seen left = see_from turns (seen ++ all_lead_to (filter (is_kept seen) left)) (filter (is_left seen) left)

-- the expressions seen from the locals
abbrev pub seen_from : List Exp → List Atom → List Exp
seen_from locals atoms = see_from (length atoms) locals atoms

-- the atoms whose sources are reached from what was seen; where one is not, it goes and Junk is added
abbrev pub keep_seen : List Exp → List Atom → List Atom
keep_seen seen atoms = if list_all (is_kept seen) atoms then atoms else filter (is_kept seen) atoms ++ Junk ∷ []

-- Second rule: atoms with sources that are not reached from the locals go and, where one went, Junk is added
abbrev pub keep_reached : List Exp → List Atom → List Atom
keep_reached locals atoms = keep_seen (seen_from locals atoms) atoms
