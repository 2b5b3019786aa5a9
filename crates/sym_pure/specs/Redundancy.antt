-- Fourth rule of the normal form: what says nothing new goes.
use Rattle.std.specs.Prelude.{Bool, true, false, if◌then◌else◌, ◌&&◌, ◌||◌, List, [], ◌∷◌, ◌++◌, filter}
use Rattle.shape_data.specs.declared.symbolic.Atom.{Atom}
use Rattle.shape_data.specs.declared.symbolic.Atom.TheVariants.{Points, Seg, Junk}
use Rattle.shape_data.specs.declared.symbolic.Exp.{Exp}
use Rattle.shape_data.specs.declared.symbolic.Exp.TheVariants.{Const}
use Rattle.shape_data.specs.declared.symbolic.Fact.{Fact}
use Rattle.shape_data.specs.declared.symbolic.Fact.TheVariants.{Eq, Ne}
use Rattle.sym_parts.specs.Laws.Junks.{is_junk, is_other}
use Rattle.sym_pure.specs.Emptying.{is_plain}
use Rattle.sym_pure.specs.Sources.{is_written}

-- both are constants
abbrev pub are_constants : Exp → Exp → Bool
are_constants (Const m) (Const n) = true
are_constants _ _ = false

-- a disequality is redundant beside some facts: it is between two constants, between 0 and a cell's address or two
-- cells' addresses, or it is among them, either way round
abbrev pub is_redundant : List Exp → List Fact → Exp → Exp → Bool
is_redundant cells kept left right =
    are_constants left right || ((is_plain cells left && is_plain cells right) || is_written kept left right)

-- the disequality behind the facts, unless it is redundant
abbrev pub with_needed : List Exp → List Fact → Exp → Exp → List Fact
with_needed cells kept left right = if is_redundant cells kept left right then kept else kept ++ Ne left right ∷ []

-- the disequalities that are not redundant, in their order, behind the facts `kept`; of doubles the first stays
abbrev pub needed : List Exp → List Fact → List Fact → List Fact
needed cells [] kept = kept
needed cells (Eq left right ∷ facts) kept = needed cells facts kept
needed cells (Ne left right ∷ facts) kept = needed cells facts (with_needed cells kept left right)

-- the atom behind the others, unless it is Junk and there was one
abbrev pub with_one_junk : List Atom → Bool → Atom → List Atom
with_one_junk atoms seen atom = if is_junk atom && seen then atoms else atoms ++ atom ∷ []

-- of several Junk the first stays
abbrev pub one_junk : List Atom → List Atom
one_junk [] = []
one_junk (Points at kind fields ∷ atoms) = Points at kind fields ∷ one_junk atoms
one_junk (Seg kind link from to ∷ atoms) = Seg kind link from to ∷ one_junk atoms
one_junk (Junk ∷ atoms) = Junk ∷ filter is_other atoms
