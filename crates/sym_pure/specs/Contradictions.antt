-- Third rule of the normal form: what contradicts itself.
use Rattle.std.specs.Prelude.{pos, Bool, false, ◌||◌, List, [], ◌∷◌}
use Rattle.shape_data.specs.declared.symbolic.Atom.{Atom}
use Rattle.shape_data.specs.declared.symbolic.Exp.TheVariants.{Const}
use Rattle.shape_data.specs.declared.symbolic.Fact.{Fact}
use Rattle.shape_data.specs.declared.symbolic.Fact.TheVariants.{Eq, Ne}
use Rattle.sym_parts.specs.Laws.Expressions.{same_exp, is_among, has_double}
use Rattle.sym_pure.specs.Sources.{sources}

-- a disequality of an expression and itself is written
abbrev pub has_same_sides : List Fact → Bool
has_same_sides [] = false
has_same_sides (Eq left right ∷ facts) = has_same_sides facts
has_same_sides (Ne left right ∷ facts) = same_exp left right || has_same_sides facts

-- a source is 0, or two sources are equal
abbrev pub do_sources_clash : List Fact → List Atom → Bool
do_sources_clash facts atoms = is_among (Const (pos 0)) (sources facts atoms) || has_double (sources facts atoms)

-- facts and atoms, read through the solved equations, contradict one another: something differs from itself, a source
-- is 0, or two sources are equal
abbrev pub has_clash : List Fact → List Atom → Bool
has_clash facts atoms = has_same_sides facts || do_sources_clash facts atoms
