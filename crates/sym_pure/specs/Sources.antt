-- The sources of a heap, at which cells stand in every heap that meets it, and what is known to differ.
use Rattle.std.specs.Prelude.{pos, Bool, false, if◌then◌else◌, not, ◌&&◌, ◌||◌, List, [], ◌∷◌}
use Rattle.std.specs.List.{filter_map}
use Rattle.std.specs.Ordering.{int_eq}
use Rattle.std.specs.declared.option.Option.{Option}
use Rattle.std.specs.declared.option.Option.TheVariants.{None, Some}
use Rattle.shape_data.specs.declared.symbolic.Atom.{Atom}
use Rattle.shape_data.specs.declared.symbolic.Atom.TheVariants.{Points, Seg, Junk}
use Rattle.shape_data.specs.declared.symbolic.Exp.{Exp}
use Rattle.shape_data.specs.declared.symbolic.Exp.TheVariants.{Const}
use Rattle.shape_data.specs.declared.symbolic.Fact.{Fact}
use Rattle.shape_data.specs.declared.symbolic.Fact.TheVariants.{Eq, Ne}
use Rattle.shape_data.specs.declared.symbolic.SymHeap.{SymHeap}
use Rattle.sym_parts.specs.Laws.Expressions.{same_exp, is_among, are_two}

-- the two are unequal constants
abbrev pub are_unequal_constants : Exp → Exp → Bool
are_unequal_constants (Const m) (Const n) = not (int_eq m n)
are_unequal_constants _ _ = false

-- a disequality of the two is written, either way round
abbrev pub is_written : List Fact → Exp → Exp → Bool
is_written [] e f = false
is_written (Eq left right ∷ facts) e f = is_written facts e f
is_written (Ne left right ∷ facts) e f =
    (same_exp left e && same_exp right f) || ((same_exp left f && same_exp right e) || is_written facts e f)

-- the ends of a segment are unequal constants, or have a written disequality
abbrev pub do_ends_differ : List Fact → Exp → Exp → Bool
do_ends_differ facts from to = are_unequal_constants from to || is_written facts from to

-- the source of an atom: the address of its cell, or the start of a segment whose ends differ
abbrev pub source_of : List Fact → Atom → Option Exp
source_of facts (Points at kind fields) = Some at
source_of facts (Seg kind link from to) = if do_ends_differ facts from to then Some from else None
source_of facts Junk = None

-- the sources, one for each atom that has one
abbrev pub sources : List Fact → List Atom → List Exp
sources facts atoms = filter_map (source_of facts) atoms

-- the first is 0, and the second is a source
abbrev pub is_zero_and_source : SymHeap → Exp → Exp → Bool
is_zero_and_source heap e f = same_exp e (Const (pos 0)) && is_among f (sources heap.pure heap.spatial)

-- the two are known to differ: they are unequal constants, or their disequality is written, or one is 0 and the other a
-- source, or they are the sources of two different atoms
abbrev pub differs : SymHeap → Exp → Exp → Bool
differs heap e f =
    are_unequal_constants e f
    || (is_written heap.pure e f
    || (is_zero_and_source heap e f || (is_zero_and_source heap f e || are_two e f (sources heap.pure heap.spatial))))
