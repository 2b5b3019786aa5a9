-- Numbers for variables, in the order in which they come into sight.
use Rattle.std.specs.Prelude.{ℕ, ◌+◌, Bool, not, if◌then◌else◌, ◌==◌, ◌&&◌, ltb, leb, List, [], ◌∷◌, ◌++◌, position, Option}
use Rattle.std.specs.declared.option.Option.TheVariants.{None, Some}
use Rattle.shape_data.specs.declared.symbolic.Atom.{Atom}
use Rattle.shape_data.specs.declared.symbolic.Exp.{Exp}
use Rattle.shape_data.specs.declared.symbolic.Exp.TheVariants.{Var, Const}
use Rattle.shape_data.specs.declared.symbolic.Fact.{Fact}
use Rattle.shape_data.specs.declared.symbolic.Fact.TheVariants.{Eq, Ne}
use Rattle.shape_data.specs.declared.symbolic.SymHeap.{SymHeap}
use Rattle.sym_parts.specs.Laws.Fresh.{is_one_of}
use Rattle.sym_parts.specs.Laws.Mapped.{renamed}
use Rattle.sym_canon.specs.declared.parts.Variables.{Variables}
use Rattle.sym_canon.specs.declared.parts.Variables.TheVariants.{Existential, Further}
use Rattle.sym_canon.specs.Placing.{exps_of}

-- the variable is one of those that are numbered: the existential ones, or the logical ones that are no parameters
abbrev pub is_numbered : Variables → ℕ → Bool
is_numbered Existential x = leb 65536 x
is_numbered (Further params) x = leb params x && ltb x 65536

-- a variable that is to be numbered joins the list, unless it is in it
abbrev pub with_sight : Variables → List ℕ → Exp → List ℕ
with_sight which seen (Var x) = if is_numbered which x && not (is_one_of seen x) then seen ++ x ∷ [] else seen
with_sight which seen (Const n) = seen

-- the variables of the expressions, by first sight, behind those seen before
abbrev pub sight : Variables → List Exp → List ℕ → List ℕ
sight which [] seen = seen
sight which (e ∷ es) seen = sight which es (with_sight which seen e)

-- the variables of the atoms
abbrev pub sight_atoms : Variables → List Atom → List ℕ → List ℕ
sight_atoms which [] seen = seen
sight_atoms which (atom ∷ atoms) seen = sight_atoms which atoms (sight which (exps_of atom) seen)

-- the sides of a fact
abbrev pub sides : Fact → List Exp
sides (Eq left right) = left ∷ right ∷ []
sides (Ne left right) = left ∷ right ∷ []

-- the variables of the facts
abbrev pub sight_facts : Variables → List Fact → List ℕ → List ℕ
sight_facts which [] seen = seen
sight_facts which (fact ∷ facts) seen = sight_facts which facts (sight which (sides fact) seen)

-- the variables of a heap: first the atoms', then the facts'
abbrev pub sight_heap : Variables → SymHeap → List ℕ → List ℕ
sight_heap which heap seen = sight_facts which heap.pure (sight_atoms which heap.spatial seen)

-- the number of a place; a variable without a place keeps its own
abbrev pub number_at : ℕ → ℕ → Option ℕ → ℕ
number_at first x (Some place) = first + place
number_at first x None = x

-- a variable that was seen has the number of its place; any other keeps its own
abbrev pub numbered : ℕ → List ℕ → ℕ → ℕ
numbered first seen x = number_at first x (position (λ y. x == y) seen)

-- the expression with its variable numbered
abbrev pub with_number : ℕ → List ℕ → Exp → Exp
with_number first seen e = renamed (numbered first seen) e
