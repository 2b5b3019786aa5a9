-- Fourth rule: disequalities that say nothing any more go.
use Rattle.std.specs.Prelude.{ℕ, Bool, false, not, ◌&&◌, ◌||◌, leb, List, ◌++◌, filter}
use Rattle.shape_data.specs.declared.symbolic.Atom.{Atom}
use Rattle.shape_data.specs.declared.symbolic.Exp.{Exp}
use Rattle.shape_data.specs.declared.symbolic.Exp.TheVariants.{Var, Const}
use Rattle.shape_data.specs.declared.symbolic.Fact.{Fact}
use Rattle.shape_data.specs.declared.symbolic.Fact.TheVariants.{Eq, Ne}
use Rattle.sym_parts.specs.Laws.Expressions.{is_among}
use Rattle.abstraction_laws.specs.Occurrences.{exps_of_atoms}

-- the expression is a variable from a number on
abbrev pub is_from : ℕ → Exp → Bool
is_from low (Var x) = leb low x
is_from low (Const n) = false

-- the expression is a variable from a number on that does not stand among others
abbrev pub is_lost_among : ℕ → List Exp → Exp → Bool
is_lost_among low others e = is_from low e && not (is_among e others)

-- the fact is a disequality, and one of its sides passes the test
abbrev pub is_disequality_of : (Exp → Bool) → Fact → Bool
is_disequality_of test (Eq left right) = false
is_disequality_of test (Ne left right) = test left || test right

-- the facts without the disequalities of what passes the test
abbrev pub without_disequalities : (Exp → Bool) → List Fact → List Fact
without_disequalities test facts = filter (λ fact. not (is_disequality_of test fact)) facts

-- Fourth rule: a disequality with an existential variable that is in no local and no atom goes
abbrev pub lose : List Exp → List Atom → List Fact → List Fact
lose locals atoms facts = without_disequalities (is_lost_among 65536 (locals ++ exps_of_atoms atoms)) facts
