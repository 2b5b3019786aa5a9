-- The expressions of atoms, facts and states, and how often one stands among them.
use Rattle.std.specs.Prelude.{ℕ, List, [], ◌∷◌, ◌++◌, count_by}
use Rattle.shape_data.specs.declared.symbolic.Atom.{Atom}
use Rattle.shape_data.specs.declared.symbolic.Exp.{Exp}
use Rattle.shape_data.specs.declared.symbolic.Fact.{Fact}
use Rattle.shape_data.specs.declared.symbolic.SymHeap.{SymHeap}
use Rattle.shape_data.specs.declared.symbolic.SymState.{SymState}
use Rattle.sym_parts.specs.Laws.Expressions.{same_exp}
use Rattle.sym_canon.specs.Numbering.{sides}
use Rattle.sym_canon.specs.Placing.{exps_of}

-- the expressions of atoms
abbrev pub exps_of_atoms : List Atom → List Exp
exps_of_atoms [] = []
exps_of_atoms (atom ∷ atoms) = exps_of atom ++ exps_of_atoms atoms

-- the expressions of facts
abbrev pub exps_of_facts : List Fact → List Exp
exps_of_facts [] = []
exps_of_facts (fact ∷ facts) = sides fact ++ exps_of_facts facts

-- the expressions of a heap
abbrev pub exps_of_heap : SymHeap → List Exp
exps_of_heap heap = exps_of_atoms heap.spatial ++ exps_of_facts heap.pure

-- the expressions of a state
abbrev pub exps_of_state : SymState → List Exp
exps_of_state state = state.locals ++ exps_of_heap state.heap

-- how often the expression stands in the list
abbrev pub times_in : Exp → List Exp → ℕ
times_in e es = count_by (same_exp e) es
