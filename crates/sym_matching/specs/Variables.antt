-- The expressions and the variables of atoms, facts, heaps, states and bindings, in order of occurrence.
use Rattle.std.specs.Prelude.{ℕ, List, [], ◌∷◌, ◌++◌}
use Rattle.shape_data.specs.declared.symbolic.Atom.{Atom}
use Rattle.shape_data.specs.declared.symbolic.Exp.{Exp}
use Rattle.shape_data.specs.declared.symbolic.Exp.TheVariants.{Var, Const}
use Rattle.shape_data.specs.declared.symbolic.Fact.{Fact}
use Rattle.shape_data.specs.declared.symbolic.SymHeap.{SymHeap}
use Rattle.shape_data.specs.declared.symbolic.SymState.{SymState}
use Rattle.sym_canon.specs.Numbering.{sides}
use Rattle.sym_canon.specs.Placing.{exps_of}

-- the variable of an expression behind others
abbrev pub with_variable : List ℕ → Exp → List ℕ
with_variable names (Var x) = names ++ x ∷ []
with_variable names (Const n) = names

-- the variables of expressions behind others
abbrev pub with_exps : List ℕ → List Exp → List ℕ
with_exps names [] = names
with_exps names (e ∷ es) = with_exps (with_variable names e) es

-- the variables of facts behind others
abbrev pub with_facts : List ℕ → List Fact → List ℕ
with_facts names [] = names
with_facts names (fact ∷ facts) = with_facts (with_exps names (sides fact)) facts

-- the variables of atoms behind others
abbrev pub with_atoms : List ℕ → List Atom → List ℕ
with_atoms names [] = names
with_atoms names (atom ∷ atoms) = with_atoms (with_exps names (exps_of atom)) atoms

-- the variables of a heap behind others: the facts', then the atoms'
abbrev pub with_heap : List ℕ → SymHeap → List ℕ
with_heap names heap = with_atoms (with_facts names heap.pure) heap.spatial

-- the variables of a state behind others: the locals', then the heap's
abbrev pub with_state : List ℕ → SymState → List ℕ
with_state names state = with_heap (with_exps names state.locals) state.heap

-- the variables of a binding behind others: those that are bound, each before those of its expression
abbrev pub with_binding : List ℕ → List (ℕ × Exp) → List ℕ
with_binding names [] = names
with_binding names (bound ∷ binding) = with_binding (with_variable (names ++ bound.0 ∷ []) bound.1) binding
