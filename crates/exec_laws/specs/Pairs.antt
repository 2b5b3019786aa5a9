-- Pairs of a missing heap and a state, as execution sees them: new variables, the normal and the canonical form, facts, slots
-- and atoms. Strict execution is that of a state; its pairs carry a missing heap that plays no part.
use Rattle.std.specs.Prelude.{ℕ, pos, Bool, ◌&&◌, if◌then◌else◌, ltb, List, [], ◌∷◌, ◌++◌, filter, slice_index_or, slice_set}
use Rattle.std.specs.declared.option.Option.{Option}
use Rattle.std.specs.declared.option.Option.TheVariants.{None, Some}
use Rattle.shape_data.specs.declared.program.StructDef.{StructDef}
use Rattle.shape_data.specs.declared.symbolic.Atom.{Atom}
use Rattle.shape_data.specs.declared.symbolic.Exp.{Exp}
use Rattle.shape_data.specs.declared.symbolic.Exp.TheVariants.{Const}
use Rattle.shape_data.specs.declared.symbolic.Fact.{Fact}
use Rattle.shape_data.specs.declared.symbolic.Fact.TheVariants.{Eq, Ne}
use Rattle.shape_data.specs.declared.symbolic.SymHeap.{SymHeap}
use Rattle.sym_canon.specs.declared.parts.Pair.{Pair}
use Rattle.sym_canon.specs.Canonical.{canon_pair, canon_state}
use Rattle.sym_forms.specs.Forms.{of_form}
use Rattle.sym_forms.specs.PairForms.{pair_form}
use Rattle.sym_pure.specs.Normal.{normal}
use Rattle.sym_matching.specs.Covers.{above}
use Rattle.sym_matching.specs.NewVariables.{fresh_variables}
use Rattle.sym_matching.specs.Reading.{is_logical}
use Rattle.sym_matching.specs.Variables.{with_heap, with_state}
use Rattle.exec_laws.specs.declared.parts.Mode.{Mode}
use Rattle.exec_laws.specs.declared.parts.Mode.TheVariants.{Strict, Search}
use Rattle.exec_laws.specs.declared.parts.Table.{Table}

-- what stays the same through an execution: its mode, how many parameters the procedure has, the structures, and the specs
-- that calls may use
pub record Setting : Type 0 where
  pub mode : Mode
  pub params : ℕ
  pub structs : List StructDef
  pub table : Table

-- NEW VARIABLES

-- the variables of a pair behind others: those of the state, then those of the missing heap
abbrev pub with_pair : List ℕ → Pair → List ℕ
with_pair names pair = with_heap (with_state names pair.state) pair.missing

-- the variables of a pair
abbrev pub pair_variables : Pair → List ℕ
pair_variables pair = with_pair [] pair

-- so many new existential variables: the least that stand nowhere in the pair
abbrev pub new_existentials : ℕ → Pair → List ℕ
new_existentials count pair = fresh_variables count (pair_variables pair)

-- the number from which on logical variables are new: they are no parameters, and stand nowhere in the pair
abbrev pub new_logical : ℕ → Pair → ℕ
new_logical params pair = above params (filter (λ x. ltb x 65536) (pair_variables pair))

-- THE NORMAL FORM

-- the normal form, by mode: in strict execution that of the state, in the search that of the pair
abbrev pub formed : Mode → ℕ → Pair → Option Pair
formed Strict params pair = of_form (λ form. record pair { state = form }) (normal pair.state)
formed Search params pair = pair_form params pair

-- the canonical form, by mode: in strict execution logical variables keep their numbers
abbrev pub canonical : Mode → ℕ → Pair → Pair
canonical Strict params pair = record { missing = pair.missing; state = canon_state pair.state params }
canonical Search params pair = canon_pair pair.missing pair.state params

-- what comes of a pair, in a list of cases; a contradiction is left out
abbrev pub unless_left_out : {A : Type 0} → (Pair → List A) → Option Pair → List A
unless_left_out go_on None = []
unless_left_out go_on (Some pair) = go_on pair

-- FACTS

-- the heap with one more fact
abbrev pub with_fact : Fact → SymHeap → SymHeap
with_fact fact heap = record heap { pure = heap.pure ++ fact ∷ [] }

-- the pair with one more fact in its state
abbrev pub with_state_fact : Fact → Pair → Pair
with_state_fact fact pair = record pair { state = record pair.state { heap = with_fact fact pair.state.heap } }

-- the fact is between logical expressions
abbrev pub is_logical_fact : Fact → Bool
is_logical_fact (Eq left right) = is_logical left && is_logical right
is_logical_fact (Ne left right) = is_logical left && is_logical right

-- a fact that is missing: in the search it joins the missing heap, where it is between logical expressions
abbrev pub with_missing_fact : Mode → Fact → Pair → Pair
with_missing_fact Strict fact pair = pair
with_missing_fact Search fact pair = if is_logical_fact fact then record pair { missing = with_fact fact pair.missing } else pair

-- the case in which a fact is true, which is missing too
abbrev pub where_true : Setting → Fact → Pair → Option Pair
where_true setting fact pair = formed setting.mode setting.params (with_state_fact fact (with_missing_fact setting.mode fact pair))

-- the case in which a fact is true, which changes the state alone
abbrev pub where_true_in_state : Setting → Fact → Pair → Option Pair
where_true_in_state setting fact pair = formed setting.mode setting.params (with_state_fact fact pair)

-- SLOTS AND ATOMS

-- what a slot holds
abbrev pub in_slot : Pair → ℕ → Exp
in_slot pair slot = slice_index_or pair.state.locals slot (Const (pos 0))

-- the pair with an expression in a slot
abbrev pub with_slot : ℕ → Exp → Pair → Pair
with_slot slot e pair = record pair { state = record pair.state { locals = slice_set pair.state.locals slot e } }

-- the atoms of the state
abbrev pub atoms_of : Pair → List Atom
atoms_of pair = pair.state.heap.spatial

-- the pair with other atoms in its state
abbrev pub with_atoms : List Atom → Pair → Pair
with_atoms atoms pair = record pair { state = record pair.state { heap = record pair.state.heap { spatial = atoms } } }
