-- The variables that were listed are kept.
use Rattle.std.specs.Prelude.{ℕ, List, [], ◌∷◌, ◌++◌, All}
use Rattle.std.proofs.Common.{refl}
use Rattle.std.proofs.lemmas.List.Elements.{All-nil, All-cons, All-head, All-tail, All-weaker}
use Rattle.shape_data.specs.declared.symbolic.Atom.{Atom}
use Rattle.shape_data.specs.declared.symbolic.Atom.TheVariants.{Points, Seg, Junk}
use Rattle.shape_data.specs.declared.symbolic.Exp.{Exp}
use Rattle.shape_data.specs.declared.symbolic.Exp.TheVariants.{Var, Const}
use Rattle.shape_data.specs.declared.symbolic.Fact.{Fact}
use Rattle.shape_data.specs.declared.symbolic.Fact.TheVariants.{Eq, Ne}
use Rattle.shape_data.specs.declared.symbolic.SymHeap.{SymHeap}
use Rattle.shape_data.specs.declared.symbolic.SymState.{SymState}
use Rattle.sym_parts.specs.Laws.Each.{EachInAtom, EachInFact, EachInHeap}
use Rattle.sym_canon.specs.Numbering.{sides}
use Rattle.sym_canon.specs.Placing.{exps_of}
use Rattle.sym_matching.specs.Variables.{with_variable, with_exps, with_facts, with_atoms, with_heap, with_state, with_binding}
use Rattle.sym_matching.proofs.KeptLaws.{IsKept, IsKept-more, Within, each-atom, each-atoms, each-fact, each-facts, kept-name, one_of-first}
use Rattle.sym_matching.proofs.KeptLaws.{one_of-left, one_of-right}

-- ---- what is in the list stays in it

variable-within : (names : List ℕ) (e : Exp) → Within names (with_variable names e)
variable-within names (Var x) y h = one_of-left names (x ∷ []) y h
variable-within names (Const n) y h = h

pub exps-within : (es : List Exp) (names : List ℕ) → Within names (with_exps names es)
exps-within [] names y h = h
exps-within (e ∷ es) names y h = exps-within es (with_variable names e) y (variable-within names e y h)

pub facts-within : (facts : List Fact) (names : List ℕ) → Within names (with_facts names facts)
facts-within [] names y h = h
facts-within (fact ∷ facts) names y h = facts-within facts (with_exps names (sides fact)) y (exps-within (sides fact) names y h)

pub atoms-within : (atoms : List Atom) (names : List ℕ) → Within names (with_atoms names atoms)
atoms-within [] names y h = h
atoms-within (atom ∷ atoms) names y h = atoms-within atoms (with_exps names (exps_of atom)) y (exps-within (exps_of atom) names y h)

pub heap-within : (heap : SymHeap) (names : List ℕ) → Within names (with_heap names heap)
heap-within heap names y h = atoms-within heap.spatial (with_facts names heap.pure) y (facts-within heap.pure names y h)

pub state-within : (state : SymState) (names : List ℕ) → Within names (with_state names state)
state-within state names y h = heap-within state.heap (with_exps names state.locals) y (exps-within state.locals names y h)

pub binding-within : (binding : List (ℕ × Exp)) (names : List ℕ) → Within names (with_binding names binding)
binding-within [] names y h = h
binding-within (bound ∷ binding) names y h =
    binding-within binding (with_variable (names ++ bound.0 ∷ []) bound.1) y
    (variable-within (names ++ bound.0 ∷ []) bound.1 y (one_of-left names (bound.0 ∷ []) y h))

-- ---- what was listed is in it

variable-kept : (names : List ℕ) (e : Exp) → IsKept (with_variable names e) e
variable-kept names (Var x) = kept-name (names ++ x ∷ []) x (one_of-right names (x ∷ []) x (one_of-first x []))
variable-kept names (Const n) = refl

pub exps-kept : (es : List Exp) (names : List ℕ) → All (IsKept (with_exps names es)) es
exps-kept [] names = All-nil (IsKept names)
exps-kept (e ∷ es) names =
    All-cons (IsKept (with_exps (with_variable names e) es)) e es
    (IsKept-more (with_variable names e) (with_exps (with_variable names e) es) (exps-within es (with_variable names e)) e
    (variable-kept names e)) (exps-kept es (with_variable names e))

each_side : (P : Exp → Type 0) (fact : Fact) → All P (sides fact) → EachInFact P fact
each_side P (Eq left right) h = (All-head P left (right ∷ []) h, All-head P right [] (All-tail P left (right ∷ []) h))
each_side P (Ne left right) h = (All-head P left (right ∷ []) h, All-head P right [] (All-tail P left (right ∷ []) h))

each_exp : (P : Exp → Type 0) (atom : Atom) → All P (exps_of atom) → EachInAtom P atom
each_exp P (Points at kind fields) h = (All-head P at fields h, All-tail P at fields h)
each_exp P (Seg kind link from to) h = (All-head P from (to ∷ []) h, All-head P to [] (All-tail P from (to ∷ []) h))
each_exp P Junk h = tt

facts-kept : (facts : List Fact) (names : List ℕ) → All (EachInFact (IsKept (with_facts names facts))) facts
facts-kept [] names = All-nil (EachInFact (IsKept names))
facts-kept (fact ∷ facts) names =
    let now : List ℕ = with_exps names (sides fact) in
    let later : List ℕ = with_facts now facts in
    All-cons (EachInFact (IsKept later)) fact facts
    (each-fact (IsKept now) (IsKept later) (IsKept-more now later (facts-within facts now)) fact
    (each_side (IsKept now) fact (exps-kept (sides fact) names))) (facts-kept facts now)

atoms-kept : (atoms : List Atom) (names : List ℕ) → All (EachInAtom (IsKept (with_atoms names atoms))) atoms
atoms-kept [] names = All-nil (EachInAtom (IsKept names))
atoms-kept (atom ∷ atoms) names =
    let now : List ℕ = with_exps names (exps_of atom) in
    let later : List ℕ = with_atoms now atoms in
    All-cons (EachInAtom (IsKept later)) atom atoms
    (each-atom (IsKept now) (IsKept later) (IsKept-more now later (atoms-within atoms now)) atom
    (each_exp (IsKept now) atom (exps-kept (exps_of atom) names))) (atoms-kept atoms now)

-- the expressions of a heap are kept by each list that has what was listed
pub heap-kept : (heap : SymHeap) (names more : List ℕ) → Within (with_heap names heap) more → EachInHeap (IsKept more) heap
heap-kept heap names more within =
    let first : List ℕ = with_facts names heap.pure in
    let all : List ℕ = with_heap names heap in record {
      facts =
          each-facts (IsKept first) (IsKept more) (IsKept-more first more (λ x h. within x (atoms-within heap.spatial first x h))) heap.pure
          (facts-kept heap.pure names);
      atoms = each-atoms (IsKept all) (IsKept more) (IsKept-more all more within) heap.spatial (atoms-kept heap.spatial first);
    }

pub locals-kept : (state : SymState) (names more : List ℕ) → Within (with_state names state) more → All (IsKept more) state.locals
locals-kept state names more within =
    let first : List ℕ = with_exps names state.locals in
    All-weaker (IsKept first) (IsKept more) (IsKept-more first more (λ x h. within x (heap-within state.heap first x h))) state.locals
    (exps-kept state.locals names)
