-- The variables of a heap, a post, a state are in the lists of their variables.
use Rattle.std.specs.Prelude.{◌≡◌, ℕ, true, List, [], ◌∷◌, All}
use Rattle.std.proofs.lemmas.List.Elements.{All-nil, All-cons, All-head, All-tail, All-weaker}
use Rattle.shape_data.specs.declared.symbolic.Atom.{Atom}
use Rattle.shape_data.specs.declared.symbolic.Atom.TheVariants.{Points, Seg, Junk}
use Rattle.shape_data.specs.declared.symbolic.Exp.{Exp}
use Rattle.shape_data.specs.declared.symbolic.Exp.TheVariants.{Var, Const}
use Rattle.shape_data.specs.declared.symbolic.Fact.{Fact}
use Rattle.shape_data.specs.declared.symbolic.Fact.TheVariants.{Eq, Ne}
use Rattle.shape_data.specs.declared.symbolic.SymHeap.{SymHeap}
use Rattle.shape_data.specs.declared.symbolic.SymState.{SymState}
use Rattle.sym_parts.specs.Laws.Each.{EachInAtom, EachInFact, EachInHeap}
use Rattle.sym_parts.specs.Laws.Fresh.{is_one_of}
use Rattle.sym_canon.specs.Numbering.{sides}
use Rattle.sym_canon.specs.Placing.{exps_of}
use Rattle.sym_matching.specs.Variables.{with_variable, with_exps, with_facts, with_atoms, with_heap, with_state}
use Rattle.sym_matching.proofs.KeptLaws.{Within, each-atom, each-fact, each-facts, one_of-first, one_of-right}
use Rattle.sym_matching.proofs.VariableLaws.{atoms-within, exps-within, facts-within, heap-within}

-- the expression's variable is in the list
abbrev pub IsListed : List ℕ → Exp → Type 0
IsListed names (Var x) = is_one_of names x ≡ true
IsListed names (Const n) = Unit {0}

pub listed-more : (names more : List ℕ) → Within names more → (e : Exp) → IsListed names e → IsListed more e
listed-more names more within (Var x) h = within x h
listed-more names more within (Const n) h = tt

pub variable-listed : (names : List ℕ) (e : Exp) → IsListed (with_variable names e) e
variable-listed names (Var x) = one_of-right names (x ∷ []) x (one_of-first x [])
variable-listed names (Const n) = tt

exps_listed : (es : List Exp) (names : List ℕ) → All (IsListed (with_exps names es)) es
exps_listed [] names = All-nil (IsListed names)
exps_listed (e ∷ es) names =
    All-cons (IsListed (with_exps (with_variable names e) es)) e es
    (listed-more (with_variable names e) (with_exps (with_variable names e) es) (exps-within es (with_variable names e)) e
    (variable-listed names e)) (exps_listed es (with_variable names e))

each_side : (P : Exp → Type 0) (fact : Fact) → All P (sides fact) → EachInFact P fact
each_side P (Eq left right) h = (All-head P left (right ∷ []) h, All-head P right [] (All-tail P left (right ∷ []) h))
each_side P (Ne left right) h = (All-head P left (right ∷ []) h, All-head P right [] (All-tail P left (right ∷ []) h))

each_exp : (P : Exp → Type 0) (atom : Atom) → All P (exps_of atom) → EachInAtom P atom
each_exp P (Points at kind fields) h = (All-head P at fields h, All-tail P at fields h)
each_exp P (Seg kind link from to) h = (All-head P from (to ∷ []) h, All-head P to [] (All-tail P from (to ∷ []) h))
each_exp P Junk h = tt

facts_listed : (facts : List Fact) (names : List ℕ) → All (EachInFact (IsListed (with_facts names facts))) facts
facts_listed [] names = All-nil (EachInFact (IsListed names))
facts_listed (fact ∷ facts) names =
    let now : List ℕ = with_exps names (sides fact) in
    let later : List ℕ = with_facts now facts in
    All-cons (EachInFact (IsListed later)) fact facts
    (each-fact (IsListed now) (IsListed later) (listed-more now later (facts-within facts now)) fact
    (each_side (IsListed now) fact (exps_listed (sides fact) names))) (facts_listed facts now)

atoms_listed : (atoms : List Atom) (names : List ℕ) → All (EachInAtom (IsListed (with_atoms names atoms))) atoms
atoms_listed [] names = All-nil (EachInAtom (IsListed names))
atoms_listed (atom ∷ atoms) names =
    let now : List ℕ = with_exps names (exps_of atom) in
    let later : List ℕ = with_atoms now atoms in
    All-cons (EachInAtom (IsListed later)) atom atoms
    (each-atom (IsListed now) (IsListed later) (listed-more now later (atoms-within atoms now)) atom
    (each_exp (IsListed now) atom (exps_listed (exps_of atom) names))) (atoms_listed atoms now)

-- the expressions of a heap have variables of its list
pub heap-listed : (heap : SymHeap) (names : List ℕ) → EachInHeap (IsListed (with_heap names heap)) heap
heap-listed heap names =
    let first : List ℕ = with_facts names heap.pure in
    let all : List ℕ = with_heap names heap in record {
      facts =
          each-facts (IsListed first) (IsListed all) (listed-more first all (atoms-within heap.spatial first)) heap.pure
          (facts_listed heap.pure names);
      atoms = atoms_listed heap.spatial first;
    }

-- and those of a state
pub locals-listed : (state : SymState) (names : List ℕ) → All (IsListed (with_state names state)) state.locals
locals-listed state names =
    let first : List ℕ = with_exps names state.locals in
    All-weaker (IsListed first) (IsListed (with_state names state))
    (listed-more first (with_state names state) (heap-within state.heap first)) state.locals (exps_listed state.locals names)
