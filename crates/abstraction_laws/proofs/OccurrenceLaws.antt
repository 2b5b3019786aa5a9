-- What holds of each expression in the list of all, and the first number above all variables.
use Rattle.std.specs.Prelude.{ℕ, ◌+◌, ◌<◌, ◌≤◌, max, List, [], ◌∷◌, ◌++◌, All}
use Rattle.std.proofs.Common.{arith}
use Rattle.std.proofs.lemmas.List.Elements.{All-append, All-cons, All-head, All-nil, All-tail}
use Rattle.shape_data.specs.declared.symbolic.Atom.{Atom}
use Rattle.shape_data.specs.declared.symbolic.Atom.TheVariants.{Points, Seg, Junk}
use Rattle.shape_data.specs.declared.symbolic.Exp.{Exp}
use Rattle.shape_data.specs.declared.symbolic.Exp.TheVariants.{Var, Const}
use Rattle.shape_data.specs.declared.symbolic.Fact.{Fact}
use Rattle.shape_data.specs.declared.symbolic.Fact.TheVariants.{Eq, Ne}
use Rattle.shape_data.specs.declared.symbolic.SymState.{SymState}
use Rattle.sym_parts.specs.Laws.Each.{EachInAtom, EachInFact, EachInState}
use Rattle.sym_canon.specs.Numbering.{sides}
use Rattle.sym_canon.specs.Placing.{exps_of}
use Rattle.abstraction_laws.specs.Forgetting.{above}
use Rattle.abstraction_laws.specs.Occurrences.{exps_of_atoms, exps_of_facts, exps_of_heap, exps_of_state}

pub all-left : {A : Type 0} (P : A → Type 0) (xs ys : List A) → All P (xs ++ ys) → All P xs
all-left P [] ys h = All-nil P
all-left P (x ∷ xs) ys h = All-cons P x xs (All-head P x (xs ++ ys) h) (all-left P xs ys (All-tail P x (xs ++ ys) h))

pub all-right : {A : Type 0} (P : A → Type 0) (xs ys : List A) → All P (xs ++ ys) → All P ys
all-right P [] ys h = h
all-right P (x ∷ xs) ys h = all-right P xs ys (All-tail P x (xs ++ ys) h)

module _ (P : Exp → Type 0) where
  two : (left right : Exp) → P left → P right → All P (left ∷ right ∷ [])
  two left right l r = All-cons P left (right ∷ []) l (All-cons P right [] r (All-nil P))

  from_two : (left right : Exp) → All P (left ∷ right ∷ []) → P left × P right
  from_two left right h = (All-head P left (right ∷ []) h, All-head P right [] (All-tail P left (right ∷ []) h))

  pub to_atom : (atom : Atom) → All P (exps_of atom) → EachInAtom P atom
  to_atom (Points at kind fields) h = (All-head P at fields h, All-tail P at fields h)
  to_atom (Seg kind link from to) h = from_two from to h
  to_atom Junk h = tt

  pub from_atom : (atom : Atom) → EachInAtom P atom → All P (exps_of atom)
  from_atom (Points at kind fields) h = All-cons P at fields h.0 h.1
  from_atom (Seg kind link from to) h = two from to h.0 h.1
  from_atom Junk h = All-nil P

  to_fact : (fact : Fact) → All P (sides fact) → EachInFact P fact
  to_fact (Eq left right) h = from_two left right h
  to_fact (Ne left right) h = from_two left right h

  from_fact : (fact : Fact) → EachInFact P fact → All P (sides fact)
  from_fact (Eq left right) h = two left right h.0 h.1
  from_fact (Ne left right) h = two left right h.0 h.1

  pub to_atoms : (atoms : List Atom) → All P (exps_of_atoms atoms) → All (EachInAtom P) atoms
  to_atoms [] h = All-nil (EachInAtom P)
  to_atoms (atom ∷ atoms) h =
      All-cons (EachInAtom P) atom atoms (to_atom atom (all-left P (exps_of atom) (exps_of_atoms atoms) h))
      (to_atoms atoms (all-right P (exps_of atom) (exps_of_atoms atoms) h))

  pub from_atoms : (atoms : List Atom) → All (EachInAtom P) atoms → All P (exps_of_atoms atoms)
  from_atoms [] h = All-nil P
  from_atoms (atom ∷ atoms) h =
      All-append P (exps_of atom) (exps_of_atoms atoms) (from_atom atom (All-head (EachInAtom P) atom atoms h))
      (from_atoms atoms (All-tail (EachInAtom P) atom atoms h))

  to_facts : (facts : List Fact) → All P (exps_of_facts facts) → All (EachInFact P) facts
  to_facts [] h = All-nil (EachInFact P)
  to_facts (fact ∷ facts) h =
      All-cons (EachInFact P) fact facts (to_fact fact (all-left P (sides fact) (exps_of_facts facts) h))
      (to_facts facts (all-right P (sides fact) (exps_of_facts facts) h))

  from_facts : (facts : List Fact) → All (EachInFact P) facts → All P (exps_of_facts facts)
  from_facts [] h = All-nil P
  from_facts (fact ∷ facts) h =
      All-append P (sides fact) (exps_of_facts facts) (from_fact fact (All-head (EachInFact P) fact facts h))
      (from_facts facts (All-tail (EachInFact P) fact facts h))

  pub to_state : (state : SymState) → All P (exps_of_state state) → EachInState P state
  to_state state h =
      let heap : All P (exps_of_heap state.heap) = all-right P state.locals (exps_of_heap state.heap) h in
      record {
        locals = all-left P state.locals (exps_of_heap state.heap) h;
        heap = record {
          facts = to_facts state.heap.pure (all-right P (exps_of_atoms state.heap.spatial) (exps_of_facts state.heap.pure) heap);
          atoms = to_atoms state.heap.spatial (all-left P (exps_of_atoms state.heap.spatial) (exps_of_facts state.heap.pure) heap);
        };
      }

  pub from_state : (state : SymState) → EachInState P state → All P (exps_of_state state)
  from_state state h =
      All-append P state.locals (exps_of_heap state.heap) h.locals
      (All-append P (exps_of_atoms state.heap.spatial) (exps_of_facts state.heap.pure) (from_atoms state.heap.spatial h.heap.atoms)
      (from_facts state.heap.pure h.heap.facts))

-- ---- above all variables

-- the expression's variable is below a number
abbrev pub IsUnder : ℕ → Exp → Type 0
IsUnder limit (Var x) = x < limit
IsUnder limit (Const n) = Unit {0}

pub above-first : (first : ℕ) (es : List Exp) → first ≤ above first es
above-first first [] = omega arith
above-first first (Var x ∷ es) =
    let later : max first (x + 1) ≤ above (max first (x + 1)) es = above-first (max first (x + 1)) es in omega (arith, later)
above-first first (Const n ∷ es) = above-first first es

pub above-each : (first : ℕ) (es : List Exp) → All (IsUnder (above first es)) es
above-each first [] = All-nil (IsUnder first)
above-each first (Var x ∷ es) =
    let later : max first (x + 1) ≤ above (max first (x + 1)) es = above-first (max first (x + 1)) es in
    All-cons (IsUnder (above (max first (x + 1)) es)) (Var x) es (omega (arith, later)) (above-each (max first (x + 1)) es)
above-each first (Const n ∷ es) = All-cons (IsUnder (above first es)) (Const n) es tt (above-each first es)

-- where all are below a limit, so is the number above them
pub above-under : (limit first : ℕ) (es : List Exp) → first ≤ limit → All (IsUnder limit) es → above first es ≤ limit
above-under limit first [] low h = low
above-under limit first (Var x ∷ es) low h =
    let here : x < limit = All-head (IsUnder limit) (Var x) es h in
    above-under limit (max first (x + 1)) es (omega (arith, here, low)) (All-tail (IsUnder limit) (Var x) es h)
above-under limit first (Const n ∷ es) low h = above-under limit first es low (All-tail (IsUnder limit) (Const n) es h)
