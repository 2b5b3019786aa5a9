-- How many fields the cells of a heap have, over structures of few fields; and which expressions are within the limits.
use Rattle.std.specs.Prelude.{◌≡◌, ℕ, ◌+◌, ◌*◌, ◌<◌, ◌≤◌, ℤ, Bool, true, false, not, ◌||◌, nat_lt, List, [], ◌∷◌, length, All}
use Rattle.std.specs.Option.{IsSomeAnd}
use Rattle.std.specs.Str.{bytes_eq}
use Rattle.std.proofs.Common.{refl, ap, arith}
use Rattle.std.proofs.lemmas.Bool.{and_from, and_parts, le-ltb, lt-ltb, ltb-true, or_left, or_right}
use Rattle.std.proofs.lemmas.List.Elements.{All-cons, All-head, All-nil, All-tail, All-weaker}
use Rattle.shape_data.specs.declared.program.StructDef.{StructDef}
use Rattle.shape_data.specs.declared.symbolic.Atom.{Atom}
use Rattle.shape_data.specs.declared.symbolic.Atom.TheVariants.{Points, Seg, Junk}
use Rattle.shape_data.specs.declared.symbolic.Exp.{Exp}
use Rattle.shape_data.specs.declared.symbolic.Exp.TheVariants.{Var, Const}
use Rattle.shape_data.specs.declared.symbolic.Fact.{Fact}
use Rattle.shape_data.specs.declared.symbolic.Fact.TheVariants.{Eq, Ne}
use Rattle.shape_data.specs.declared.symbolic.Post.{Post}
use Rattle.shape_data.specs.declared.symbolic.SymHeap.{SymHeap}
use Rattle.shape_data.specs.declared.symbolic.SymState.{SymState}
use Rattle.shape_data.specs.Heap.{struct_named}
use Rattle.shape_data.specs.WellFormed.{IsAtom, IsExp, IsFact, IsPost, IsState, IsSymHeap, Limits, storable}
use Rattle.sym_parts.specs.Laws.Each.{EachInAtom, EachInFact, EachInHeap, EachInPost, EachInState}
use Rattle.sym_pure.proofs.WellFormedLaws.{atom_each, from_each, to_each}
use Rattle.sym_canon.specs.Canonical.{as_state, without_locals}
use Rattle.sym_forms.specs.Sizes.{fields_in, fields_of, most_exps}
use Rattle.sym_matching.specs.Answers.{names_of_all}
use Rattle.sym_matching.specs.Rooms.{names_of}
use Rattle.solve_laws.specs.Certificates.Limits.{analysable}
use Rattle.solve_laws.specs.Limits.Numbers.{IsLowExistential, IsLowLogical, storable_logical}
use Rattle.shape_data.specs.Sizes.{IsNarrow}

-- ---- fields

narrow-of : (structs : List StructDef) (kind : List ℕ) (count : ℕ) → All IsNarrow structs →
    IsSomeAnd (struct_named structs kind) (λ def. count ≡ length def.fields) → count ≤ 16
narrow-of [] kind count each h = absurd h
narrow-of (def ∷ structs) kind count each h =
    by_test (bytes_eq def.name kind) refl (narrow-of structs kind count (All-tail IsNarrow def structs each))
  where
    by_test : (b : Bool) → bytes_eq def.name kind ≡ b →
        (IsSomeAnd (struct_named structs kind) (λ one. count ≡ length one.fields) → count ≤ 16) → count ≤ 16
    by_test true e later =
        let here : count ≡ length def.fields = rw e at h in
        let few : length def.fields ≤ 16 = All-head IsNarrow def structs each in
        omega (arith, here, few)
    by_test false e later = later (rw e at h)

module _ (limits : Limits) (structs : List StructDef) (params : ℕ) (narrow : All IsNarrow structs) where
  atom-fields : (atom : Atom) → IsAtom limits structs params atom → fields_of atom ≤ 16
  atom-fields (Points at kind fields) is = narrow-of structs kind (length fields) narrow is.1
  atom-fields (Seg kind link from to) is = omega arith
  atom-fields Junk is = omega arith

  atom-names : (atom : Atom) → IsAtom limits structs params atom → names_of atom ≤ 16
  atom-names (Points at kind fields) is = narrow-of structs kind (length fields) narrow is.1
  atom-names (Seg kind link from to) is = omega arith
  atom-names Junk is = omega arith

  -- the cells have few fields
  pub few-fields : (atoms : List Atom) → All (IsAtom limits structs params) atoms → fields_in atoms ≤ 16 * length atoms
  few-fields [] is = omega arith
  few-fields (atom ∷ atoms) is =
      let here : fields_of atom ≤ 16 = atom-fields atom (All-head (IsAtom limits structs params) atom atoms is) in
      let later : fields_in atoms ≤ 16 * length atoms = few-fields atoms (All-tail (IsAtom limits structs params) atom atoms is) in
      omega (arith, here, later)

  -- and a match may take few new logical variables for them
  pub few-names : (atoms : List Atom) → All (IsAtom limits structs params) atoms → names_of_all atoms ≤ 16 * length atoms
  few-names [] is = omega arith
  few-names (atom ∷ atoms) is =
      let here : names_of atom ≤ 16 = atom-names atom (All-head (IsAtom limits structs params) atom atoms is) in
      let later : names_of_all atoms ≤ 16 * length atoms = few-names atoms (All-tail (IsAtom limits structs params) atom atoms is) in
      omega (arith, here, later)

-- ---- the limits of a store, on logical variables alone

module _ (params : ℕ) where
  abbrev pub IsLogicalStorable : Exp → Type 0
  IsLogicalStorable e = IsExp storable_logical params e

  pub constant-fits : (n : ℤ) → IsLogicalStorable (Const n)
  constant-fits n = tt

  pub existential-fits : (x : ℕ) → 65536 ≤ x → IsLogicalStorable (Var x)
  existential-fits x high = or_left (not (nat_lt x 65536)) (nat_lt x (params + 32768)) (ap not (le-ltb x 65536 high))

  pub logical-fits : (x : ℕ) → x < params + 32768 → IsLogicalStorable (Var x)
  logical-fits x low = or_right (not (nat_lt x 65536)) (nat_lt x (params + 32768)) (lt-ltb x (params + 32768) low)

  -- what is within the limits of a store is within these
  pub storable-fits : (e : Exp) → IsExp storable params e → IsLogicalStorable e
  storable-fits (Const n) is = tt
  storable-fits (Var x) is = (and_parts (not (nat_lt x 65536) || nat_lt x (params + 32768)) (nat_lt x 98304) is).0

  -- and what is within these, with a low existential variable, is within the limits of a store
  pub low-storable : (count : ℕ) → count ≤ 32768 → (e : Exp) → IsLogicalStorable e → IsLowExistential count e → IsExp storable params e
  low-storable count few (Const n) is low = tt
  low-storable count few (Var x) is low =
      and_from (not (nat_lt x 65536) || nat_lt x (params + 32768)) (nat_lt x 98304) is (lt-ltb x 98304 (omega (arith, few, low)))

  -- a variable with one of the first numbers is
  pub low-logical-fits : (count : ℕ) → count ≤ 32768 → (e : Exp) → IsLowLogical params count e → IsLogicalStorable e
  low-logical-fits count few (Const n) low = tt
  low-logical-fits count few (Var x) low = by_test (nat_lt x 65536) refl
    where
      by_test : (b : Bool) → nat_lt x 65536 ≡ b → IsLogicalStorable (Var x)
      by_test true e = let under : x < params + count = low (ltb-true x 65536 e) in logical-fits x (omega (arith, under, few))
      by_test false e = or_left (not (nat_lt x 65536)) (nat_lt x (params + 32768)) (ap not e)

-- ---- facts and atoms by their expressions

module _ (from limits : Limits) (structs : List StructDef) (params : ℕ) where
  atom-of : (atom : Atom) → IsAtom from structs params atom → EachInAtom (IsExp limits params) atom → IsAtom limits structs params atom
  atom-of (Points at kind fields) is each = (each.0, is.1, each.1)
  atom-of (Seg kind link start end) is each = (is.0, each.0, each.1)
  atom-of Junk is each = tt

  pub facts-of : (facts : List Fact) → All (EachInFact (IsExp limits params)) facts → All (IsFact limits params) facts
  facts-of facts is = All-weaker (EachInFact (IsExp limits params)) (IsFact limits params) (from_each limits structs params) facts is

  pub to-facts : (facts : List Fact) → All (IsFact limits params) facts → All (EachInFact (IsExp limits params)) facts
  to-facts facts is = All-weaker (IsFact limits params) (EachInFact (IsExp limits params)) (to_each limits structs params) facts is

  pub atoms-of : (atoms : List Atom) → All (IsAtom from structs params) atoms → All (EachInAtom (IsExp limits params)) atoms →
      All (IsAtom limits structs params) atoms
  atoms-of [] is each = All-nil (IsAtom limits structs params)
  atoms-of (atom ∷ atoms) is each =
      All-cons (IsAtom limits structs params) atom atoms
      (atom-of atom (All-head (IsAtom from structs params) atom atoms is) (All-head (EachInAtom (IsExp limits params)) atom atoms each))
      (atoms-of atoms (All-tail (IsAtom from structs params) atom atoms is) (All-tail (EachInAtom (IsExp limits params)) atom atoms each))

  pub to-atoms : (atoms : List Atom) → All (IsAtom limits structs params) atoms → All (EachInAtom (IsExp limits params)) atoms
  to-atoms atoms is =
      All-weaker (IsAtom limits structs params) (EachInAtom (IsExp limits params)) (atom_each limits structs params) atoms is

-- ---- what follows from two facts on each expression

module _ (A B C : Exp → Type 0) (both : (e : Exp) → A e → B e → C e) where
  pub exps-both : (es : List Exp) → All A es → All B es → All C es
  exps-both [] a b = All-nil C
  exps-both (e ∷ es) a b =
      All-cons C e es (both e (All-head A e es a) (All-head B e es b)) (exps-both es (All-tail A e es a) (All-tail B e es b))

  fact-both : (fact : Fact) → EachInFact A fact → EachInFact B fact → EachInFact C fact
  fact-both (Eq left right) a b = (both left a.0 b.0, both right a.1 b.1)
  fact-both (Ne left right) a b = (both left a.0 b.0, both right a.1 b.1)

  atom-both : (atom : Atom) → EachInAtom A atom → EachInAtom B atom → EachInAtom C atom
  atom-both (Points at kind fields) a b = (both at a.0 b.0, exps-both fields a.1 b.1)
  atom-both (Seg kind link from to) a b = (both from a.0 b.0, both to a.1 b.1)
  atom-both Junk a b = tt

  facts-both : (facts : List Fact) → All (EachInFact A) facts → All (EachInFact B) facts → All (EachInFact C) facts
  facts-both [] a b = All-nil (EachInFact C)
  facts-both (fact ∷ facts) a b =
      All-cons (EachInFact C) fact facts (fact-both fact (All-head (EachInFact A) fact facts a) (All-head (EachInFact B) fact facts b))
      (facts-both facts (All-tail (EachInFact A) fact facts a) (All-tail (EachInFact B) fact facts b))

  atoms-both : (atoms : List Atom) → All (EachInAtom A) atoms → All (EachInAtom B) atoms → All (EachInAtom C) atoms
  atoms-both [] a b = All-nil (EachInAtom C)
  atoms-both (atom ∷ atoms) a b =
      All-cons (EachInAtom C) atom atoms (atom-both atom (All-head (EachInAtom A) atom atoms a) (All-head (EachInAtom B) atom atoms b))
      (atoms-both atoms (All-tail (EachInAtom A) atom atoms a) (All-tail (EachInAtom B) atom atoms b))

  pub heap-both : (heap : SymHeap) → EachInHeap A heap → EachInHeap B heap → EachInHeap C heap
  heap-both heap a b = record { facts = facts-both heap.pure a.facts b.facts; atoms = atoms-both heap.spatial a.atoms b.atoms }

-- ---- heaps, states and posts within the limits of a store

module _ (structs : List StructDef) (params : ℕ) (narrow : All IsNarrow structs) where
  -- a heap of so many parts, with so many expressions beside it
  heap-count : (others : ℕ) (heap : SymHeap) → IsSymHeap analysable structs params heap → others ≤ 48 →
      others + (fields_in heap.spatial + 2 * (length heap.pure + length heap.spatial)) ≤ 32768
  heap-count others heap is few =
      let fields : fields_in heap.spatial ≤ 16 * length heap.spatial = few-fields analysable structs params narrow heap.spatial is.atoms in
      let parts : length heap.pure + length heap.spatial ≤ 96 = is.parts in
      omega (arith, fields, parts, few)

  pub heap-storable : (heap : SymHeap) → IsSymHeap analysable structs params heap → EachInHeap (IsExp storable params) heap →
      IsSymHeap storable structs params heap
  heap-storable heap is each = record {
    parts = is.parts;
    facts = facts-of analysable storable structs params heap.pure each.facts;
    atoms = atoms-of analysable storable structs params heap.spatial is.atoms each.atoms;
  }

  pub state-storable : (slots : ℕ) (state : SymState) → slots ≤ 48 → IsState analysable structs params slots state →
      EachInState (IsLogicalStorable params) state → EachInState (IsLowExistential (most_exps state)) state →
      IsState storable structs params slots state
  state-storable slots state few is logical existential =
      let one_each : length state.locals ≡ slots = is.one_each in
      let counted : length state.locals + (fields_in state.heap.spatial + 2 * (length state.heap.pure + length state.heap.spatial))
      ≤ 32768 =
      heap-count (length state.locals) state.heap is.heap (omega (arith, one_each, few)) in
      let stored : (e : Exp) → IsLogicalStorable params e → IsLowExistential (most_exps state) e → IsExp storable params e =
      low-storable params (most_exps state) counted in
      record {
        one_each = is.one_each;
        locals =
            exps-both (IsLogicalStorable params) (IsLowExistential (most_exps state))
            (IsExp storable params) stored state.locals logical.locals existential.locals;
        heap =
            heap-storable state.heap is.heap
            (heap-both (IsLogicalStorable params) (IsLowExistential (most_exps state))
            (IsExp storable params) stored state.heap logical.heap existential.heap);
      }

  pub post-storable : (post : Post) → IsPost analysable structs params post → EachInPost (IsLogicalStorable params) post →
      EachInState (IsLowExistential (most_exps (as_state post))) (as_state post) →
      IsPost storable structs params post
  post-storable post is logical existential =
      let counted : 1 + (fields_in post.heap.spatial + 2 * (length post.heap.pure + length post.heap.spatial)) ≤ 32768 =
      heap-count 1 post.heap is.heap (omega arith) in
      let stored : (e : Exp) → IsLogicalStorable params e → IsLowExistential (most_exps (as_state post)) e → IsExp storable params e =
      low-storable params (most_exps (as_state post)) counted in
      record {
        ret = stored post.ret logical.ret (All-head (IsLowExistential (most_exps (as_state post))) post.ret [] existential.locals);
        heap =
            heap-storable post.heap is.heap
            (heap-both (IsLogicalStorable params) (IsLowExistential (most_exps (as_state post)))
            (IsExp storable params) stored post.heap logical.heap existential.heap);
      }

  -- a heap whose variables have the first numbers, as many as it has expressions
  pub first-storable : (heap : SymHeap) → IsSymHeap analysable structs params heap →
      EachInHeap (IsLowLogical params (most_exps (without_locals heap))) heap →
      EachInHeap (IsLowExistential (most_exps (without_locals heap))) heap → IsSymHeap storable structs params heap
  first-storable heap is logical existential =
      let counted : 0 + (fields_in heap.spatial + 2 * (length heap.pure + length heap.spatial)) ≤ 32768 =
      heap-count 0 heap is (omega arith) in
      let count : ℕ = most_exps (without_locals heap) in
      let few : count ≤ 32768 = omega (arith, counted) in
      heap-storable heap is
      (heap-both (IsLowLogical params count) (IsLowExistential count) (IsExp storable params)
      (λ e one other. low-storable params count few e (low-logical-fits params count few e one) other) heap logical existential)
