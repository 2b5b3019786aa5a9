-- The canonical form: it makes no logical variable, and its existential variables have the first numbers.
use Rattle.std.specs.Prelude.{◌≡◌, ℕ, ◌+◌, ◌<◌, ◌≤◌, Bool, true, false, ◌==◌, leb, ltb, nat_lt, List, [], ◌∷◌, length, map, position}
use Rattle.std.specs.List.{position_or_len}
use Rattle.std.specs.declared.option.Option.{Option}
use Rattle.std.specs.declared.option.Option.TheVariants.{None, Some}
use Rattle.std.proofs.Common.{refl, arith}
use Rattle.std.proofs.lemmas.Bool.{leb-false, lt-ltb, ltb-true}
use Rattle.std.proofs.lemmas.List.{length-map}
use Rattle.std.proofs.lemmas.List.Elements.{All-cons, All-head, All-nil}
use Rattle.shape_data.specs.declared.symbolic.Atom.{Atom}
use Rattle.shape_data.specs.declared.symbolic.Atom.TheVariants.{Points, Seg, Junk}
use Rattle.shape_data.specs.declared.symbolic.Exp.{Exp}
use Rattle.shape_data.specs.declared.symbolic.Exp.TheVariants.{Var, Const}
use Rattle.shape_data.specs.declared.symbolic.Fact.TheVariants.{Ne}
use Rattle.shape_data.specs.declared.symbolic.Post.{Post}
use Rattle.shape_data.specs.declared.symbolic.SymHeap.{SymHeap}
use Rattle.shape_data.specs.declared.symbolic.SymState.{SymState}
use Rattle.sym_parts.specs.Laws.Each.{EachInAtom, EachInFact, EachInHeap, EachInPost, EachInState}
use Rattle.sym_parts.specs.Laws.Fresh.{is_one_of}
use Rattle.sym_parts.specs.Laws.Mapped.{on_atom, on_fact, on_heap, on_state}
use Rattle.sym_parts.proofs.LawsLemmas.EachLemmas.{each-on_atoms, each-on_exps, each-on_facts}
use Rattle.sym_canon.specs.declared.parts.Variables.TheVariants.{Existential, Further}
use Rattle.sym_canon.specs.Canonical.{arranged, as_state, canon_pair, canon_post, canon_state, sight_pair, sight_state}
use Rattle.sym_canon.specs.Canonical.{state_with_facts_sorted, with_atoms_placed, with_facts_sorted, without_locals}
use Rattle.sym_canon.specs.FactOrder.{sorted_facts}
use Rattle.sym_canon.specs.Numbering.{number_at, with_number}
use Rattle.sym_canon.proofs.SightLaws.{Known, kept-state, state-known, state-stays}
use Rattle.sym_forms.specs.Sizes.{fields_in, most_exps}
use Rattle.sym_forms.proofs.WellFormedLaws.{few-seen, placed-each, seen-longer, sorted-each, sorted-length}
use Rattle.solve_laws.specs.Limits.Laws.{FormsHaveLowExistentials}
use Rattle.solve_laws.specs.Limits.Numbers.{IsLowExistential, IsLowLogical}

-- ---- posts as states

pub as_state-each : (P : Exp → Type 0) (post : Post) → EachInPost P post → EachInState P (as_state post)
as_state-each P post is = record { locals = All-cons P post.ret [] is.ret (All-nil P); heap = is.heap }

pub of_state-each : (P : Exp → Type 0) (post : Post) → EachInState P (as_state post) → EachInPost P post
of_state-each P post is = record { ret = All-head P post.ret [] is.locals; heap = is.heap }

-- ---- a function on expressions, and facts in order

module _ (P Q : Exp → Type 0) (f : Exp → Exp) (gives : (e : Exp) → P e → Q (f e)) where
  turned : (left right : Exp) → EachInFact Q (Ne left right) → EachInFact Q (Ne right left)
  turned left right h = (h.1, h.0)

  pub heap-sorted : (heap : SymHeap) → EachInHeap P heap → EachInHeap Q (with_facts_sorted (on_heap f heap))
  heap-sorted heap is = record {
    facts = sorted-each (EachInFact Q) turned (map (on_fact f) heap.pure) (each-on_facts P Q f gives heap.pure is.facts);
    atoms = each-on_atoms P Q f gives heap.spatial is.atoms;
  }

  pub state-sorted : (state : SymState) → EachInState P state → EachInState Q (state_with_facts_sorted (on_state f state))
  state-sorted state is = record { locals = each-on_exps P Q f gives state.locals is.locals; heap = heap-sorted state.heap is.heap }

  pub state-on : (state : SymState) → EachInState P state → EachInState Q (on_state f state)
  state-on state is = record {
    locals = each-on_exps P Q f gives state.locals is.locals;
    heap =
        record {
          facts = each-on_facts P Q f gives state.heap.pure is.heap.facts;
          atoms = each-on_atoms P Q f gives state.heap.spatial is.heap.atoms;
        };
  }

placed-state : (P : Exp → Type 0) (params : ℕ) (state : SymState) → EachInState P state → EachInState P (with_atoms_placed params state)
placed-state P params state is = record {
  locals = is.locals;
  heap = record { facts = is.heap.facts; atoms = placed-each (EachInAtom P) params state.locals state.heap.spatial is.heap.atoms };
}

-- ---- how many expressions

fields-mapped : (f : Exp → Exp) (atoms : List Atom) → fields_in (map (on_atom f) atoms) ≡ fields_in atoms
fields-mapped f [] = refl
fields-mapped f (Points at kind fields ∷ atoms) =
    let here : length (map f fields) ≡ length fields = length-map fields f in
    let later : fields_in (map (on_atom f) atoms) ≡ fields_in atoms = fields-mapped f atoms in
    omega (arith, here, later)
fields-mapped f (Seg kind link from to ∷ atoms) =
    let later : fields_in (map (on_atom f) atoms) ≡ fields_in atoms = fields-mapped f atoms in omega (arith, later)
fields-mapped f (Junk ∷ atoms) =
    let later : fields_in (map (on_atom f) atoms) ≡ fields_in atoms = fields-mapped f atoms in omega (arith, later)

sorted-many : (f : Exp → Exp) (state : SymState) → most_exps (state_with_facts_sorted (on_state f state)) ≡ most_exps state
sorted-many f state =
    let locals : length (map f state.locals) ≡ length state.locals = length-map state.locals f in
    let fields : fields_in (map (on_atom f) state.heap.spatial) ≡ fields_in state.heap.spatial = fields-mapped f state.heap.spatial in
    let atoms : length (map (on_atom f) state.heap.spatial) ≡ length state.heap.spatial = length-map state.heap.spatial (on_atom f) in
    let sorted : length (sorted_facts (map (on_fact f) state.heap.pure)) ≡ length (map (on_fact f) state.heap.pure) =
    sorted-length (map (on_fact f) state.heap.pure) in
    let facts : length (map (on_fact f) state.heap.pure) ≡ length state.heap.pure = length-map state.heap.pure (on_fact f) in
    omega (arith, locals, fields, atoms, sorted, facts)

on-many : (f : Exp → Exp) (state : SymState) → most_exps (on_state f state) ≡ most_exps state
on-many f state =
    let locals : length (map f state.locals) ≡ length state.locals = length-map state.locals f in
    let fields : fields_in (map (on_atom f) state.heap.spatial) ≡ fields_in state.heap.spatial = fields-mapped f state.heap.spatial in
    let atoms : length (map (on_atom f) state.heap.spatial) ≡ length state.heap.spatial = length-map state.heap.spatial (on_atom f) in
    let facts : length (map (on_fact f) state.heap.pure) ≡ length state.heap.pure = length-map state.heap.pure (on_fact f) in
    omega (arith, locals, fields, atoms, facts)

-- ---- no logical variable is made

module _ (P : Exp → Type 0) (new : (x : ℕ) → 65536 ≤ x → P (Var x)) where
  number-kept : (seen : List ℕ) (e : Exp) → P e → P (with_number 65536 seen e)
  number-kept seen (Const n) is = is
  number-kept seen (Var x) is = by_place (position (λ y. x == y) seen)
    where
      by_place : (o : Option ℕ) → P (Var (number_at 65536 x o))
      by_place None = is
      by_place (Some place) = new (65536 + place) (omega arith)

  pub canon-kept : (state : SymState) (params : ℕ) → EachInState P state → EachInState P (canon_state state params)
  canon-kept state params is =
      let seen : List ℕ = sight_state Existential (with_atoms_placed params state) [] in
      state-sorted P P (with_number 65536 seen) (number-kept seen) (with_atoms_placed params state) (placed-state P params state is)

  pub canon_post-kept : (post : Post) (params : ℕ) → EachInPost P post → EachInPost P (canon_post post params)
  canon_post-kept post params is = of_state-each P (canon_post post params) (canon-kept (as_state post) params (as_state-each P post is))

-- ---- existential variables have the first numbers

place-low : (x : ℕ) (xs : List ℕ) → is_one_of xs x ≡ true → position_or_len (λ y. x == y) xs < length xs
place-low x [] h = cc
place-low x (y ∷ xs) h = by_test (x == y) refl (place-low x xs) h
  where
    by_test : (b : Bool) → (x == y) ≡ b → (is_one_of xs x ≡ true → position_or_len (λ z. x == z) xs < length xs) →
        is_one_of (y ∷ xs) x ≡ true →
        position_or_len (λ z. x == z) (y ∷ xs) < length (y ∷ xs)
    by_test true e go_on k = rw e (omega arith)
    by_test false e go_on k =
        let told : is_one_of xs x ≡ true = rw e at k in
        let inner : position_or_len (λ z. x == z) xs < length xs = go_on told in
        rw e (omega (arith, inner))

-- what is in the list has a place in it
placed-in : (x : ℕ) (xs : List ℕ) → nat_lt (position_or_len (λ y. x == y) xs) (length xs) ≡ false → is_one_of xs x ≡ true → ⊥
placed-in x xs outside there =
    let inside : nat_lt (position_or_len (λ y. x == y) xs) (length xs) ≡ true =
    lt-ltb (position_or_len (λ y. x == y) xs) (length xs) (place-low x xs there) in
    cc

number-low : (seen : List ℕ) (count : ℕ) → length seen ≤ count → (e : Exp) → Known Existential seen e →
    IsLowExistential count (with_number 65536 seen e)
number-low seen count few (Const n) known = tt
number-low seen count few (Var x) known = by_place (nat_lt (position_or_len (λ y. x == y) seen) (length seen)) refl
  where
    own : (d : Bool) → leb 65536 x ≡ d → nat_lt (position_or_len (λ y. x == y) seen) (length seen) ≡ false → x < 65536 + count
    own true e outside = let there : is_one_of seen x ≡ true = rw e at known in absurd (placed-in x seen outside there)
    own false e outside = let low : x < 65536 = leb-false 65536 x e in omega (arith, low)

    by_place : (c : Bool) → nat_lt (position_or_len (λ y. x == y) seen) (length seen) ≡ c →
        IsLowExistential count (with_number 65536 seen (Var x))
    by_place true e =
        let low : position_or_len (λ y. x == y) seen < length seen = ltb-true (position_or_len (λ y. x == y) seen) (length seen) e in
        rw e (omega (arith, low, few))
    by_place false e = rw e (own (leb 65536 x) refl e)

pub forms_have_low_existentials : FormsHaveLowExistentials
forms_have_low_existentials state params =
    let before : SymState = with_atoms_placed params state in
    let seen : List ℕ = sight_state Existential before [] in
    let same : most_exps (canon_state state params) ≡ most_exps before = sorted-many (with_number 65536 seen) before in
    let most : length seen ≤ most_exps before = few-seen before in
    let few : length seen ≤ most_exps (canon_state state params) = omega (arith, most, same) in
    state-sorted (Known Existential seen) (IsLowExistential (most_exps (canon_state state params))) (with_number 65536 seen)
    (number-low seen (most_exps (canon_state state params)) few) before
    (state-known Existential before [])

-- atoms in order and existential variables numbered, with so many expressions
arranged-low : (params count : ℕ) (state : SymState) → most_exps (arranged params state) ≤ count →
    EachInState (IsLowExistential count) (arranged params state)
arranged-low params count state small =
    let before : SymState = with_atoms_placed params state in
    let seen : List ℕ = sight_state Existential before [] in
    let same : most_exps (arranged params state) ≡ most_exps before = on-many (with_number 65536 seen) before in
    let most : length seen ≤ most_exps before = few-seen before in
    let few : length seen ≤ count = omega (arith, most, same, small) in
    state-on (Known Existential seen) (IsLowExistential count) (with_number 65536 seen) (number-low seen count few) before
    (state-known Existential before [])

-- ---- pairs: the further logical variables have the first numbers behind the parameters

module _ (params count : ℕ) (seen : List ℕ) (few : length seen ≤ count) where
  further-logical : (e : Exp) → Known (Further params) seen e → IsLowLogical params count (with_number params seen e)
  further-logical (Const n) known = tt
  further-logical (Var x) known = by_place (nat_lt (position_or_len (λ y. x == y) seen) (length seen)) refl
    where
      own : (c d : Bool) → leb params x ≡ c → ltb x 65536 ≡ d → nat_lt (position_or_len (λ y. x == y) seen) (length seen) ≡ false →
          x < 65536 → x < params + count
      own false d e f outside low = let under : x < params = leb-false params x e in omega (arith, under)
      own true false e f outside low = let high : ltb x 65536 ≡ true = lt-ltb x 65536 low in cc
      own true true e f outside low = let there : is_one_of seen x ≡ true = rw (e, f) at known in absurd (placed-in x seen outside there)

      by_place : (c : Bool) → nat_lt (position_or_len (λ y. x == y) seen) (length seen) ≡ c →
          IsLowLogical params count (with_number params seen (Var x))
      by_place true e =
          let there : position_or_len (λ y. x == y) seen < length seen = ltb-true (position_or_len (λ y. x == y) seen) (length seen) e in
          rw e (λ low. omega (arith, there, few))
      by_place false e = rw e (own (leb params x) (ltb x 65536) refl refl e)

  further-existential : params ≤ 65536 → (e : Exp) → IsLowExistential count e → IsLowExistential count (with_number params seen e)
  further-existential low (Const n) is = tt
  further-existential low (Var x) is = by_place (nat_lt (position_or_len (λ y. x == y) seen) (length seen)) refl
    where
      by_place : (c : Bool) → nat_lt (position_or_len (λ y. x == y) seen) (length seen) ≡ c →
          IsLowExistential count (with_number params seen (Var x))
      by_place true e =
          let there : position_or_len (λ y. x == y) seen < length seen = ltb-true (position_or_len (λ y. x == y) seen) (length seen) e in
          rw e (omega (arith, there, few, low))
      by_place false e = rw e is

-- the variables of the missing heap of a canonical pair: as many as it has expressions, with those of the state
pub record HasFirstNumbers (params count : ℕ) (heap : SymHeap) : Type 0 where
  pub logical : EachInHeap (IsLowLogical params count) heap
  pub existential : EachInHeap (IsLowExistential count) heap

pub canon_pair-first : (params : ℕ) (missing : SymHeap) (state : SymState) → params ≤ 65536 →
    HasFirstNumbers params
    (most_exps (without_locals (canon_pair missing state params).missing) + most_exps (canon_pair missing state params).state)
    (canon_pair missing state params).missing
canon_pair-first params missing state low = record {
  logical =
      heap-sorted (Known (Further params) seen) (IsLowLogical params count) (with_number params seen)
      (further-logical params count seen few) first.heap known.heap;
  existential =
      heap-sorted (IsLowExistential count) (IsLowExistential count) (with_number params seen)
      (further-existential params count seen few low) first.heap existentials.heap;
}
  where
    first : SymState
    first = arranged params (without_locals missing)

    second : SymState
    second = arranged params state

    before : List ℕ
    before = sight_state (Further params) first []

    seen : List ℕ
    seen = sight_pair params first second

    count : ℕ
    count = most_exps (without_locals (canon_pair missing state params).missing) + most_exps (canon_pair missing state params).state

    first-many : most_exps (without_locals (canon_pair missing state params).missing) ≡ most_exps first
    first-many = sorted-many (with_number params seen) first

    second-many : most_exps (canon_pair missing state params).state ≡ most_exps second
    second-many = sorted-many (with_number params seen) second

    few : length seen ≤ count
    few =
        let one : length before ≤ 0 + most_exps first = seen-longer (Further params) first [] in
        let two : length seen ≤ length before + most_exps second = seen-longer (Further params) second before in
        omega (arith, one, two, first-many, second-many)

    known : EachInState (Known (Further params) seen) first
    known =
        state-stays (Further params) before seen (kept-state (Further params) second before) first (state-known (Further params) first [])

    existentials : EachInState (IsLowExistential count) first
    existentials = arranged-low params count (without_locals missing) (omega (arith, first-many))
