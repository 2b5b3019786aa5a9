-- On what was seen, numbering is an exchange of variables that can be undone.
use Rattle.std.specs.Prelude.{◌≡◌, ℕ, ◌+◌, ◌<◌, ◌≤◌, nat_lt, Bool, true, false, ◌==◌, ◌||◌, not, ltb, leb, List, [], ◌∷◌, map, length, All}
use Rattle.std.specs.Prelude.{position}
use Rattle.std.specs.List.{list_any, position_or_len}
use Rattle.std.specs.declared.option.Option.TheVariants.{None, Some}
use Rattle.std.proofs.Common.{refl, sym, ap, ap₂, ◌∙◌, arith, inl, inr, lit≤}
use Rattle.std.proofs.lemmas.Bool.{eqb-true, and_parts, or_parts, or_cases, not-true, leb-true, leb-false, ltb-true, ltb-false, lt-ltb}
use Rattle.std.proofs.lemmas.Bool.{le-ltb, and_cases}
use Rattle.std.proofs.lemmas.List.Elements.{All-head, All-tail, All-weaker}
use Rattle.shape_data.specs.declared.symbolic.Atom.{Atom}
use Rattle.shape_data.specs.declared.symbolic.Atom.TheVariants.{Points, Seg, Junk}
use Rattle.shape_data.specs.declared.symbolic.Exp.{Exp}
use Rattle.shape_data.specs.declared.symbolic.Exp.TheVariants.{Var, Const}
use Rattle.shape_data.specs.declared.symbolic.Fact.{Fact}
use Rattle.shape_data.specs.declared.symbolic.Fact.TheVariants.{Eq, Ne}
use Rattle.shape_data.specs.declared.symbolic.SymHeap.{SymHeap}
use Rattle.shape_data.specs.declared.symbolic.SymState.{SymState}
use Rattle.sym_parts.specs.Laws.Each.{EachInAtom, EachInFact, EachInHeap, EachInState}
use Rattle.sym_parts.specs.Laws.Fresh.{is_one_of}
use Rattle.sym_parts.specs.Laws.Mapped.{on_atom, on_fact, on_heap, on_state, renamed, IsRenaming}
use Rattle.sym_canon.specs.declared.parts.Variables.{Variables}
use Rattle.sym_canon.specs.declared.parts.Variables.TheVariants.{Existential, Further}
use Rattle.sym_canon.specs.Numbering.{is_numbered, number_at, numbered, with_number}
use Rattle.sym_canon.proofs.FrontLaws.{AreFrom, to_front, from_front, front-below, front-undone, front-over, front-place, front-fit}
use Rattle.sym_canon.proofs.SightLaws.{AreSeen, Known}

-- ---- two functions that agree on what occurs

module _ (P : Exp → Type 0) (f g : Exp → Exp) (agree : (e : Exp) → P e → f e ≡ g e) where
  exps-agree : (es : List Exp) → All P es → map f es ≡ map g es
  exps-agree [] each = refl
  exps-agree (e ∷ es) each = ap₂ (λ x xs. x ∷ xs) (agree e (All-head P e es each)) (exps-agree es (All-tail P e es each))

  atom-agrees : (atom : Atom) → EachInAtom P atom → on_atom f atom ≡ on_atom g atom
  atom-agrees (Points at kind fields) each = ap₂ (λ x xs. Points x kind xs) (agree at each.0) (exps-agree fields each.1)
  atom-agrees (Seg kind link from to) each = ap₂ (λ x y. Seg kind link x y) (agree from each.0) (agree to each.1)
  atom-agrees Junk each = refl

  fact-agrees : (fact : Fact) → EachInFact P fact → on_fact f fact ≡ on_fact g fact
  fact-agrees (Eq left right) each = ap₂ (λ x y. Eq x y) (agree left each.0) (agree right each.1)
  fact-agrees (Ne left right) each = ap₂ (λ x y. Ne x y) (agree left each.0) (agree right each.1)

  atoms-agree : (atoms : List Atom) → All (EachInAtom P) atoms → map (on_atom f) atoms ≡ map (on_atom g) atoms
  atoms-agree [] each = refl
  atoms-agree (atom ∷ atoms) each =
      ap₂ (λ x xs. x ∷ xs) (atom-agrees atom (All-head (EachInAtom P) atom atoms each))
      (atoms-agree atoms (All-tail (EachInAtom P) atom atoms each))

  facts-agree : (facts : List Fact) → All (EachInFact P) facts → map (on_fact f) facts ≡ map (on_fact g) facts
  facts-agree [] each = refl
  facts-agree (fact ∷ facts) each =
      ap₂ (λ x xs. x ∷ xs) (fact-agrees fact (All-head (EachInFact P) fact facts each))
      (facts-agree facts (All-tail (EachInFact P) fact facts each))

  pub heap-agrees : (heap : SymHeap) → EachInHeap P heap → on_heap f heap ≡ on_heap g heap
  heap-agrees heap each = let make : List Fact → List Atom
      → SymHeap =
      λ pure spatial. record { pure = pure; spatial = spatial } in ap₂ make (facts-agree heap.pure each.facts)
      (atoms-agree heap.spatial each.atoms)

  pub state-agrees : (state : SymState) → EachInState P state → on_state f state ≡ on_state g state
  state-agrees state each = let make : List Exp → SymHeap
      → SymState =
      λ locals heap. record { locals = locals; heap = heap } in ap₂ make (exps-agree state.locals each.locals)
      (heap-agrees state.heap each.heap)

-- ---- the first number, and what is seen

abbrev pub first_of : Variables → ℕ
first_of Existential = 65536
first_of (Further params) = params

numbered-low : (which : Variables) (x : ℕ) → is_numbered which x ≡ true → first_of which ≤ x
numbered-low Existential x h = leb-true 65536 x h
numbered-low (Further params) x h = leb-true params x (and_parts (leb params x) (ltb x 65536) h).0

pub seen-from : (which : Variables) (seen : List ℕ) → AreSeen which seen → AreFrom (first_of which) seen
seen-from which seen are = All-weaker (λ x. is_numbered which x ≡ true) (λ x. first_of which ≤ x) (numbered-low which) seen are.kind

pub further-under : (params : ℕ) (seen : List ℕ) → AreSeen (Further params) seen → All (λ x. x < 65536) seen
further-under params seen are =
    All-weaker (λ x. is_numbered (Further params) x ≡ true) (λ x. x < 65536)
    (λ x h. ltb-true x 65536 (and_parts (leb params x) (ltb x 65536) h).1) seen are.kind

-- a variable that is in the list is of the kind
one-kind : (which : Variables) (seen : List ℕ) (x : ℕ) → All (λ y. is_numbered which y ≡ true) seen → is_one_of seen x ≡ true
    → is_numbered which x ≡ true
one-kind which [] x each h = cc
one-kind which (y ∷ seen) x each h = elim (or_cases (x == y) (is_one_of seen x) h) [
  | inl same ↦ rw (eqb-true x y same) (All-head (λ z. is_numbered which z ≡ true) y seen each)
  | inr later ↦ one-kind which seen x (All-tail (λ z. is_numbered which z ≡ true) y seen each) later
]

-- the place of what is in the list, and of what is not
place-inside : (test : ℕ → Bool) (seen : List ℕ) → list_any test seen ≡ true → position_or_len test seen < length seen
place-inside test [] h = cc
place-inside test (y ∷ seen) h = by_test (test y) refl (place-inside test seen) h
  where
    by_test : (b : Bool) → test y ≡ b → (list_any test seen ≡ true → position_or_len test seen < length seen)
        → list_any test (y ∷ seen) ≡ true → position_or_len test (y ∷ seen) < length (y ∷ seen)
    by_test true e go_on k = rw e (omega arith)
    by_test false e go_on k =
        let told : list_any test seen ≡ true = rw e at k in
        let inner : position_or_len test seen < length seen = go_on told in
        rw e (omega arith)

place-outside : (test : ℕ → Bool) (seen : List ℕ) → list_any test seen ≡ false → length seen ≤ position_or_len test seen
place-outside test [] h = omega arith
place-outside test (y ∷ seen) h =
    let parts = or_parts (test y) (list_any test seen) h in
    let inner : length seen ≤ position_or_len test seen = place-outside test seen parts.1 in
    rw parts.0 (omega arith)

position-inside : (test : ℕ → Bool) (seen : List ℕ) → list_any test seen ≡ true → position test seen ≡ Some (position_or_len test seen)
position-inside test seen h = let inside : nat_lt (position_or_len test seen) (length seen)
    ≡ true = lt-ltb (position_or_len test seen) (length seen) (place-inside test seen h) in rw inside refl

position-outside : (test : ℕ → Bool) (seen : List ℕ) → list_any test seen ≡ false → position test seen ≡ None
position-outside test seen h = let outside : nat_lt (position_or_len test seen) (length seen)
    ≡ false = le-ltb (position_or_len test seen) (length seen) (place-outside test seen h) in rw outside refl

module _ (which : Variables) (seen : List ℕ) (are : AreSeen which seen) where
  numbered-seen : (x : ℕ) → is_one_of seen x ≡ true → numbered (first_of which) seen x ≡ to_front (first_of which) seen x
  numbered-seen x h =
      ap (number_at (first_of which) x) (position-inside (λ y. x == y) seen h)
      ∙ sym (front-place (first_of which) seen (seen-from which seen are) are.different x (position_or_len (λ y. x == y) seen) refl
      (place-inside (λ y. x == y) seen h))

  numbered-unseen : (x : ℕ) → is_one_of seen x ≡ false → numbered (first_of which) seen x ≡ x
  numbered-unseen x h = ap (number_at (first_of which) x) (position-outside (λ y. x == y) seen h)

-- a variable of another kind stays as it is
other-stays : (which : Variables) (seen : List ℕ) → AreSeen which seen → (x : ℕ) → is_numbered which x ≡ false
    → to_front (first_of which) seen x ≡ x
other-stays Existential seen are x h = front-below 65536 seen (seen-from Existential seen are) x (leb-false 65536 x h)
other-stays (Further params) seen are x h = elim (and_cases (leb params x) (ltb x 65536) h) [
  | inl below ↦ front-below params seen (seen-from (Further params) seen are) x (leb-false params x below)
  | inr above ↦ front-over params 65536 seen (seen-from (Further params) seen are) (further-under params seen are) x
      (ltb-false x 65536 above)
]

module _ (which : Variables) (seen : List ℕ) (are : AreSeen which seen) where
  -- on what is known the numbering is the exchange
  pub number-agrees : (e : Exp) → Known which seen e → with_number (first_of which) seen e ≡ renamed (to_front (first_of which) seen) e
  number-agrees (Const n) h = refl
  number-agrees (Var x) h = ap (λ y. Var y) (by_seen (is_one_of seen x) refl)
    where
      by_seen : (b : Bool) → is_one_of seen x ≡ b → numbered (first_of which) seen x ≡ to_front (first_of which) seen x
      by_seen true e = numbered-seen which seen are x e
      by_seen false e =
          let told : (not (is_numbered which x) || false) ≡ true = rw e at h in
          let other : is_numbered which x ≡ false =
          elim (or_cases (not (is_numbered which x)) false told) [ inl k ↦ not-true (is_numbered which x) k | inr k ↦ cc ] in
          numbered-unseen which seen are x e ∙ sym (other-stays which seen are x other)

  pub state-numbered : (state : SymState) → EachInState (Known which seen) state
      → on_state (with_number (first_of which) seen) state ≡ on_state (renamed (to_front (first_of which) seen)) state
  state-numbered state each =
      state-agrees (Known which seen) (with_number (first_of which) seen)
      (renamed (to_front (first_of which) seen)) number-agrees state each

  pub heap-numbered : (heap : SymHeap) → EachInHeap (Known which seen) heap
      → on_heap (with_number (first_of which) seen) heap ≡ on_heap (renamed (to_front (first_of which) seen)) heap
  heap-numbered heap each =
      heap-agrees (Known which seen) (with_number (first_of which) seen) (renamed (to_front (first_of which) seen)) number-agrees heap each

-- the existential variables are exchanged among themselves
pub front-renaming : (seen : List ℕ) → AreSeen Existential seen → IsRenaming (to_front 65536 seen) (from_front 65536 seen)
front-renaming seen are = record {
  undone = front-undone 65536 seen (seen-from Existential seen are);
  keeps = λ x low. front-below 65536 seen (seen-from Existential seen are) x low;
}

-- so many numbers fit
pub numbers-fit : (seen : List ℕ) → AreSeen Existential seen → All (λ y. y < 4294967296) seen → 65536 + length seen ≤ 4294967296
numbers-fit seen are under = front-fit 65536 4294967296 (lit≤ tt) seen (seen-from Existential seen are) under are.different

pub further-fit : (params : ℕ) → params ≤ 65536 → (seen : List ℕ) → AreSeen (Further params) seen → params + length seen ≤ 65536
further-fit params few seen are =
    front-fit params 65536 few seen (seen-from (Further params) seen are) (further-under params seen are) are.different
