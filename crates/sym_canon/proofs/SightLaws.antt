-- What comes into sight: different variables of the kind that is numbered, and all of them.
use Rattle.std.specs.Prelude.{◌≡◌, ℕ, Bool, true, false, ◌==◌, ◌&&◌, ◌||◌, not, List, [], ◌∷◌, ◌++◌, All}
use Rattle.std.proofs.Common.{refl, sym}
use Rattle.std.proofs.lemmas.Bool.{eqb-false, eq-eqb, ne_eqb, and_parts, and_from, or_parts, or_right, not-true, not_from_false}
use Rattle.std.proofs.lemmas.List.Elements.{All-nil, All-cons, All-head, All-tail, All-append, All-weaker}
use Rattle.std.proofs.lemmas.List.Folds.{list_any-append}
use Rattle.shape_data.specs.declared.symbolic.Atom.{Atom}
use Rattle.shape_data.specs.declared.symbolic.Atom.TheVariants.{Points, Seg, Junk}
use Rattle.shape_data.specs.declared.symbolic.Exp.{Exp}
use Rattle.shape_data.specs.declared.symbolic.Exp.TheVariants.{Var, Const}
use Rattle.shape_data.specs.declared.symbolic.Fact.{Fact}
use Rattle.shape_data.specs.declared.symbolic.Fact.TheVariants.{Eq, Ne}
use Rattle.shape_data.specs.declared.symbolic.SymState.{SymState}
use Rattle.sym_parts.specs.Laws.Each.{EachInAtom, EachInFact, EachInState}
use Rattle.sym_parts.specs.Laws.Fresh.{is_one_of, are_different}
use Rattle.sym_canon.specs.declared.parts.Variables.{Variables}
use Rattle.sym_canon.specs.Canonical.{sight_state}
use Rattle.sym_canon.specs.Numbering.{is_numbered, with_sight, sight, sight_atoms, sides, sight_facts}
use Rattle.sym_canon.specs.Placing.{exps_of}

-- what each step keeps is kept by all
module _ (which : Variables) (K : List ℕ → Type 0) (step : (seen : List ℕ) (e : Exp) → K seen → K (with_sight which seen e)) where
  pub sight-keeps : (es : List Exp) (seen : List ℕ) → K seen → K (sight which es seen)
  sight-keeps [] seen h = h
  sight-keeps (e ∷ es) seen h = sight-keeps es (with_sight which seen e) (step seen e h)

  pub atoms-keep : (atoms : List Atom) (seen : List ℕ) → K seen → K (sight_atoms which atoms seen)
  atoms-keep [] seen h = h
  atoms-keep (atom ∷ atoms) seen h = atoms-keep atoms (sight which (exps_of atom) seen) (sight-keeps (exps_of atom) seen h)

  pub facts-keep : (facts : List Fact) (seen : List ℕ) → K seen → K (sight_facts which facts seen)
  facts-keep [] seen h = h
  facts-keep (fact ∷ facts) seen h = facts-keep facts (sight which (sides fact) seen) (sight-keeps (sides fact) seen h)

  pub state-keeps : (state : SymState) (seen : List ℕ) → K seen → K (sight_state which state seen)
  state-keeps state seen h =
      facts-keep state.heap.pure (sight_atoms which state.heap.spatial (sight which state.locals seen))
      (atoms-keep state.heap.spatial (sight which state.locals seen) (sight-keeps state.locals seen h))

-- ---- different variables of the kind

-- one more, which is new, is different from all
different-push : (seen : List ℕ) (x : ℕ) → are_different seen ≡ true → is_one_of seen x ≡ false → are_different (seen ++ x ∷ []) ≡ true
different-push [] x different new = refl
different-push (y ∷ seen) x different new =
    let parts = or_parts (x == y) (is_one_of seen x) new in
    let apart = and_parts (not (is_one_of seen y)) (are_different seen) different in
    let turned : (y == x) ≡ false = ne_eqb y x (λ same. eqb-false x y parts.0 (sym same)) in
    let none : is_one_of (seen ++ x ∷ []) y ≡ false =
    rw (list_any-append (λ name. y == name) seen (x ∷ []), not-true (is_one_of seen y) apart.0, turned) refl in
    and_from (not (is_one_of (seen ++ x ∷ []) y)) (are_different (seen ++ x ∷ [])) (not_from_false (is_one_of (seen ++ x ∷ []) y) none)
    (different-push seen x apart.1 parts.1)

-- different variables of the kind
pub record AreSeen (which : Variables) (seen : List ℕ) : Type 0 where
  pub different : are_different seen ≡ true
  pub kind : All (λ x. is_numbered which x ≡ true) seen

pub none-seen : (which : Variables) → AreSeen which []
none-seen which = record { different = refl; kind = All-nil (λ x. is_numbered which x ≡ true) }

pub seen-step : (which : Variables) (seen : List ℕ) (e : Exp) → AreSeen which seen → AreSeen which (with_sight which seen e)
seen-step which seen (Const n) h = h
seen-step which seen (Var x) h = by_kind (is_numbered which x) refl
  where
    by_seen : (b : Bool) → is_one_of seen x ≡ b → is_numbered which x ≡ true → AreSeen which (with_sight which seen (Var x))
    by_seen true e is = rw (is, e) h
    by_seen false e is = rw (is, e) (record {
      different = different-push seen x h.different e;
      kind =
          All-append (λ y. is_numbered which y ≡ true) seen (x ∷ []) h.kind
          (All-cons (λ y. is_numbered which y ≡ true) x [] is (All-nil (λ y. is_numbered which y ≡ true)));
    })

    by_kind : (b : Bool) → is_numbered which x ≡ b → AreSeen which (with_sight which seen (Var x))
    by_kind true e = by_seen (is_one_of seen x) refl e
    by_kind false e = rw e h

pub state-seen : (which : Variables) (state : SymState) (seen : List ℕ) → AreSeen which seen → AreSeen which (sight_state which state seen)
state-seen which state seen h = state-keeps which (AreSeen which) (seen-step which) state seen h

-- ---- all of them

-- the expression's variable is in the list, if it is of the kind
abbrev pub is_known : Variables → List ℕ → Exp → Bool
is_known which seen (Var x) = not (is_numbered which x) || is_one_of seen x
is_known which seen (Const n) = true

-- an expression is known
abbrev pub Known : Variables → List ℕ → Exp → Type 0
Known which seen e = is_known which seen e ≡ true

known-step : (which : Variables) (seen : List ℕ) (e f : Exp) → Known which seen f → Known which (with_sight which seen e) f
known-step which seen e (Const n) h = refl
known-step which seen (Const n) (Var x) h = h
known-step which seen (Var y) (Var x) h = by_test (is_numbered which y && not (is_one_of seen y)) refl
  where
    more : is_one_of seen x ≡ true → is_one_of (seen ++ y ∷ []) x ≡ true
    more k = rw (list_any-append (λ name. x == name) seen (y ∷ []), k) refl

    by_kind : (b : Bool) → is_numbered which x ≡ b → (not (is_numbered which x) || is_one_of (seen ++ y ∷ []) x) ≡ true
    by_kind true e = let told : is_one_of seen x
        ≡ true = rw e at h in or_right (not (is_numbered which x)) (is_one_of (seen ++ y ∷ []) x) (more told)
    by_kind false e = rw e refl

    by_test : (b : Bool) → (is_numbered which y && not (is_one_of seen y)) ≡ b → Known which (with_sight which seen (Var y)) (Var x)
    by_test true e = rw e (by_kind (is_numbered which x) refl)
    by_test false e = rw e h

known-here : (which : Variables) (seen : List ℕ) (e : Exp) → Known which (with_sight which seen e) e
known-here which seen (Const n) = refl
known-here which seen (Var x) = by_kind (is_numbered which x) refl
  where
    last : is_one_of (seen ++ x ∷ []) x ≡ true
    last = rw (list_any-append (λ name. x == name) seen (x ∷ []), eq-eqb x x refl) (or_right (is_one_of seen x) true refl)

    by_seen : (b : Bool) → is_one_of seen x ≡ b → is_numbered which x ≡ true → Known which (with_sight which seen (Var x)) (Var x)
    by_seen true e is = rw (is, e) e
    by_seen false e is = rw (is, e) last

    by_kind : (b : Bool) → is_numbered which x ≡ b → Known which (with_sight which seen (Var x)) (Var x)
    by_kind true e = by_seen (is_one_of seen x) refl e
    by_kind false e = rw e refl

module _ (which : Variables) where
  sight-known : (es : List Exp) (seen : List ℕ) → All (Known which (sight which es seen)) es
  sight-known [] seen = All-nil (Known which seen)
  sight-known (e ∷ es) seen =
      All-cons (Known which (sight which es (with_sight which seen e))) e es
      (sight-keeps which (λ later. Known which later e) (λ later f h. known-step which later f e h) es (with_sight which seen e)
      (known-here which seen e)) (sight-known es (with_sight which seen e))

  -- what is known stays known
  atom-stays : (seen later : List ℕ) (stays : (e : Exp) → Known which seen e → Known which later e) (atom : Atom)
      → EachInAtom (Known which seen) atom → EachInAtom (Known which later) atom
  atom-stays seen later stays (Points at kind fields) h = (stays at h.0, All-weaker (Known which seen) (Known which later) stays fields h.1)
  atom-stays seen later stays (Seg kind link from to) h = (stays from h.0, stays to h.1)
  atom-stays seen later stays Junk h = tt

  fact-stays : (seen later : List ℕ) (stays : (e : Exp) → Known which seen e → Known which later e) (fact : Fact)
      → EachInFact (Known which seen) fact → EachInFact (Known which later) fact
  fact-stays seen later stays (Eq left right) h = (stays left h.0, stays right h.1)
  fact-stays seen later stays (Ne left right) h = (stays left h.0, stays right h.1)

  pub state-stays : (seen later : List ℕ) → ((e : Exp) → Known which seen e → Known which later e) → (state : SymState)
      → EachInState (Known which seen) state → EachInState (Known which later) state
  state-stays seen later stays state h = record {
    locals = All-weaker (Known which seen) (Known which later) stays state.locals h.locals;
    heap = record {
      facts =
          All-weaker (EachInFact (Known which seen)) (EachInFact (Known which later))
          (fact-stays seen later stays) state.heap.pure h.heap.facts;
      atoms =
          All-weaker (EachInAtom (Known which seen)) (EachInAtom (Known which later))
          (atom-stays seen later stays) state.heap.spatial h.heap.atoms;
    };
  }

  -- a step more loses nothing
  kept : (e : Exp) (seen : List ℕ) (f : Exp) → Known which seen e → Known which (with_sight which seen f) e
  kept e seen f h = known-step which seen f e h

  pub kept-state : (state : SymState) (seen : List ℕ) (e : Exp) → Known which seen e → Known which (sight_state which state seen) e
  kept-state state seen e h = state-keeps which (λ later. Known which later e) (λ later f k. kept e later f k) state seen h

  kept-atoms : (atoms : List Atom) (seen : List ℕ) (e : Exp) → Known which seen e → Known which (sight_atoms which atoms seen) e
  kept-atoms atoms seen e h = atoms-keep which (λ later. Known which later e) (λ later f k. kept e later f k) atoms seen h

  kept-facts : (facts : List Fact) (seen : List ℕ) (e : Exp) → Known which seen e → Known which (sight_facts which facts seen) e
  kept-facts facts seen e h = facts-keep which (λ later. Known which later e) (λ later f k. kept e later f k) facts seen h

  atom-known : (atom : Atom) (seen : List ℕ) → EachInAtom (Known which (sight which (exps_of atom) seen)) atom
  atom-known (Points at kind fields) seen =
      let all : All (Known which (sight which (at ∷ fields) seen)) (at ∷ fields) = sight-known (at ∷ fields) seen in (
        All-head (Known which (sight which (at ∷ fields) seen)) at fields all,
        All-tail
            (Known which (sight which (at ∷ fields) seen)) at fields all,
      )
  atom-known (Seg kind link from to) seen =
      let all : All (Known which (sight which (from ∷ to ∷ []) seen)) (from ∷ to ∷ []) = sight-known (from ∷ to ∷ []) seen in
      let rest = All-tail (Known which (sight which (from ∷ to ∷ []) seen)) from (to ∷ []) all in (
        All-head (Known which (sight which (from ∷ to ∷ []) seen)) from (to ∷ []) all,
        All-head
            (Known which (sight which (from ∷ to ∷ []) seen)) to [] rest,
      )
  atom-known Junk seen = tt

  fact-known : (fact : Fact) (seen : List ℕ) → EachInFact (Known which (sight which (sides fact) seen)) fact
  fact-known (Eq left right) seen =
      let all : All (Known which (sight which (left ∷ right ∷ []) seen)) (left ∷ right ∷ []) = sight-known (left ∷ right ∷ []) seen in
      let rest = All-tail (Known which (sight which (left ∷ right ∷ []) seen)) left (right ∷ []) all in (
        All-head (Known which (sight which (left ∷ right ∷ []) seen)) left (right ∷ []) all,
        All-head
            (Known which (sight which (left ∷ right ∷ []) seen)) right [] rest,
      )
  fact-known (Ne left right) seen =
      let all : All (Known which (sight which (left ∷ right ∷ []) seen)) (left ∷ right ∷ []) = sight-known (left ∷ right ∷ []) seen in
      let rest = All-tail (Known which (sight which (left ∷ right ∷ []) seen)) left (right ∷ []) all in (
        All-head (Known which (sight which (left ∷ right ∷ []) seen)) left (right ∷ []) all,
        All-head
            (Known which (sight which (left ∷ right ∷ []) seen)) right [] rest,
      )

  atoms-known : (atoms : List Atom) (seen : List ℕ) → All (EachInAtom (Known which (sight_atoms which atoms seen))) atoms
  atoms-known [] seen = All-nil (EachInAtom (Known which seen))
  atoms-known (atom ∷ atoms) seen =
      let now : List ℕ = sight which (exps_of atom) seen in
      All-cons (EachInAtom (Known which (sight_atoms which atoms now))) atom atoms
      (atom-stays now (sight_atoms which atoms now) (kept-atoms atoms now) atom (atom-known atom seen)) (atoms-known atoms now)

  facts-known : (facts : List Fact) (seen : List ℕ) → All (EachInFact (Known which (sight_facts which facts seen))) facts
  facts-known [] seen = All-nil (EachInFact (Known which seen))
  facts-known (fact ∷ facts) seen =
      let now : List ℕ = sight which (sides fact) seen in
      All-cons (EachInFact (Known which (sight_facts which facts now))) fact facts
      (fact-stays now (sight_facts which facts now) (kept-facts facts now) fact (fact-known fact seen)) (facts-known facts now)

  -- each variable of the kind that is in a state is in the list of its variables
  pub state-known : (state : SymState) (seen : List ℕ) → EachInState (Known which (sight_state which state seen)) state
  state-known state seen = record {
    locals =
        All-weaker (Known which first) (Known which last)
        (λ e h. kept-facts state.heap.pure second e (kept-atoms state.heap.spatial first e h)) state.locals (sight-known state.locals seen);
    heap = record {
      facts = facts-known state.heap.pure second;
      atoms =
          All-weaker (EachInAtom (Known which second)) (EachInAtom (Known which last))
          (atom-stays second last (kept-facts state.heap.pure second)) state.heap.spatial (atoms-known state.heap.spatial first);
    };
  }
    where
      first : List ℕ
      first = sight which state.locals seen

      second : List ℕ
      second = sight_atoms which state.heap.spatial first

      last : List ℕ
      last = sight_state which state seen
