-- The parts of a pair's normal form are normal, and the missing heap stays so in canonical form.
use Rattle.std.specs.Prelude.{◌≡◌, ℕ, suc, ◌<◌, ◌≤◌, pos, Bool, true, false, not, ◌==◌, ◌&&◌, ◌||◌, if◌then◌else◌, ltb, leb, List, [], ◌∷◌}
use Rattle.std.specs.Prelude.{filter, map}
use Rattle.std.specs.List.{cons_option, list_all, list_any}
use Rattle.std.specs.declared.option.Option.TheVariants.{None, Some}
use Rattle.std.proofs.Common.{refl, sym, ap, ap₂, subst, ◌∙◌, arith}
use Rattle.std.proofs.lemmas.Bool.{and_from, and_parts, le-leb, leb-false, leb-true, not-true, not_from_false, or_parts}
use Rattle.shape_data.specs.declared.symbolic.Atom.{Atom}
use Rattle.shape_data.specs.declared.symbolic.Atom.TheVariants.{Points, Seg, Junk}
use Rattle.shape_data.specs.declared.symbolic.Exp.{Exp}
use Rattle.shape_data.specs.declared.symbolic.Exp.TheVariants.{Var, Const}
use Rattle.shape_data.specs.declared.symbolic.Fact.{Fact}
use Rattle.shape_data.specs.declared.symbolic.Fact.TheVariants.{Eq, Ne}
use Rattle.shape_data.specs.declared.symbolic.SymHeap.{SymHeap}
use Rattle.shape_data.specs.declared.symbolic.SymState.{SymState}
use Rattle.sym_parts.specs.Laws.Addresses.{addresses}
use Rattle.sym_parts.specs.Laws.Each.{EachInState}
use Rattle.sym_parts.specs.Laws.Expressions.{has_double, is_among, same_exp}
use Rattle.sym_parts.specs.Laws.Mapped.{on_fact, on_state, renamed}
use Rattle.sym_pure.specs.declared.parts.Normal.{Normal}
use Rattle.sym_pure.specs.declared.parts.Normal.TheVariants.{Is, Contradiction}
use Rattle.sym_pure.specs.Contradictions.{has_clash, has_same_sides}
use Rattle.sym_pure.specs.Emptying.{is_empty, is_plain}
use Rattle.sym_pure.specs.Equations.{read_through}
use Rattle.sym_pure.specs.IsNormal.{are_in_order, are_normal_atoms, are_normal_facts, has_redundant, has_two_junk, is_below, is_disequality}
use Rattle.sym_pure.specs.IsNormal.{is_normal, is_normal_heap, is_read, is_read_atom, is_read_fact, is_solved_in}
use Rattle.sym_pure.specs.Normal.{normal}
use Rattle.sym_pure.specs.Redundancy.{are_constants}
use Rattle.sym_pure.specs.Sources.{are_unequal_constants, is_written, source_of, sources}
use Rattle.sym_pure.proofs.FormLaws.{form_is_normal}
use Rattle.sym_canon.specs.declared.parts.Pair.{Pair}
use Rattle.sym_canon.specs.declared.parts.Variables.TheVariants.{Existential, Further}
use Rattle.sym_canon.specs.Canonical.{arranged, sight_pair, sight_state, with_atoms_placed, without_locals}
use Rattle.sym_canon.specs.Numbering.{with_number}
use Rattle.sym_canon.proofs.FrontLaws.{AreFrom, from_front, front-below, front-undone, to_front}
use Rattle.sym_canon.proofs.NumberLaws.{front-renaming, seen-from, state-numbered}
use Rattle.sym_canon.proofs.SightLaws.{AreSeen, Known, kept-state, none-seen, state-known, state-seen, state-stays}
use Rattle.sym_forms.specs.Forms.{of_form, of_form_some}
use Rattle.sym_forms.specs.Laws.{CanonPairKeepsMissingNormal, PairFormIsNormal}
use Rattle.sym_forms.specs.PairForms.{is_further_equation, is_no_param, pair_form, pair_of, with_missing, without_facts}
use Rattle.sym_forms.proofs.FormNormalLaws.{arranged-normal}
use Rattle.sym_forms.proofs.RenamedLaws.{AreOfLow, renamed-normal}
use Rattle.sym_forms.proofs.SortedLaws.{sorted-normal}

-- ---- a normal heap without some equations is normal

module _ (params : ℕ) where
  -- the facts that stay
  abbrev stay : List Fact → List Fact
  stay facts = filter (λ fact. not (is_further_equation params fact)) facts

  stay-eq : (left right : Exp) (facts : List Fact) (P : List Fact → Type 0) → P (stay facts) → P (Eq left right ∷ stay facts)
      → P (stay (Eq left right ∷ facts))
  stay-eq left right facts P without with = by_test (is_no_param params left) refl
    where
      by_test : (b : Bool) → is_no_param params left ≡ b → P (stay (Eq left right ∷ facts))
      by_test true e = rw e without
      by_test false e = rw e with

  stay-written : (facts : List Fact) (e f : Exp) → is_written (stay facts) e f ≡ is_written facts e f
  stay-written [] e f = refl
  stay-written (Eq left right ∷ facts) e f =
      stay-eq left right facts (λ some. is_written some e f ≡ is_written facts e f) (stay-written facts e f) (stay-written facts e f)
  stay-written (Ne left right ∷ facts) e f =
      ap (λ b. (same_exp left e && same_exp right f) || ((same_exp left f && same_exp right e) || b)) (stay-written facts e f)

  stay-sides : (facts : List Fact) → has_same_sides (stay facts) ≡ has_same_sides facts
  stay-sides [] = refl
  stay-sides (Eq left right ∷ facts) =
      stay-eq left right facts (λ some. has_same_sides some ≡ has_same_sides facts) (stay-sides facts) (stay-sides facts)
  stay-sides (Ne left right ∷ facts) = ap (λ b. same_exp left right || b) (stay-sides facts)

  stay-source : (facts : List Fact) (atom : Atom) → source_of (stay facts) atom ≡ source_of facts atom
  stay-source facts (Points at kind fields) = refl
  stay-source facts (Seg kind link from to) =
      ap (λ (b : Bool). if are_unequal_constants from to || b then Some from else None) (stay-written facts from to)
  stay-source facts Junk = refl

  stay-sources : (facts : List Fact) (atoms : List Atom) → sources (stay facts) atoms ≡ sources facts atoms
  stay-sources facts [] = refl
  stay-sources facts (atom ∷ atoms) = ap₂ (λ o es. cons_option o es) (stay-source facts atom) (stay-sources facts atoms)

  stay-clash : (facts : List Fact) (atoms : List Atom) → has_clash (stay facts) atoms ≡ has_clash facts atoms
  stay-clash facts atoms = ap₂ (λ b es. b || (is_among (Const (pos 0)) es || has_double es)) (stay-sides facts) (stay-sources facts atoms)

  stay-redundant : (cells : List Exp) (facts : List Fact) → has_redundant cells (stay facts) ≡ has_redundant cells facts
  stay-redundant cells [] = refl
  stay-redundant cells (Eq left right ∷ facts) =
      stay-eq left right facts (λ some. has_redundant cells some ≡ has_redundant cells facts) (stay-redundant cells facts)
      (stay-redundant cells facts)
  stay-redundant cells (Ne left right ∷ facts) =
      ap₂ (λ b d. b || d)
      (ap (λ b. are_constants left right || ((is_plain cells left && is_plain cells right) || b)) (stay-written facts left right))
      (stay-redundant cells facts)

  stay-solved : (facts : List Fact) (x : ℕ) → is_solved_in facts x ≡ false → is_solved_in (stay facts) x ≡ false
  stay-solved [] x h = refl
  stay-solved (Eq (Var y) right ∷ facts) x h =
      let parts = or_parts (x == y) (is_solved_in facts x) h in
      stay-eq (Var y) right facts (λ some. is_solved_in some x ≡ false) (stay-solved facts x parts.1)
      (rw parts.0 (stay-solved facts x parts.1))
  stay-solved (Eq (Const n) right ∷ facts) x h =
      stay-eq (Const n) right facts (λ some. is_solved_in some x ≡ false) (stay-solved facts x h) (stay-solved facts x h)
  stay-solved (Ne left right ∷ facts) x h = stay-solved facts x h

  module _ (facts : List Fact) where
    stay-read : (e : Exp) → is_read facts e ≡ true → is_read (stay facts) e ≡ true
    stay-read (Var x) h = not_from_false (is_solved_in (stay facts) x) (stay-solved facts x (not-true (is_solved_in facts x) h))
    stay-read (Const n) h = refl

    stay-reads : (es : List Exp) → list_all (is_read facts) es ≡ true → list_all (is_read (stay facts)) es ≡ true
    stay-reads [] h = refl
    stay-reads (e ∷ es) h =
        let parts =
        and_parts (is_read facts e) (list_all (is_read facts) es) h in and_from (is_read (stay facts) e)
        (list_all (is_read (stay facts)) es) (stay-read e parts.0) (stay-reads es parts.1)

    stay-read_fact : (fact : Fact) → is_read_fact facts fact ≡ true → is_read_fact (stay facts) fact ≡ true
    stay-read_fact (Eq left right) h = stay-read right h
    stay-read_fact (Ne left right) h =
        let parts =
        and_parts (is_read facts left) (is_read facts right) h in and_from (is_read (stay facts) left) (is_read (stay facts) right)
        (stay-read left parts.0) (stay-read right parts.1)

    stay-read_facts : (some : List Fact) → list_all (is_read_fact facts) some ≡ true
        → list_all (is_read_fact (stay facts)) (stay some) ≡ true
    stay-read_facts [] h = refl
    stay-read_facts (Eq left right ∷ some) h =
        let parts = and_parts (is_read_fact facts (Eq left right)) (list_all (is_read_fact facts) some) h in
        stay-eq left right some (λ fs. list_all (is_read_fact (stay facts)) fs ≡ true) (stay-read_facts some parts.1)
        (and_from (is_read_fact (stay facts) (Eq left right)) (list_all (is_read_fact (stay facts)) (stay some))
        (stay-read_fact (Eq left right) parts.0) (stay-read_facts some parts.1))
    stay-read_facts (Ne left right ∷ some) h =
        let parts = and_parts (is_read_fact facts (Ne left right)) (list_all (is_read_fact facts) some) h in
        and_from (is_read_fact (stay facts) (Ne left right)) (list_all (is_read_fact (stay facts)) (stay some))
        (stay-read_fact (Ne left right) parts.0) (stay-read_facts some parts.1)

    stay-read_atom : (atom : Atom) → is_read_atom facts atom ≡ true → is_read_atom (stay facts) atom ≡ true
    stay-read_atom (Points at kind fields) h =
        let parts =
        and_parts (is_read facts at) (list_all (is_read facts) fields) h in and_from (is_read (stay facts) at)
        (list_all (is_read (stay facts)) fields) (stay-read at parts.0) (stay-reads fields parts.1)
    stay-read_atom (Seg kind link from to) h =
        let parts =
        and_parts (is_read facts from) (is_read facts to) h in and_from (is_read (stay facts) from) (is_read (stay facts) to)
        (stay-read from parts.0) (stay-read to parts.1)
    stay-read_atom Junk h = refl

    stay-read_atoms : (atoms : List Atom) → list_all (is_read_atom facts) atoms ≡ true → list_all (is_read_atom (stay facts)) atoms ≡ true
    stay-read_atoms [] h = refl
    stay-read_atoms (atom ∷ atoms) h =
        let parts = and_parts (is_read_atom facts atom) (list_all (is_read_atom facts) atoms) h in
        and_from (is_read_atom (stay facts) atom) (list_all (is_read_atom (stay facts)) atoms) (stay-read_atom atom parts.0)
        (stay-read_atoms atoms parts.1)

  -- the order
  order-wider : (facts : List Fact) (low high : ℕ) → low ≤ high → are_in_order high facts ≡ true → are_in_order low facts ≡ true
  order-wider [] low high under h = refl
  order-wider (Eq (Var x) right ∷ facts) low high under h =
      let outer = and_parts (leb high x && ltb x 65536 && is_below x right) (are_in_order (suc x) facts) h in
      let inner = and_parts (leb high x && ltb x 65536) (is_below x right) outer.0 in
      let bounds = and_parts (leb high x) (ltb x 65536) inner.0 in
      let above : high ≤ x = leb-true high x bounds.0 in
      and_from (leb low x && ltb x 65536 && is_below x right) (are_in_order (suc x) facts)
      (and_from (leb low x && ltb x 65536) (is_below x right)
      (and_from (leb low x) (ltb x 65536) (le-leb low x (omega (arith, above, under))) bounds.1) inner.1) outer.1
  order-wider (Eq (Const n) right ∷ facts) low high under h = cc
  order-wider (Ne left right ∷ facts) low high under h = h

  stay-diseqs : (facts : List Fact) → list_all is_disequality facts ≡ true → list_all is_disequality (stay facts) ≡ true
  stay-diseqs [] h = refl
  stay-diseqs (Eq left right ∷ facts) h = cc
  stay-diseqs (Ne left right ∷ facts) h = stay-diseqs facts h

  stay-order : (facts : List Fact) (low : ℕ) → are_in_order low facts ≡ true → are_in_order low (stay facts) ≡ true
  stay-order [] low h = refl
  stay-order (Eq (Var x) right ∷ facts) low h =
      let outer = and_parts (leb low x && ltb x 65536 && is_below x right) (are_in_order (suc x) facts) h in
      let inner = and_parts (leb low x && ltb x 65536) (is_below x right) outer.0 in
      let bounds = and_parts (leb low x) (ltb x 65536) inner.0 in
      let above : low ≤ x = leb-true low x bounds.0 in
      let rest : are_in_order (suc x) (stay facts) ≡ true = stay-order facts (suc x) outer.1 in
      stay-eq (Var x) right facts (λ some. are_in_order low some ≡ true) (order-wider (stay facts) low (suc x) (omega (arith, above)) rest)
      (and_from (leb low x && ltb x 65536 && is_below x right) (are_in_order (suc x) (stay facts)) outer.0 rest)
  stay-order (Eq (Const n) right ∷ facts) low h = cc
  stay-order (Ne left right ∷ facts) low h = stay-diseqs facts h

  -- those that stay are of parameters
  stay-low : (facts : List Fact) → AreOfLow params (stay facts)
  stay-low [] = tt
  stay-low (Eq (Var x) right ∷ facts) = by_test (leb params x) refl (stay-low facts)
    where
      by_test : (b : Bool) → leb params x ≡ b → AreOfLow params (stay facts) → AreOfLow params (stay (Eq (Var x) right ∷ facts))
      by_test true e k = rw e k
      by_test false e k = let low : x < params = leb-false params x e in rw e (low, k)
  stay-low (Eq (Const n) right ∷ facts) = stay-low facts
  stay-low (Ne left right ∷ facts) = stay-low facts

  pub stay-normal : (heap : SymHeap) → is_normal (without_locals heap) ≡ true
      → is_normal (without_locals (without_facts (is_further_equation params) heap)) ≡ true
  stay-normal heap h =
      let parts = and_parts (is_normal_heap heap) true h in
      let both = and_parts (are_normal_facts heap && are_normal_atoms heap) (not (has_clash heap.pure heap.spatial)) parts.0 in
      let two = and_parts (are_normal_facts heap) (are_normal_atoms heap) both.0 in
      let facts =
      and_parts (are_in_order 0 heap.pure && list_all (is_read_fact heap.pure) heap.pure)
      (not (has_redundant (addresses heap.spatial) heap.pure)) two.0 in
      let inner = and_parts (are_in_order 0 heap.pure) (list_all (is_read_fact heap.pure) heap.pure) facts.0 in
      let atoms =
      and_parts (list_all (is_read_atom heap.pure) heap.spatial && not (list_any (is_empty [] (addresses heap.spatial)) heap.spatial))
      (not (has_two_junk heap.spatial)) two.1 in
      let read =
      and_parts (list_all (is_read_atom heap.pure) heap.spatial)
      (not (list_any (is_empty [] (addresses heap.spatial)) heap.spatial)) atoms.0 in
      let new : List Fact = stay heap.pure in
      and_from (is_normal_heap (record { pure = new; spatial = heap.spatial })) true
      (and_from ((are_in_order 0 new && list_all (is_read_fact new) new && not (has_redundant (addresses heap.spatial) new))
      && (list_all (is_read_atom new) heap.spatial && not (list_any (is_empty [] (addresses heap.spatial)) heap.spatial)
      && not (has_two_junk heap.spatial)))
      (not (has_clash new heap.spatial))
      (and_from (are_in_order 0 new && list_all (is_read_fact new) new && not (has_redundant (addresses heap.spatial) new))
      (list_all (is_read_atom new) heap.spatial && not (list_any (is_empty [] (addresses heap.spatial)) heap.spatial)
      && not (has_two_junk heap.spatial))
      (and_from (are_in_order 0 new && list_all (is_read_fact new) new) (not (has_redundant (addresses heap.spatial) new))
      (and_from (are_in_order 0 new) (list_all (is_read_fact new) new) (stay-order heap.pure 0 inner.0)
      (stay-read_facts heap.pure heap.pure inner.1))
      (ap not (stay-redundant (addresses heap.spatial) heap.pure) ∙ facts.1))
      (and_from (list_all (is_read_atom new) heap.spatial && not (list_any (is_empty [] (addresses heap.spatial)) heap.spatial))
      (not (has_two_junk heap.spatial))
      (and_from (list_all (is_read_atom new) heap.spatial) (not (list_any (is_empty [] (addresses heap.spatial)) heap.spatial))
      (stay-read_atoms heap.pure heap.spatial read.0) read.1) atoms.1))
      (ap not (stay-clash heap.pure heap.spatial) ∙ both.1))
      refl

-- ---- the form

-- what the form of a pair is: the missing heap's form without the equations that go, and the form of a state
pub record IsForm (params : ℕ) (pair form : Pair) : Type 0 where
  pub missing : SymState
  pub missing_is : normal (without_locals pair.missing) ≡ Is missing
  pub state_is : normal (on_state (read_through missing.heap.pure) pair.state) ≡ Is form.state
  pub form_is : form.missing ≡ without_facts (is_further_equation params) missing.heap

pub form-is : (params : ℕ) (pair form : Pair) → pair_form params pair ≡ Some form → IsForm params pair form
form-is params pair form h = by_missing (normal (without_locals pair.missing)) refl h
  where
    by_state : (missing : SymState) → normal (without_locals pair.missing) ≡ Is missing → (n : Normal)
        → normal (on_state (read_through missing.heap.pure) pair.state) ≡ n → of_form (pair_of params missing.heap) n ≡ Some form
        → IsForm params pair form
    by_state missing e Contradiction f k = cc
    by_state missing e (Is state) f k =
        let same : pair_of params missing.heap state ≡ form = cc in
        record { missing = missing; missing_is = e; state_is = f ∙ ap (λ p. Is p.state) same; form_is = sym (ap (λ p. p.missing) same) }

    by_missing : (n : Normal) → normal (without_locals pair.missing) ≡ n
        → of_form_some (λ missing. with_missing params pair.state missing.heap) n ≡ Some form → IsForm params pair form
    by_missing Contradiction e k = cc
    by_missing (Is missing) e k = by_state missing e (normal (on_state (read_through missing.heap.pure) pair.state)) refl k

no-locals : (state : SymState) → is_normal state ≡ true → is_normal (without_locals state.heap) ≡ true
no-locals state h =
    and_from (is_normal_heap state.heap) true
    (and_parts (is_normal_heap state.heap) (list_all (is_read state.heap.pure) state.locals) h).0 refl

missing-normal : (params : ℕ) (pair form : Pair) → IsForm params pair form → is_normal (without_locals form.missing) ≡ true
missing-normal params pair form is =
    subst (λ heap. is_normal (without_locals heap) ≡ true) (sym is.form_is)
    (stay-normal params is.missing.heap (no-locals is.missing (form_is_normal (without_locals pair.missing) is.missing is.missing_is)))

pub pair_form_is_normal : PairFormIsNormal
pair_form_is_normal params pair form h =
    let is : IsForm params pair form = form-is params pair form h in
    (missing-normal params pair form is, form_is_normal (on_state (read_through is.missing.heap.pure) pair.state) form.state is.state_is)

-- ---- the missing heap in canonical form

low-mapped : (number : ℕ → ℕ) (limit : ℕ) → ((x : ℕ) → x < limit → number x ≡ x) → (facts : List Fact) → AreOfLow limit facts
    → AreOfLow limit (map (on_fact (renamed number)) facts)
low-mapped number limit keeps [] h = tt
low-mapped number limit keeps (Eq (Var x) right ∷ facts) h =
    let low : number x < limit = rw (keeps x h.0) h.0 in (low, low-mapped number limit keeps facts h.1)
low-mapped number limit keeps (Eq (Const n) right ∷ facts) h = low-mapped number limit keeps facts h
low-mapped number limit keeps (Ne left right ∷ facts) h = low-mapped number limit keeps facts h

-- equations of parameters stay such when atoms are placed and existential variables numbered
arranged-low : (params : ℕ) → params ≤ 65536 → (state : SymState) → AreOfLow params state.heap.pure
    → AreOfLow params (arranged params state).heap.pure
arranged-low params few state low =
    let placed : SymState = with_atoms_placed params state in
    let seen : List ℕ = sight_state Existential placed [] in
    let are : AreSeen Existential seen = state-seen Existential placed [] (none-seen Existential) in
    let same : arranged params state ≡ on_state (renamed (to_front 65536 seen)) placed =
    state-numbered Existential seen are placed (state-known Existential placed []) in
    subst (λ made. AreOfLow params made.heap.pure) (sym same)
    (low-mapped (to_front 65536 seen) params (λ x under. (front-renaming seen are).keeps x (omega (arith, under, few))) state.heap.pure low)

pub canon_pair_keeps_missing_normal : CanonPairKeepsMissingNormal
canon_pair_keeps_missing_normal params pair form few h =
    let is : IsForm params pair form = form-is params pair form h in
    let first : SymState = arranged params (without_locals form.missing) in
    let second : SymState = arranged params form.state in
    let before : List ℕ = sight_state (Further params) first [] in
    let seen : List ℕ = sight_pair params first second in
    let are : AreSeen (Further params) seen =
    state-seen (Further params) second before (state-seen (Further params) first [] (none-seen (Further params))) in
    let known : EachInState (Known (Further params) seen) first =
    state-stays (Further params) before seen (kept-state (Further params) second before) first (state-known (Further params) first []) in
    let same : on_state (with_number params seen) first ≡ on_state (renamed (to_front params seen)) first =
    state-numbered (Further params) seen are first known in
    let from : AreFrom params seen = seen-from (Further params) seen are in
    let low : AreOfLow params form.missing.pure =
    subst (λ heap. AreOfLow params heap.pure) (sym is.form_is) (stay-low params is.missing.heap.pure) in
    let normal_first : is_normal first ≡ true = arranged-normal params (without_locals form.missing) (missing-normal params pair form is) in
    let renamed_normal : is_normal (on_state (renamed (to_front params seen)) first) ≡ true =
    renamed-normal (to_front params seen) (from_front params seen) (front-undone params seen from) params
    (front-below params seen from) first (arranged-low params few (without_locals form.missing) low) normal_first in
    sorted-normal (on_state (with_number params seen) first) (subst (λ made. is_normal made ≡ true) (sym same) renamed_normal)
