-- What meets a state meets each state that covers it, and so for posts.
use Rattle.std.specs.Prelude.{◌≡◌, ℕ, ◌<◌, ◌≤◌, ℤ, Bool, true, false, ◌==◌, leb, List, [], ◌∷◌, length, map, All}
use Rattle.std.proofs.Common.{refl, sym, ap, subst, ◌∙◌, arith, ⊎_elim}
use Rattle.std.proofs.lemmas.Bool.{and_parts, eqb-true, leb-true}
use Rattle.std.proofs.lemmas.List.{length-map}
use Rattle.std.proofs.lemmas.List.Elements.{All-map, All-weaker}
use Rattle.shape_data.specs.declared.machine.Cell.{Cell}
use Rattle.shape_data.specs.declared.program.StructDef.{StructDef}
use Rattle.shape_data.specs.declared.symbolic.Atom.{Atom}
use Rattle.shape_data.specs.declared.symbolic.Atom.TheVariants.{Points, Seg, Junk}
use Rattle.shape_data.specs.declared.symbolic.Exp.{Exp}
use Rattle.shape_data.specs.declared.symbolic.Exp.TheVariants.{Var, Const}
use Rattle.shape_data.specs.declared.symbolic.Post.{Post}
use Rattle.shape_data.specs.declared.symbolic.SymState.{SymState}
use Rattle.shape_data.specs.Heap.{IsSum}
use Rattle.shape_data.specs.Meaning.{value, Holds, HoldsAtoms, MeetsState, MeetsPost}
use Rattle.sym_parts.specs.Shapes.Symbolic.{emp}
use Rattle.sym_parts.proofs.ShapesLemmas.Sums.{IsSum-empty_right}
use Rattle.sym_parts.specs.Laws.Fresh.{is_one_of}
use Rattle.sym_parts.specs.Laws.Mapped.{on_atom, on_state, renamed}
use Rattle.sym_parts.proofs.LawsLemmas.MappedLemmas.{Holds-mapped, values-mapped}
use Rattle.sym_canon.specs.Canonical.{as_state}
use Rattle.sym_canon.proofs.CanonLaws.{canon_post_keeps_meaning, canon_state_keeps_meaning}
use Rattle.sym_matching.specs.declared.matching.Matching.{Matching}
use Rattle.sym_matching.specs.declared.matching.Mode.TheVariants.{Subtract}
use Rattle.sym_matching.specs.declared.matching.Turned.{Turned}
use Rattle.sym_matching.specs.declared.matching.Turned.TheVariants.{On, Stuck}
use Rattle.sym_matching.specs.Covers.{apart_from, equal_slots, existentials, is_empty, match_state, matches_state, takes_all}
use Rattle.sym_matching.specs.Laws.{AgreesOn, CoveringPostMeets, CoveringStateMeets, FitsAtom, FitsKind, Keeps}
use Rattle.sym_matching.specs.Matches.{left_over, rules_of, start_of, want_heap}
use Rattle.sym_matching.specs.NewVariables.{number_apart}
use Rattle.sym_matching.specs.Reading.{bound_exp, through}
use Rattle.sym_matching.specs.Steps.{Rules, and_then}
use Rattle.sym_matching.specs.Variables.{with_exps, with_state}
use Rattle.sym_matching.specs.WantedFacts.{want_all_owed}
use Rattle.sym_matching.proofs.FactLaws.{want_all_owed-settles}
use Rattle.sym_matching.proofs.GivesLaws.{beside_emp}
use Rattle.sym_matching.proofs.KeptLaws.{IsKept, AgreesOn-logical, Within, value-kept, values-alike}
use Rattle.sym_matching.proofs.MatchLaws.{Stages, Stands-start, emp_logical, want_heap-stages}
use Rattle.sym_matching.proofs.NewNumberLaws.{logical_stays, passed}
use Rattle.sym_matching.proofs.ReadingLaws.{Keeps-trans}
use Rattle.sym_matching.proofs.SettleLaws.{Settles, Stands-settle}
use Rattle.sym_matching.proofs.StandLaws.{AreTrueOwed, Stands-agree}
use Rattle.sym_matching.proofs.VariableLaws.{heap-kept, locals-kept, state-within}

-- ---- locals

equal_values : (u : ℕ → ℤ) (later : List (ℕ × Exp)) (wants haves : List Exp) → length wants ≡ length haves →
    AreTrueOwed u later (equal_slots wants haves) → map (value u) haves ≡ map (value (through later u)) wants
equal_values u later [] [] same h = refl
equal_values u later [] (have ∷ haves) same h = cc
equal_values u later (want ∷ wants) [] same h = cc
equal_values u later (want ∷ wants) (have ∷ haves) same h =
    let lengths : length wants ≡ length haves = cc in
    let first : value (through later u) want ≡ value u have = h.0 in
    let others : map (value u) haves ≡ map (value (through later u)) wants = equal_values u later wants haves lengths h.1 in
    cc

-- a logical variable is not flexible, and reads as itself
logical_reads : (b : SymState) (later : List (ℕ × Exp)) (x : ℕ) → Keeps (existentials b) [] later → x < 65536 →
    bound_exp later (Var x) ≡ Var x
logical_reads b later x keeps low = by_test (is_one_of (existentials b) x) refl
  where
    by_test : (c : Bool) → is_one_of (existentials b) x ≡ c → bound_exp later (Var x) ≡ Var x
    by_test true e = let above : 65536 ≤ x = leb-true 65536 x (passed (λ y. leb 65536 y) (with_state [] b) x e) in absurd (omega arith)
    by_test false e = (keeps (Var x) (rw e refl)).1

empty_is : (atoms : List Atom) → is_empty atoms ≡ true → atoms ≡ []
empty_is [] h = refl
empty_is (atom ∷ atoms) h = cc

-- ---- a match of a state with nothing left over

module _ (structs : List StructDef) (a b : SymState) (fits : All (FitsAtom structs) b.heap.spatial)
    (same : length b.locals ≡ length a.locals) where
  abbrev rules : Rules
  rules = rules_of Subtract a.heap (existentials b)

  abbrev used : List ℕ
  used = with_state (with_state [] a) b

  abbrev begin : Matching
  begin = start_of a.heap [] (with_state (with_state [] a) b) 0

  abbrev AreEqual : (ℕ → ℤ) → List (ℕ × Exp) → Type 0
  AreEqual s later = AreTrueOwed s later (equal_slots b.locals a.locals)

  used-within : Within (with_state [] a) used
  used-within x h = state-within b (with_state [] a) x h

  state-meets : (m n : Matching) → Settles structs rules begin m AreEqual → Stages structs rules b.heap m n → left_over b.heap n ≡ [] →
      (s : ℕ → ℤ) (locals : List ℤ) (heap : List Cell) → MeetsState structs s locals heap a → MeetsState structs s locals heap b
  state-meets m n first stages none s locals heap meets =
      let nothing : n.missing ≡ emp = stages.misses.nothing refl ∙ first.misses.nothing refl in
      let begins =
      Stands-start structs Subtract a.heap [] (existentials b) used 0 n.missing meets.0 heap
      (heap-kept a.heap (with_exps [] a.locals) used used-within) (stages.misses.logical (first.misses.logical emp_logical))
      (beside_emp structs meets.0 heap a.heap n.missing nothing meets.3) in
      let stands = Stands-settle structs rules n.missing meets.0 begin m heap heap [] AreEqual first stages.misses.grows begins in
      let matched = stages.matched meets.0 heap stands in
      let agrees : AgreesOn used meets.0 matched.t = subst (λ names. AgreesOn names meets.0 matched.t) first.used matched.agrees in
      let again = Stands-agree structs rules n.missing meets.0 matched.t begin heap heap [] agrees begins in
      let equal = first.told n.missing matched.t heap heap [] stages.misses.grows again n.binding matched.keeps in
      let values : map (value matched.t) a.locals ≡ map (value (through n.binding matched.t)) b.locals =
      equal_values matched.t n.binding b.locals a.locals same equal in
      let kept : map (value matched.t) a.locals ≡ map (value meets.0) a.locals =
      values-alike (IsKept used) meets.0 matched.t (value-kept used meets.0 matched.t agrees) a.locals
      (locals-kept a [] used used-within) in
      let keeps : Keeps (existentials b) [] n.binding = Keeps-trans (existentials b) [] m.binding n.binding first.keeps matched.keeps in
      let alone : matched.rest ≡ [] = subst (λ atoms. HoldsAtoms structs matched.t atoms matched.rest) none matched.frame.atoms in
      let sum : IsSum structs heap matched.own [] = subst (λ rest. IsSum structs heap matched.own rest) alone matched.sum in (
        through n.binding matched.t,
        λ x low. ap (value matched.t) (logical_reads b n.binding x keeps low) ∙ AgreesOn-logical used meets.0 matched.t agrees x low
            ∙ meets.1 x low,
        meets.2 ∙ sym kept ∙ values,
        subst (λ h. Holds structs (through n.binding matched.t) h b.heap) (sym (IsSum-empty_right sum)) matched.wanted,
      )

  by_end : (r : Turned) → match_state a b ≡ r → takes_all b.heap r ≡ true → (s : ℕ → ℤ) (locals : List ℤ) (heap : List Cell) →
      MeetsState structs s locals heap a → MeetsState structs s locals heap b
  by_end (On n) e all = by_turn (want_all_owed rules (equal_slots b.locals a.locals) begin) refl e
    where
      by_turn : (r : Turned) → want_all_owed rules (equal_slots b.locals a.locals) begin ≡ r → and_then (want_heap rules b.heap) r ≡ On n →
          (s : ℕ → ℤ) (locals : List ℤ) (heap : List Cell) → MeetsState structs s locals heap a → MeetsState structs s locals heap b
      by_turn (On m) f g =
          state-meets m n (want_all_owed-settles structs rules (equal_slots b.locals a.locals) begin m f)
          (want_heap-stages structs rules b.heap m n fits g) (empty_is (left_over b.heap n) all)
      by_turn (Stuck number) f g = cc
  by_end (Stuck number) e all = cc

  pub match_state-meets : takes_all b.heap (match_state a b) ≡ true → (s : ℕ → ℤ) (locals : List ℤ) (heap : List Cell) →
      MeetsState structs s locals heap a → MeetsState structs s locals heap b
  match_state-meets h = by_end (match_state a b) refl h

-- ---- numbered apart

fits_mapped : (structs : List StructDef) (f : Exp → Exp) (atom : Atom) → FitsAtom structs atom → FitsAtom structs (on_atom f atom)
fits_mapped structs f (Points at kind fields) h = subst (λ count. FitsKind structs kind count) (sym (length-map fields f)) h
fits_mapped structs f (Seg kind link from to) h = h
fits_mapped structs f Junk h = h

reads_number : (number : ℕ → ℕ) (t : ℕ → ℤ) (e : Exp) → value t (renamed number e) ≡ value (λ x. t (number x)) e
reads_number number t (Var x) = refl
reads_number number t (Const n) = refl

-- what meets the state in other numbers, which logical variables keep, meets the state
numbered-meets : (structs : List StructDef) (number : ℕ → ℕ) (b : SymState) → ((x : ℕ) → x < 65536 → number x ≡ x) →
    (s : ℕ → ℤ) (locals : List ℤ) (heap : List Cell) → MeetsState structs s locals heap (on_state (renamed number) b) →
    MeetsState structs s locals heap b
numbered-meets structs number b stays s locals heap meets =
    let u : ℕ → ℤ = λ x. meets.0 (number x) in (
      u,
      λ x low. ap meets.0 (stays x low) ∙ meets.1 x low,
      meets.2 ∙ values-mapped meets.0 u (renamed number) (reads_number number meets.0) b.locals,
      (Holds-mapped meets.0 u (renamed number) (reads_number number meets.0) structs heap b.heap).0 meets.3,
    )

matches_state-meets : (structs : List StructDef) (a b : SymState) → All (FitsAtom structs) b.heap.spatial → matches_state a b ≡ true →
    (s : ℕ → ℤ) (locals : List ℤ) (heap : List Cell) → MeetsState structs s locals heap a → MeetsState structs s locals heap b
matches_state-meets structs a b fits h s locals heap meets =
    let number : ℕ → ℕ = number_apart (with_state [] a) (existentials b) in
    let parts = and_parts (length b.locals == length a.locals) (takes_all (apart_from a b).heap (match_state a (apart_from a b))) h in
    let lengths : length (map (renamed number) b.locals) ≡ length a.locals =
    length-map b.locals (renamed number) ∙ eqb-true (length b.locals) (length a.locals) parts.0 in
    let fits' : All (FitsAtom structs) (map (on_atom (renamed number)) b.heap.spatial) =
    All-map (FitsAtom structs) (on_atom (renamed number)) b.heap.spatial
    (All-weaker (FitsAtom structs) (λ atom. FitsAtom structs (on_atom (renamed number) atom))
    (fits_mapped structs (renamed number)) b.heap.spatial fits) in
    numbered-meets structs number b (λ x low. logical_stays (with_state [] a) (with_state [] b) x low) s locals heap
    (match_state-meets structs a (apart_from a b) fits' lengths parts.1 s locals heap meets)

-- ---- both cases

pub covering_state_meets : CoveringStateMeets
covering_state_meets structs a b fits covers s locals heap meets =
    ⊎_elim (λ same. (canon_state_keeps_meaning b 0 structs s locals heap).1
    (subst (λ form. MeetsState structs s locals heap form) same ((canon_state_keeps_meaning a 0 structs s locals heap).0 meets)))
    (λ h. matches_state-meets structs a b fits h s locals heap meets) covers

post_as_state : (structs : List StructDef) (s : ℕ → ℤ) (ret : ℤ) (heap : List Cell) (post : Post) → MeetsPost structs s ret heap post →
    MeetsState structs s (ret ∷ []) heap (as_state post)
post_as_state structs s ret heap post m = (m.0, m.1, ap (λ v. v ∷ []) m.2, m.3)

state_as_post : (structs : List StructDef) (s : ℕ → ℤ) (ret : ℤ) (heap : List Cell) (post : Post) →
    MeetsState structs s (ret ∷ []) heap (as_state post) → MeetsPost structs s ret heap post
state_as_post structs s ret heap post m = (m.0, m.1, cc, m.3)

pub covering_post_meets : CoveringPostMeets
covering_post_meets structs a b fits covers s ret heap meets =
    ⊎_elim (λ same. (canon_post_keeps_meaning b 0 structs s ret heap).1
    (subst (λ form. MeetsPost structs s ret heap form) same ((canon_post_keeps_meaning a 0 structs s ret heap).0 meets)))
    (λ h. state_as_post structs s ret heap b
    (matches_state-meets structs (as_state a) (as_state b) fits h s (ret ∷ []) heap (post_as_state structs s ret heap a meets))) covers
