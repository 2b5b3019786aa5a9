-- The laws of subtraction and of abduction, as sentences on their answers.
use Rattle.std.specs.Prelude.{◌≡◌, ℕ, ℤ, true, List, [], ◌∷◌, ◌++◌, All}
use Rattle.std.specs.List.{list_any}
use Rattle.std.proofs.Common.{refl, sym, subst, ⊎_elim}
use Rattle.std.proofs.lemmas.Bool.{eqb-true, or_cases}
use Rattle.std.proofs.lemmas.List.{append-nil}
use Rattle.std.proofs.lemmas.List.Elements.{All-append, All-head, All-tail}
use Rattle.shape_data.specs.declared.machine.Cell.{Cell}
use Rattle.shape_data.specs.declared.program.StructDef.{StructDef}
use Rattle.shape_data.specs.declared.symbolic.Atom.{Atom}
use Rattle.shape_data.specs.declared.symbolic.Atom.TheVariants.{Points, Seg, Junk}
use Rattle.shape_data.specs.declared.symbolic.Exp.{Exp}
use Rattle.shape_data.specs.declared.symbolic.Exp.TheVariants.{Var, Const}
use Rattle.shape_data.specs.declared.symbolic.Fact.{Fact}
use Rattle.shape_data.specs.declared.symbolic.Fact.TheVariants.{Eq, Ne}
use Rattle.shape_data.specs.declared.symbolic.SymHeap.{SymHeap}
use Rattle.shape_data.specs.Meaning.{Holds}
use Rattle.sym_parts.specs.Shapes.Symbolic.{beside, emp, is_variable, occurs_in, occurs_in_atom, occurs_in_fact}
use Rattle.sym_parts.proofs.ShapesLemmas.Meets.{AreTrueFacts-append}
use Rattle.sym_parts.specs.Laws.Each.{EachInAtom, EachInFact, EachInHeap}
use Rattle.sym_parts.proofs.LawsLemmas.MappedLemmas.{Holds-mapped}
use Rattle.sym_matching.specs.declared.matching.Abd.TheVariants as abd
use Rattle.sym_matching.specs.declared.matching.Matching.{Matching}
use Rattle.sym_matching.specs.declared.matching.Mode.{Mode}
use Rattle.sym_matching.specs.declared.matching.Mode.TheVariants.{Subtract, Abduce}
use Rattle.sym_matching.specs.declared.matching.Sub.TheVariants as sub
use Rattle.sym_matching.specs.declared.matching.Turned.{Turned}
use Rattle.sym_matching.specs.declared.matching.Turned.TheVariants.{On, Stuck}
use Rattle.sym_matching.specs.Laws.{is_kept, BiabduceGivesBeside, BiabduceKeepsBound, FitsAtom, GivesBeside, KeepsBound}
use Rattle.sym_matching.specs.Laws.{SubtractGivesBeside, SubtractKeepsBound}
use Rattle.sym_matching.specs.Matches.{answer_abd, answer_sub, argument_variables, frame_of, matching, rules_of}
use Rattle.sym_matching.specs.Reading.{bound_exp, through}
use Rattle.sym_matching.proofs.KeptLaws.{IsKept, IsLogical, AgreesOn-logical, each-atoms, each-facts, kept-name, logical-kept, one_of-right}
use Rattle.sym_matching.proofs.MatchLaws.{argument-kept, binding-keeps, match-splits, missing-logical, missing-nothing}
use Rattle.sym_matching.proofs.ReadingLaws.{Keeps-stays, value-through}

-- ---- what occurs is kept

module _ (used : List ℕ) (x : ℕ) where
  pub exp_occurs : (e : Exp) → IsKept used e → is_variable x e ≡ true → is_kept used x ≡ true
  exp_occurs (Var y) kept h = let same : x ≡ y = eqb-true x y h in rw same kept
  exp_occurs (Const n) kept h = cc

  pub exps_occur : (es : List Exp) → All (IsKept used) es → list_any (is_variable x) es ≡ true → is_kept used x ≡ true
  exps_occur [] kept h = cc
  exps_occur (e ∷ es) kept h =
      ⊎_elim (exp_occurs e (All-head (IsKept used) e es kept)) (exps_occur es (All-tail (IsKept used) e es kept))
      (or_cases (is_variable x e) (list_any (is_variable x) es) h)

  atom_occurs : (atom : Atom) → EachInAtom (IsKept used) atom → occurs_in_atom x atom ≡ true → is_kept used x ≡ true
  atom_occurs (Points at kind fields) kept h =
      ⊎_elim (exp_occurs at kept.0) (exps_occur fields kept.1) (or_cases (is_variable x at) (list_any (is_variable x) fields) h)
  atom_occurs (Seg kind link from to) kept h =
      ⊎_elim (exp_occurs from kept.0) (exp_occurs to kept.1) (or_cases (is_variable x from) (is_variable x to) h)
  atom_occurs Junk kept h = cc

  pub atoms_occur : (atoms : List Atom) → All (EachInAtom (IsKept used)) atoms → list_any (occurs_in_atom x) atoms ≡ true →
      is_kept used x ≡ true
  atoms_occur [] kept h = cc
  atoms_occur (atom ∷ atoms) kept h =
      ⊎_elim (atom_occurs atom (All-head (EachInAtom (IsKept used)) atom atoms kept))
      (atoms_occur atoms (All-tail (EachInAtom (IsKept used)) atom atoms kept))
      (or_cases (occurs_in_atom x atom) (list_any (occurs_in_atom x) atoms) h)

  fact_occurs : (fact : Fact) → EachInFact (IsKept used) fact → occurs_in_fact x fact ≡ true → is_kept used x ≡ true
  fact_occurs (Eq left right) kept h =
      ⊎_elim (exp_occurs left kept.0) (exp_occurs right kept.1) (or_cases (is_variable x left) (is_variable x right) h)
  fact_occurs (Ne left right) kept h =
      ⊎_elim (exp_occurs left kept.0) (exp_occurs right kept.1) (or_cases (is_variable x left) (is_variable x right) h)

  pub facts_occur : (facts : List Fact) → All (EachInFact (IsKept used)) facts → list_any (occurs_in_fact x) facts ≡ true →
      is_kept used x ≡ true
  facts_occur [] kept h = cc
  facts_occur (fact ∷ facts) kept h =
      ⊎_elim (fact_occurs fact (All-head (EachInFact (IsKept used)) fact facts kept))
      (facts_occur facts (All-tail (EachInFact (IsKept used)) fact facts kept))
      (or_cases (occurs_in_fact x fact) (list_any (occurs_in_fact x) facts) h)

  pub occurs-kept : (heap : SymHeap) → EachInHeap (IsKept used) heap → occurs_in x heap ≡ true → is_kept used x ≡ true
  occurs-kept heap kept h =
      ⊎_elim (facts_occur heap.pure kept.facts) (atoms_occur heap.spatial kept.atoms)
      (or_cases (list_any (occurs_in_fact x) heap.pure) (list_any (occurs_in_atom x) heap.spatial) h)

-- ---- the answers

pub beside_emp : (structs : List StructDef) (s : ℕ → ℤ) (heap : List Cell) (a missing : SymHeap) → missing ≡ emp → Holds structs s heap a →
    Holds structs s heap (beside a missing)
beside_emp structs s heap a missing none holds =
    subst (λ m. Holds structs s heap (beside a m)) (sym none)
    (record { facts = AreTrueFacts-append s a.pure [] holds.facts tt; atoms = rw (append-nil a.spatial) holds.atoms })

module _ (structs : List StructDef) (mode : Mode) (a b : SymHeap) (bound : List (ℕ × Exp)) (flexible avoid : List ℕ) (next : ℕ)
    (n : Matching) (fits : All (FitsAtom structs) b.spatial) (h : matching mode a b bound flexible avoid next ≡ On n) where
  -- the heap beside the missing part
  all_kept : EachInHeap (IsKept (argument_variables a b bound flexible ++ avoid)) (beside a n.missing)
  all_kept =
      let used : List ℕ = argument_variables a b bound flexible ++ avoid in
      let kept = argument-kept structs mode a b bound flexible avoid next n fits h in
      let logical = missing-logical structs mode a b bound flexible avoid next n fits h in
      record {
        facts =
            All-append (EachInFact (IsKept used)) a.pure n.missing.pure kept.facts
            (each-facts IsLogical (IsKept used) (logical-kept used) n.missing.pure logical.facts);
        atoms =
            All-append (EachInAtom (IsKept used)) a.spatial n.missing.spatial kept.atoms
            (each-atoms IsLogical (IsKept used) (logical-kept used) n.missing.spatial logical.atoms);
      }

  -- the assignment agrees on all that is kept
  gives : (all : SymHeap) → EachInHeap (IsKept (argument_variables a b bound flexible ++ avoid)) all → (s : ℕ → ℤ) (heap : List Cell) →
      Holds structs s heap (beside a n.missing) →
      GivesBeside structs s heap all b bound flexible avoid n.binding (frame_of (rules_of mode a flexible) b n)
  gives all kept s heap holds =
      let used : List ℕ = argument_variables a b bound flexible ++ avoid in
      let matched = match-splits structs mode a b bound flexible avoid next n fits h s heap holds in
      record {
        t = matched.t;
        own = matched.own;
        rest = matched.rest;
        agrees = λ x occurs. matched.agrees x (occurs-kept used x all kept occurs);
        avoids = λ x is. matched.agrees x (kept-name used x (one_of-right (argument_variables a b bound flexible) avoid x is));
        logical = AgreesOn-logical used s matched.t matched.agrees;
        sum = matched.sum;
        keeps = matched.keeps;
        stays = Keeps-stays flexible bound n.binding matched.keeps;
        wanted =
            (Holds-mapped matched.t (through n.binding matched.t) (bound_exp n.binding)
            (λ e. sym (value-through n.binding matched.t e)) structs matched.own b).1 matched.wanted;
        frame_holds = matched.frame;
      }

pub subtract_gives_beside : SubtractGivesBeside
subtract_gives_beside structs a b bound flexible avoid frame binding fits h s heap holds =
    by_turn (matching Subtract a b bound flexible avoid 0) refl h
  where
    by_turn : (r : Turned) → matching Subtract a b bound flexible avoid 0 ≡ r →
        answer_sub (rules_of Subtract a flexible) b r ≡ sub.Match frame binding →
        GivesBeside structs s heap a b bound flexible avoid binding frame
    by_turn (On n) e f =
        let same_frame : frame ≡ frame_of (rules_of Subtract a flexible) b n = cc in
        let same_binding : binding ≡ n.binding = cc in
        subst (λ k. GivesBeside structs s heap a b bound flexible avoid k frame) (sym same_binding)
        (subst (λ k. GivesBeside structs s heap a b bound flexible avoid n.binding k) (sym same_frame)
        (gives structs Subtract a b bound flexible avoid 0 n fits e a
        (argument-kept structs Subtract a b bound flexible avoid 0 n fits e) s heap
        (beside_emp structs s heap a n.missing (missing-nothing structs Subtract a b bound flexible avoid 0 n fits e refl) holds)))
    by_turn (Stuck number) e f = cc

pub biabduce_gives_beside : BiabduceGivesBeside
biabduce_gives_beside structs a b bound flexible next avoid missing frame binding fits h s heap holds =
    by_turn (matching Abduce a b bound flexible avoid next) refl h
  where
    by_turn : (r : Turned) → matching Abduce a b bound flexible avoid next ≡ r →
        answer_abd (rules_of Abduce a flexible) b r ≡ abd.Found missing frame binding →
        GivesBeside structs s heap (beside a missing) b bound flexible avoid binding frame
    by_turn (On n) e f =
        let same_missing : missing ≡ n.missing = cc in
        let same_frame : frame ≡ frame_of (rules_of Abduce a flexible) b n = cc in
        let same_binding : binding ≡ n.binding = cc in
        let there : Holds structs s heap (beside a n.missing) = subst (λ m. Holds structs s heap (beside a m)) same_missing holds in
        let given : GivesBeside structs s heap (beside a n.missing) b bound flexible avoid n.binding
        (frame_of (rules_of Abduce a flexible) b n) =
        gives structs Abduce a b bound flexible avoid next n fits e (beside a n.missing)
        (all_kept structs Abduce a b bound flexible avoid next n fits e) s heap there in
        subst (λ k. GivesBeside structs s heap (beside a missing) b bound flexible avoid k frame) (sym same_binding)
        (subst (λ k. GivesBeside structs s heap (beside a missing) b bound flexible avoid n.binding k) (sym same_frame)
        (subst (λ k. GivesBeside structs s heap (beside a k) b bound flexible avoid n.binding (frame_of (rules_of Abduce a flexible) b n))
        (sym same_missing) given))
    by_turn (Stuck number) e f = cc

pub subtract_keeps_bound : SubtractKeepsBound
subtract_keeps_bound structs a b bound flexible avoid frame binding fits h = by_turn (matching Subtract a b bound flexible avoid 0) refl h
  where
    by_turn : (r : Turned) → matching Subtract a b bound flexible avoid 0 ≡ r →
        answer_sub (rules_of Subtract a flexible) b r ≡ sub.Match frame binding → KeepsBound bound flexible binding
    by_turn (On n) e f =
        let same_binding : n.binding ≡ binding = cc in
        subst (λ k. KeepsBound bound flexible k) same_binding (binding-keeps structs Subtract a b bound flexible avoid 0 n fits e)
    by_turn (Stuck number) e f = cc

pub biabduce_keeps_bound : BiabduceKeepsBound
biabduce_keeps_bound structs a b bound flexible next avoid missing frame binding fits h =
    by_turn (matching Abduce a b bound flexible avoid next) refl h
  where
    by_turn : (r : Turned) → matching Abduce a b bound flexible avoid next ≡ r →
        answer_abd (rules_of Abduce a flexible) b r ≡ abd.Found missing frame binding → KeepsBound bound flexible binding
    by_turn (On n) e f =
        let same_binding : n.binding ≡ binding = cc in
        subst (λ k. KeepsBound bound flexible k) same_binding (binding-keeps structs Abduce a b bound flexible avoid next n fits e)
    by_turn (Stuck number) e f = cc
