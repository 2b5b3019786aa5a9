-- How large what a match answers is.
use Rattle.std.specs.Prelude.{◌≡◌, ℕ, zero, suc, ◌+◌, ◌≤◌, Bool, true, false, if◌then◌else◌, List, [], ◌∷◌, ◌++◌, length, slice_get}
use Rattle.std.specs.List.{remove}
use Rattle.std.specs.declared.option.Option.{Option}
use Rattle.std.specs.declared.option.Option.TheVariants.{None, Some}
use Rattle.std.proofs.Common.{refl, sym, ap, subst, ◌∙◌, arith}
use Rattle.std.proofs.lemmas.List.{append-nil}
use Rattle.std.proofs.lemmas.List.Edits.{length-remove}
use Rattle.std.proofs.lemmas.Option.{slice_get_within}
use Rattle.shape_data.specs.declared.symbolic.Atom.{Atom}
use Rattle.shape_data.specs.declared.symbolic.Atom.TheVariants.{Points, Seg, Junk}
use Rattle.shape_data.specs.declared.symbolic.SymHeap.{SymHeap}
use Rattle.sym_matching.specs.declared.matching.Abd.TheVariants as abd
use Rattle.sym_matching.specs.declared.matching.Matching.{Matching}
use Rattle.sym_matching.specs.declared.matching.Mode.TheVariants.{Subtract, Abduce}
use Rattle.sym_matching.specs.declared.matching.Sub.TheVariants as sub
use Rattle.sym_matching.specs.declared.matching.Turned.{Turned}
use Rattle.sym_matching.specs.declared.matching.Turned.TheVariants.{On, Stuck}
use Rattle.sym_matching.specs.declared.matching.Wanted.{Wanted}
use Rattle.sym_matching.specs.Answers.{BiabduceHasSizes, HasFoundSizes, HasSizes, HasSubtractedSizes, MatchHasSizes, SubtractHasSizes}
use Rattle.sym_matching.specs.Matches.{answer_abd, answer_sub, argument_variables, frame_of, has_junk, left_over, matching, rules_of}
use Rattle.sym_matching.specs.Matches.{start_of, want_heap, want_spatial}
use Rattle.sym_matching.specs.Rooms.{fields_of, fields_of_all, fields_wanted}
use Rattle.sym_matching.specs.Steps.{Rules, and_then}
use Rattle.sym_matching.specs.WantedAtoms.{first_number, next_place, want_at, want_atom, want_atoms, want_one, wanted_from}
use Rattle.sym_matching.specs.WantedFacts.{want_all_owed, want_facts}
use Rattle.sym_matching.proofs.AnswerLaws.{fields-from}
use Rattle.sym_matching.proofs.CountSteps.{Makes, makes-both, makes-none, unbound-few, unbound_of, want_all_owed-makes, want_atom-makes}
use Rattle.sym_matching.proofs.CountSteps.{want_facts-makes}
use Rattle.sym_matching.proofs.MissingLaws.{subtract_misses_nothing}
use Rattle.sym_matching.proofs.RoomSteps.{fields-removed}

-- ---- the wanted atoms

wanted-few : (number : ℕ) (atoms : List Atom) → length (wanted_from number atoms) ≤ length atoms
wanted-few number [] = omega arith
wanted-few number (Points at kind fields ∷ atoms) =
    let later : length (wanted_from (number + 1) atoms) ≤ length atoms = wanted-few (number + 1) atoms in omega arith
wanted-few number (Seg kind link from to ∷ atoms) =
    let later : length (wanted_from (number + 1) atoms) ≤ length atoms = wanted-few (number + 1) atoms in omega arith
wanted-few number (Junk ∷ atoms) =
    let later : length (wanted_from (number + 1) atoms) ≤ length atoms = wanted-few (number + 1) atoms in omega arith

-- what is made of all wanted parts of a heap
record MakesAll (rules : Rules) (b : SymHeap) (m n : Matching) : Type 0 where
  pub bindings : length n.binding + unbound_of rules.flexible n.binding ≤ length m.binding + unbound_of rules.flexible m.binding
  pub left : length n.left ≤ length m.left
  pub missing_atoms : length n.missing.spatial ≤ length m.missing.spatial + length b.spatial
  pub missing_parts : length n.missing.pure + length n.missing.spatial
      ≤ length m.missing.pure + length m.missing.spatial + (length b.pure + length b.spatial + fields_of_all b.spatial)

module _ (rules : Rules) where
  module _ (turns : ℕ) (wanted : List Wanted) (m n : Matching) (many : length wanted ≡ suc turns)
      (go_on : (place : ℕ) (k : Matching) → length (remove wanted place) ≡ turns → want_atoms turns rules (remove wanted place) k ≡ On n →
      Makes rules (length (remove wanted place)) (length (remove wanted place)) (fields_wanted (remove wanted place)) k n) where
    one-makes : (place : ℕ) (w : Wanted) → slice_get wanted place ≡ Some w → (r : Turned) → want_atom rules w.number w.atom m ≡ r →
        and_then (want_atoms turns rules (remove wanted place)) r ≡ On n →
        Makes rules (length wanted) (length wanted) (fields_wanted wanted) m n
    one-makes place w is (Stuck number) f g = cc
    one-makes place w is (On k) f g =
        let fields : fields_wanted wanted ≡ fields_of w.atom + fields_wanted (remove wanted place) = fields-removed wanted place w is in
        let shorter : length (remove wanted place) + 1 ≡ length wanted = length-remove wanted place (slice_get_within wanted place w is) in
        let fewer : length (remove wanted place) ≡ turns = omega arith in
        makes-both rules (length wanted) (length wanted) (fields_wanted wanted) 1 1 (fields_of w.atom) (length (remove wanted place))
        (length (remove wanted place)) (fields_wanted (remove wanted place)) m k n
        (omega arith) (omega arith) (omega arith) (want_atom-makes rules w.number w.atom m k f) (go_on place k fewer g)

    wanted_one-makes : (place : ℕ) (o : Option Wanted) → slice_get wanted place ≡ o →
        want_one rules m (want_atoms turns rules (remove wanted place)) (first_number wanted) o ≡ On n →
        Makes rules (length wanted) (length wanted) (fields_wanted wanted) m n
    wanted_one-makes place None is g = cc
    wanted_one-makes place (Some w) is g = one-makes place w is (want_atom rules w.number w.atom m) refl g

    at-makes : (p : Option ℕ) → want_at rules m wanted (want_atoms turns rules) p ≡ On n →
        Makes rules (length wanted) (length wanted) (fields_wanted wanted) m n
    at-makes None g = cc
    at-makes (Some place) g = wanted_one-makes place (slice_get wanted place) refl g

  atoms-make : (turns : ℕ) (wanted : List Wanted) (m n : Matching) → length wanted ≡ turns → want_atoms turns rules wanted m ≡ On n →
      Makes rules (length wanted) (length wanted) (fields_wanted wanted) m n
  atoms-make zero wanted m n many h =
      let is_n : m ≡ n = cc in makes-none rules (length wanted) (length wanted) (fields_wanted wanted) m n is_n
  atoms-make (suc turns) wanted m n many h =
      at-makes turns wanted m n many (λ place k fewer g. atoms-make turns (remove wanted place) k n fewer g) (next_place rules m wanted) h

  -- the stages together, from where no fact is left over
  stages-make : (b : SymHeap) (wanted : List Wanted) (m k l n : Matching) → length wanted ≤ length b.spatial →
      fields_wanted wanted ≡ fields_of_all b.spatial → m.owed ≡ [] →
      Makes rules (length wanted) (length wanted) (fields_wanted wanted) m k →
      Makes rules 0 (length k.owed) 0 k l → Makes rules 0 (length b.pure) 0 l n → MakesAll rules b m n
  stages-make b wanted m k l n few fields none one two three =
      let unowed : length m.owed ≡ 0 = ap (λ all. length all) none in
      let owed : length k.owed ≤ length m.owed + fields_wanted wanted = one.owed in
      let facts : Makes rules 0 (length k.owed + length b.pure) 0 k n =
      makes-both rules 0 (length k.owed + length b.pure) 0 0 (length k.owed) 0 0 (length b.pure) 0 k l n (omega arith) (omega arith)
      (omega arith) two three in
      let all : Makes rules (length wanted) (length wanted + (length k.owed + length b.pure)) (fields_wanted wanted) m n =
      makes-both rules (length wanted) (length wanted + (length k.owed + length b.pure)) (fields_wanted wanted) (length wanted)
      (length wanted) (fields_wanted wanted) 0 (length k.owed + length b.pure) 0 m k n
      (omega arith) (omega arith) (omega arith) one facts in
      let missing_atoms : length n.missing.spatial ≤ length m.missing.spatial + length wanted = all.missing_atoms in
      let missing_parts : length n.missing.pure + length n.missing.spatial
      ≤ length m.missing.pure + length m.missing.spatial + (length wanted + (length k.owed + length b.pure)) = all.missing_parts in
      record { bindings = all.bindings; left = all.left; missing_atoms = omega arith; missing_parts = omega arith }

  heap-makes : (b : SymHeap) (m n : Matching) → m.owed ≡ [] → want_heap rules b m ≡ On n → MakesAll rules b m n
  heap-makes b m n none h = after_atoms (want_spatial rules b m) refl h
    where
      after_owed : (k : Matching) →
          Makes rules (length (wanted_from 0 b.spatial)) (length (wanted_from 0 b.spatial)) (fields_wanted (wanted_from 0 b.spatial)) m k →
          (r : Turned) → want_all_owed rules k.owed k ≡ r →
          and_then (want_facts rules (length b.spatial) b.pure) r ≡ On n → MakesAll rules b m n
      after_owed k one (On l) e f =
          stages-make b (wanted_from 0 b.spatial) m k l n (wanted-few 0 b.spatial) (fields-from 0 b.spatial) none one
          (want_all_owed-makes rules k.owed k l e) (want_facts-makes rules (length b.spatial) b.pure l n f)
      after_owed k one (Stuck number) e f = cc

      after_atoms : (r : Turned) → want_spatial rules b m ≡ r →
          and_then (want_facts rules (length b.spatial) b.pure) (and_then (λ k. want_all_owed rules k.owed k) r) ≡ On n →
          MakesAll rules b m n
      after_atoms (On k) e f =
          after_owed k (atoms-make (length (wanted_from 0 b.spatial)) (wanted_from 0 b.spatial) m k refl e)
          (want_all_owed rules k.owed k) refl f
      after_atoms (Stuck number) e f = cc

pub match_has_sizes : MatchHasSizes
match_has_sizes mode a b bound flexible avoid next n h =
    let used : List ℕ = argument_variables a b bound flexible ++ avoid in
    let all : MakesAll (rules_of mode a flexible) b (start_of a bound used next) n =
    heap-makes (rules_of mode a flexible) b (start_of a bound used next) n refl h in
    let bindings : length n.binding + unbound_of flexible n.binding ≤ length bound + unbound_of flexible bound = all.bindings in
    let unbound : unbound_of flexible bound ≤ length flexible = unbound-few flexible bound in
    let missing_atoms : length n.missing.spatial ≤ 0 + length b.spatial = all.missing_atoms in
    let missing_parts : length n.missing.pure + length n.missing.spatial
    ≤ 0 + 0 + (length b.pure + length b.spatial + fields_of_all b.spatial) = all.missing_parts in
    record { left = all.left; bindings = omega arith; missing_atoms = omega arith; missing_parts = omega arith }

-- ---- the answers

left_over-few : (b : SymHeap) (n : Matching) (most : ℕ) → length n.left ≤ most → length (left_over b n) ≤ most
left_over-few b n most few = by_junk (has_junk b)
  where
    by_junk : (c : Bool) → length (if c then [] else n.left) ≤ most
    by_junk true = omega arith
    by_junk false = few

pub subtract_has_sizes : SubtractHasSizes
subtract_has_sizes a b bound flexible avoid frame binding h = by_turn (matching Subtract a b bound flexible avoid 0) refl h
  where
    by_turn : (r : Turned) → matching Subtract a b bound flexible avoid 0 ≡ r →
        answer_sub (rules_of Subtract a flexible) b r ≡ sub.Match frame binding → HasSubtractedSizes a bound flexible frame binding
    by_turn (On n) e f =
        let same_frame : frame_of (rules_of Subtract a flexible) b n ≡ frame = cc in
        let same_binding : n.binding ≡ binding = cc in
        let sizes : HasSizes a b bound flexible n = match_has_sizes Subtract a b bound flexible avoid 0 n e in
        let none = subtract_misses_nothing a b bound flexible avoid 0 n e in
        let pure : a.pure ++ n.missing.pure ≡ a.pure = ap (λ (m : SymHeap). a.pure ++ m.pure) none ∙ append-nil a.pure in
        record {
          facts = subst (λ (k : SymHeap). k.pure ≡ a.pure) same_frame pure;
          atoms = subst (λ (k : SymHeap). length k.spatial ≤ length a.spatial) same_frame (left_over-few b n (length a.spatial) sizes.left);
          bindings = subst (λ k. length k ≤ length bound + length flexible) same_binding sizes.bindings;
        }
    by_turn (Stuck number) e f = cc

pub biabduce_has_sizes : BiabduceHasSizes
biabduce_has_sizes a b bound flexible next avoid missing frame binding h = by_turn (matching Abduce a b bound flexible avoid next) refl h
  where
    by_turn : (r : Turned) → matching Abduce a b bound flexible avoid next ≡ r →
        answer_abd (rules_of Abduce a flexible) b r ≡ abd.Found missing frame binding →
        HasFoundSizes a b bound flexible missing frame binding
    by_turn (On n) e f =
        let same_missing : n.missing ≡ missing = cc in
        let same_frame : frame_of (rules_of Abduce a flexible) b n ≡ frame = cc in
        let same_binding : n.binding ≡ binding = cc in
        let sizes : HasSizes a b bound flexible n = match_has_sizes Abduce a b bound flexible avoid next n e in
        record {
          facts = ap (λ (k : SymHeap). k.pure) (sym same_frame) ∙ ap (λ (k : SymHeap). a.pure ++ k.pure) same_missing;
          atoms = subst (λ (k : SymHeap). length k.spatial ≤ length a.spatial) same_frame (left_over-few b n (length a.spatial) sizes.left);
          bindings = subst (λ k. length k ≤ length bound + length flexible) same_binding sizes.bindings;
          missing_atoms = subst (λ (k : SymHeap). length k.spatial ≤ length b.spatial) same_missing sizes.missing_atoms;
          missing_parts =
              subst (λ (k : SymHeap). length k.pure + length k.spatial
              ≤ length b.pure + length b.spatial + fields_of_all b.spatial) same_missing sizes.missing_parts;
        }
    by_turn (Stuck number) e f = cc
