-- The law of the match.
use Rattle.std.specs.Prelude.{◌≡◌, ℕ, ◌+◌, ℤ, Bool, true, false, List, [], ◌∷◌, ◌++◌, length, All}
use Rattle.std.specs.List.{list_any}
use Rattle.std.proofs.Common.{refl, sym, ap, subst, ◌∙◌}
use Rattle.std.proofs.lemmas.List.{append_cancel_left, append-nil}
use Rattle.std.proofs.lemmas.List.Elements.{All-nil, All-cons, All-head, All-tail}
use Rattle.shape_data.specs.declared.machine.Cell.{Cell}
use Rattle.shape_data.specs.declared.program.StructDef.{StructDef}
use Rattle.shape_data.specs.declared.symbolic.Atom.{Atom}
use Rattle.shape_data.specs.declared.symbolic.Atom.TheVariants.{Points, Seg, Junk}
use Rattle.shape_data.specs.declared.symbolic.Exp.{Exp}
use Rattle.shape_data.specs.declared.symbolic.SymHeap.{SymHeap}
use Rattle.shape_data.specs.Heap.{IsSum}
use Rattle.shape_data.specs.Meaning.{Holds, HoldsAtoms, AreTrueFacts}
use Rattle.sym_parts.specs.Shapes.Symbolic.{beside, emp}
use Rattle.sym_parts.proofs.ShapesLemmas.Atoms.{HoldsAtoms-is_heap}
use Rattle.sym_parts.proofs.ShapesLemmas.Meets.{AreTrueFacts-append, AreTrueFacts-split}
use Rattle.sym_parts.proofs.ShapesLemmas.Sums.{IsSum-sym, IsSum-unit, IsSum-unit_right, IsSum-to_right}
use Rattle.sym_parts.specs.Laws.Each.{EachInAtom, EachInFact, EachInHeap}
use Rattle.sym_parts.specs.Laws.Junks.{is_junk}
use Rattle.sym_matching.specs.declared.matching.Matching.{Matching}
use Rattle.sym_matching.specs.declared.matching.Mode.{Mode}
use Rattle.sym_matching.specs.declared.matching.Mode.TheVariants.{Subtract}
use Rattle.sym_matching.specs.declared.matching.Turned.{Turned}
use Rattle.sym_matching.specs.declared.matching.Turned.TheVariants.{On, Stuck}
use Rattle.sym_matching.specs.declared.matching.Wanted.{Wanted}
use Rattle.sym_matching.specs.Laws.{AgreesOn, FitsAtom, Keeps, KeepsBound, Matched, MatchSplits}
use Rattle.sym_matching.specs.Matches.{argument_variables, has_junk, left_over, matching, rules_of, start_of, want_heap, want_spatial}
use Rattle.sym_matching.specs.Reading.{through}
use Rattle.sym_matching.specs.Steps.{Rules, and_then}
use Rattle.sym_matching.specs.Variables.{with_heap, with_binding}
use Rattle.sym_matching.specs.WantedAtoms.{wanted_from}
use Rattle.sym_matching.specs.WantedFacts.{want_facts, want_all_owed}
use Rattle.sym_matching.proofs.AtomLaws.{AreFitting, HoldWanted, atoms_of, want_atoms-step}
use Rattle.sym_matching.proofs.FactLaws.{want_all_owed-settles, want_facts-settles}
use Rattle.sym_matching.proofs.KeptLaws.{IsKept, IsLogical, AgreesOn-refl, one_of-left}
use Rattle.sym_matching.proofs.ReadingLaws.{Keeps-refl, Keeps-stays, Keeps-trans}
use Rattle.sym_matching.proofs.SettleLaws.{Settles, Settles-then, Stands-settle}
use Rattle.sym_matching.proofs.StandLaws.{AreTrueOwed, Leads, Leads-refl, Misses, Misses-trans, Stands}
use Rattle.sym_matching.proofs.StepLaws.{Step}
use Rattle.sym_matching.proofs.VariableLaws.{binding-within, heap-kept, heap-within}

-- ---- Junk

fit_wanted : (structs : List StructDef) (number : ℕ) (atoms : List Atom) → All (FitsAtom structs) atoms →
    AreFitting structs (wanted_from number atoms)
fit_wanted structs number [] fit = All-nil (λ (w : Wanted). FitsAtom structs w.atom)
fit_wanted structs number (Points at kind fields ∷ atoms) fit =
    All-cons (λ (w : Wanted). FitsAtom structs w.atom) (record { number = number; atom = Points at kind fields })
    (wanted_from (number + 1) atoms) (All-head (FitsAtom structs) (Points at kind fields) atoms fit)
    (fit_wanted structs (number + 1) atoms (All-tail (FitsAtom structs) (Points at kind fields) atoms fit))
fit_wanted structs number (Seg kind link from to ∷ atoms) fit =
    All-cons (λ (w : Wanted). FitsAtom structs w.atom) (record { number = number; atom = Seg kind link from to })
    (wanted_from (number + 1) atoms) tt
    (fit_wanted structs (number + 1) atoms (All-tail (FitsAtom structs) (Seg kind link from to) atoms fit))
fit_wanted structs number (Junk ∷ atoms) fit = fit_wanted structs (number + 1) atoms (All-tail (FitsAtom structs) Junk atoms fit)

-- Junk may hold nothing
pub without_junk : (structs : List StructDef) (s : ℕ → ℤ) (number : ℕ) (atoms : List Atom) (heap : List Cell) →
    HoldsAtoms structs s (atoms_of (wanted_from number atoms)) heap → HoldsAtoms structs s atoms heap
without_junk structs s number [] heap holds = holds
without_junk structs s number (Points at kind fields ∷ atoms) heap holds =
    (holds.0, holds.1, holds.2, holds.3, without_junk structs s (number + 1) atoms holds.1 holds.4)
without_junk structs s number (Seg kind link from to ∷ atoms) heap holds =
    (holds.0, holds.1, holds.2, holds.3, without_junk structs s (number + 1) atoms holds.1 holds.4)
without_junk structs s number (Junk ∷ atoms) heap holds =
    let others = without_junk structs s (number + 1) atoms heap holds in
    ([], heap, IsSum-unit (HoldsAtoms-is_heap structs s atoms others), tt, others)

-- or all that is left
with_junk : (structs : List StructDef) (s : ℕ → ℤ) (number : ℕ) (atoms : List Atom) (whole heap rest : List Cell) →
    list_any is_junk atoms ≡ true → IsSum structs whole heap rest → HoldsAtoms structs s (atoms_of (wanted_from number atoms)) heap →
    HoldsAtoms structs s atoms whole
with_junk structs s number [] whole heap rest has sum holds = cc
with_junk structs s number (Points at kind fields ∷ atoms) whole heap rest has sum holds =
    let split = IsSum-to_right sum holds.2 in
    (holds.0, split.0, split.1, holds.3, with_junk structs s (number + 1) atoms split.0 holds.1 rest has split.2 holds.4)
with_junk structs s number (Seg kind link from to ∷ atoms) whole heap rest has sum holds =
    let split = IsSum-to_right sum holds.2 in
    (holds.0, split.0, split.1, holds.3, with_junk structs s (number + 1) atoms split.0 holds.1 rest has split.2 holds.4)
with_junk structs s number (Junk ∷ atoms) whole heap rest has sum holds =
    (rest, heap, IsSum-sym sum, tt, without_junk structs s (number + 1) atoms heap holds)

-- ---- the stages together

-- nothing is still to come in the end
no_more : (now : SymHeap) (leads : Leads now now) → leads.atoms ≡ []
no_more now leads = append_cancel_left now.spatial leads.atoms [] (sym leads.atoms_are ∙ sym (append-nil now.spatial))

left_alone : (structs : List StructDef) (rules : Rules) (t : ℕ → ℤ) (n : Matching) (all left gone : List Cell) →
    Stands structs rules n.missing t n all left gone → HoldsAtoms structs t n.left left
left_alone structs rules t n all left gone stands =
    subst (λ atoms. HoldsAtoms structs t atoms left)
    (ap (λ ys. n.left ++ ys) (no_more n.missing stands.leads) ∙ append-nil n.left) stands.left_holds

-- the stages of a match from m to n: all that is missing in the end stands beside the heap
pub record Stages (structs : List StructDef) (rules : Rules) (b : SymHeap) (m n : Matching) : Type 0 where
  pub keeps : Keeps rules.flexible m.binding n.binding
  pub misses : Misses rules.mode m.missing n.missing
  pub matched : (s : ℕ → ℤ) (heap : List Cell) → Stands structs rules n.missing s m heap heap [] →
      Matched structs rules b m.binding m.used n s heap

module _ (structs : List StructDef) (rules : Rules) (b : SymHeap) (m n : Matching) where
  -- with Junk the frame is empty
  with_frame : (junk : Bool) → has_junk b ≡ junk → (s t : ℕ → ℤ) (heap own rest : List Cell) → AgreesOn m.used s t →
      Keeps rules.flexible m.binding n.binding → IsSum structs heap own rest →
      HoldsAtoms structs (through n.binding t) (atoms_of (wanted_from 0 b.spatial)) own →
      AreTrueFacts (through n.binding t) b.pure → AreTrueFacts t (rules.facts ++ n.missing.pure) → HoldsAtoms structs t n.left rest →
      Matched structs rules b m.binding m.used n s heap
  with_frame true has s t heap own rest agrees keeps sum wanted facts frame_facts left =
      let none : left_over b n ≡ [] = rw has refl in
      record {
        t = t;
        own = heap;
        rest = [];
        agrees = agrees;
        keeps = keeps;
        sum = IsSum-unit_right sum.is_heap;
        wanted = record { facts = facts; atoms = with_junk structs (through n.binding t) 0 b.spatial heap own rest has sum wanted };
        frame = record { facts = frame_facts; atoms = rw none refl };
      }
  with_frame false has s t heap own rest agrees keeps sum wanted facts frame_facts left =
      let all : left_over b n ≡ n.left = rw has refl in
      record {
        t = t;
        own = own;
        rest = rest;
        agrees = agrees;
        keeps = keeps;
        sum = sum;
        wanted = record { facts = facts; atoms = without_junk structs (through n.binding t) 0 b.spatial own wanted };
        frame = record { facts = frame_facts; atoms = rw all left };
      }

  staged : (k : Matching) → Step structs rules m k (HoldWanted structs (wanted_from 0 b.spatial)) →
      Settles structs rules k n (λ s later. AreTrueOwed s later k.owed × AreTrueFacts (through later s) b.pure) → Stages structs rules b m n
  staged k step both = record {
    keeps = Keeps-trans rules.flexible m.binding k.binding n.binding step.keeps both.keeps;
    misses = Misses-trans rules.mode m.missing k.missing n.missing step.misses both.misses;
    matched = matched;
  }
    where
      matched : (s : ℕ → ℤ) (heap : List Cell) → Stands structs rules n.missing s m heap heap [] →
          Matched structs rules b m.binding m.used n s heap
      matched s heap begins =
          let goes = step.goes n.missing s heap heap [] both.misses.grows begins in
          let told =
          both.told n.missing goes.t heap goes.rest goes.taken (Leads-refl n.missing) goes.stands n.binding
          (Keeps-refl rules.flexible n.binding) in
          let stands =
          Stands-settle structs rules n.missing goes.t k n heap goes.rest goes.taken
          (λ s later. AreTrueOwed s later k.owed × AreTrueFacts (through later s) b.pure) both (Leads-refl n.missing) goes.stands in
          let left : HoldsAtoms structs goes.t n.left goes.rest = left_alone structs rules goes.t n heap goes.rest goes.taken stands in
          with_frame (has_junk b) refl s goes.t heap goes.own goes.rest goes.agrees
          (Keeps-trans rules.flexible m.binding k.binding n.binding step.keeps both.keeps) goes.sum
          (goes.wanted goes.t n.binding (AgreesOn-refl k.used goes.t) both.keeps told.0) told.1
          (AreTrueFacts-append goes.t rules.facts n.missing.pure stands.facts stands.missing) left

  pub want_heap-stages : All (FitsAtom structs) b.spatial → want_heap rules b m ≡ On n → Stages structs rules b m n
  want_heap-stages fits h = after_atoms (want_spatial rules b m) refl h
    where
      after_owed : (k : Matching) → Step structs rules m k (HoldWanted structs (wanted_from 0 b.spatial)) → (r : Turned) →
          want_all_owed rules k.owed k ≡ r → and_then (want_facts rules (length b.spatial) b.pure) r ≡ On n → Stages structs rules b m n
      after_owed k step (On l) e f =
          staged k step
          (Settles-then structs rules k l n (λ s later. AreTrueOwed s later k.owed) (λ s later. AreTrueFacts (through later s) b.pure)
          (want_all_owed-settles structs rules k.owed k l e) (want_facts-settles structs rules (length b.spatial) b.pure l n f))
      after_owed k step (Stuck number) e f = cc

      after_atoms : (r : Turned) → want_spatial rules b m ≡ r →
          and_then (want_facts rules (length b.spatial) b.pure) (and_then (λ k. want_all_owed rules k.owed k) r) ≡ On n →
          Stages structs rules b m n
      after_atoms (On k) e f =
          after_owed k
          (want_atoms-step structs rules (length (wanted_from 0 b.spatial)) (wanted_from 0 b.spatial) m k refl
          (fit_wanted structs 0 b.spatial fits) e) (want_all_owed rules k.owed k) refl f
      after_atoms (Stuck number) e f = cc

-- ---- from the start

-- what is missing in the end, beside the heap, is all there is at first
pub Stands-start : (structs : List StructDef) (mode : Mode) (a : SymHeap) (bound : List (ℕ × Exp)) (flexible used : List ℕ) (next : ℕ)
    (last : SymHeap) (s : ℕ → ℤ) (heap : List Cell) → EachInHeap (IsKept used) a → EachInHeap IsLogical last →
    Holds structs s heap (beside a last) → Stands structs (rules_of mode a flexible) last s (start_of a bound used next) heap heap []
Stands-start structs mode a bound flexible used next last s heap kept logical holds =
    let facts = AreTrueFacts-split s a.pure last.pure holds.facts in record {
      sum = IsSum-unit_right (HoldsAtoms-is_heap structs s (a.spatial ++ last.spatial) holds.atoms);
      facts = facts.0;
      missing = facts.1;
      leads = record { facts = last.pure; facts_are = refl; atoms = last.spatial; atoms_are = refl };
      left_holds = holds.atoms;
      gone_holds = refl;
      facts_kept = kept.facts;
      left_kept = kept.atoms;
      gone_kept = All-nil (EachInAtom (IsKept used));
      last_logical = logical;
    }

pub emp_logical : EachInHeap IsLogical emp
emp_logical = record { facts = All-nil (EachInFact IsLogical); atoms = All-nil (EachInAtom IsLogical) }

module _ (structs : List StructDef) (mode : Mode) (a b : SymHeap) (bound : List (ℕ × Exp)) (flexible avoid : List ℕ) (next : ℕ)
    (n : Matching) (fits : All (FitsAtom structs) b.spatial) (h : matching mode a b bound flexible avoid next ≡ On n) where
  match_stages : Stages structs (rules_of mode a flexible) b (start_of a bound (argument_variables a b bound flexible ++ avoid) next) n
  match_stages =
      want_heap-stages structs (rules_of mode a flexible) b
      (start_of a bound (argument_variables a b bound flexible ++ avoid) next) n fits h

  pub argument-kept : EachInHeap (IsKept (argument_variables a b bound flexible ++ avoid)) a
  argument-kept =
      heap-kept a [] (argument_variables a b bound flexible ++ avoid) (λ x g. one_of-left (argument_variables a b bound flexible) avoid x
      (one_of-left (with_binding (with_heap (with_heap [] a) b) bound) flexible x
      (binding-within bound (with_heap (with_heap [] a) b) x (heap-within b (with_heap [] a) x g))))

  pub missing-logical : EachInHeap IsLogical n.missing
  missing-logical = match_stages.misses.logical emp_logical

  pub binding-keeps : KeepsBound bound flexible n.binding
  binding-keeps = record { keeps = match_stages.keeps; stays = Keeps-stays flexible bound n.binding match_stages.keeps }

  pub missing-nothing : mode ≡ Subtract → n.missing ≡ emp
  missing-nothing = match_stages.misses.nothing

  pub match-splits : (s : ℕ → ℤ) (heap : List Cell) → Holds structs s heap (beside a n.missing) →
      Matched structs (rules_of mode a flexible) b bound (argument_variables a b bound flexible ++ avoid) n s heap
  match-splits s heap holds =
      match_stages.matched s heap
      (Stands-start structs mode a bound flexible
      (argument_variables a b bound flexible ++ avoid) next n.missing s heap argument-kept missing-logical holds)

pub match_splits : MatchSplits
match_splits structs mode a b bound flexible avoid next n fits h = match-splits structs mode a b bound flexible avoid next n fits h
