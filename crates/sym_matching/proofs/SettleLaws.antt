-- Steps that take no part of the heap, under an assignment that stays; and missing facts.
use Rattle.std.specs.Prelude.{◌≡◌, ℕ, ℤ, Bool, true, false, ◌||◌, List, [], ◌∷◌, ◌++◌}
use Rattle.std.proofs.Common.{refl, sym, ap, subst, ◌∙◌}
use Rattle.std.proofs.lemmas.List.{append-nil}
use Rattle.std.proofs.lemmas.List.Elements.{All-push}
use Rattle.shape_data.specs.declared.machine.Cell.{Cell}
use Rattle.shape_data.specs.declared.program.StructDef.{StructDef}
use Rattle.shape_data.specs.declared.symbolic.Exp.{Exp}
use Rattle.shape_data.specs.declared.symbolic.Exp.TheVariants.{Var, Const}
use Rattle.shape_data.specs.declared.symbolic.Fact.{Fact}
use Rattle.shape_data.specs.declared.symbolic.SymHeap.{SymHeap}
use Rattle.shape_data.specs.Heap.{IsSum}
use Rattle.shape_data.specs.Meaning.{value, IsTrueFact, AreTrueFacts, HoldsAtoms}
use Rattle.sym_parts.proofs.ShapesLemmas.Atoms.{HoldsAtoms-append, HoldsAtoms-split}
use Rattle.sym_parts.proofs.ShapesLemmas.Meets.{AreTrueFacts-append, AreTrueFacts-split}
use Rattle.sym_parts.proofs.ShapesLemmas.Sums.{IsSum-unit, IsSum-empty_left, IsSum-sym, IsSum-to_right}
use Rattle.sym_parts.specs.Laws.Each.{EachInFact}
use Rattle.sym_pure.specs.Sources.{differs}
use Rattle.sym_pure.proofs.SourcesLaws.{differs_is_sound}
use Rattle.sym_matching.specs.declared.matching.Matching.{Matching}
use Rattle.sym_matching.specs.declared.matching.Mode.TheVariants.{Abduce}
use Rattle.sym_matching.specs.declared.matching.Turned.TheVariants.{On, Stuck}
use Rattle.sym_matching.specs.Laws.{Keeps}
use Rattle.sym_matching.specs.Reading.{is_unbound, through}
use Rattle.sym_matching.specs.Steps.{Rules, bind, contradicts, unless_contradiction, whole, with_missing_fact}
use Rattle.sym_matching.proofs.KeptLaws.{IsLogical, AgreesOn-refl}
use Rattle.sym_matching.proofs.ReadingLaws.{Keeps-refl, Keeps-trans, Keeps-bind, value-through}
use Rattle.sym_matching.proofs.StandLaws.{Leads, Leads-trans, Misses, Misses-refl, Misses-trans, Stands, Stands-same}
use Rattle.sym_matching.proofs.StepLaws.{Apart, Both, Goes, Part, Step, Step-like, Step-then}

pub record Settles (structs : List StructDef) (rules : Rules) (m n : Matching) (Told : (ℕ → ℤ) → List (ℕ × Exp) → Type 0) : Type 0 where
  pub left : n.left ≡ m.left
  pub gone : n.gone ≡ m.gone
  pub used : n.used ≡ m.used
  pub owed : n.owed ≡ m.owed
  pub atoms : n.missing.spatial ≡ m.missing.spatial
  pub keeps : Keeps rules.flexible m.binding n.binding
  pub misses : Misses rules.mode m.missing n.missing
  pub told : (last : SymHeap) (s : ℕ → ℤ) (all left gone : List Cell) → Leads n.missing last → Stands structs rules last s m all left gone →
      (later : List (ℕ × Exp)) → Keeps rules.flexible n.binding later → Told s later

-- the match goes on as it stands
pub unless-on : (rules : Rules) (number : ℕ) (m n : Matching) → unless_contradiction rules number m ≡ On n → n ≡ m
unless-on rules number m n h = by_test (contradicts (whole rules m) || contradicts m.missing) refl
  where
    by_test : (b : Bool) → (contradicts (whole rules m) || contradicts m.missing) ≡ b → n ≡ m
    by_test true e = let bad : Stuck number ≡ On n = rw e at h in cc
    by_test false e = let is : On m ≡ On n = rw e at h in cc

-- a missing fact is true in the end
pub missing_true : (now last : SymHeap) (fact : Fact) (s : ℕ → ℤ) →
    Leads (record { pure = now.pure ++ fact ∷ []; spatial = now.spatial }) last → AreTrueFacts s last.pure → IsTrueFact s fact
missing_true now last fact s leads h =
    let all : AreTrueFacts s ((now.pure ++ fact ∷ []) ++ leads.facts) = rw leads.facts_are at h in
    (AreTrueFacts-split s now.pure (fact ∷ []) (AreTrueFacts-split s (now.pure ++ fact ∷ []) leads.facts all).0).1.0

module _ (structs : List StructDef) (rules : Rules) where
  pub Stands-settle : (last : SymHeap) (s : ℕ → ℤ) (m n : Matching) (all left gone : List Cell) (Told : (ℕ → ℤ) → List (ℕ × Exp) → Type 0) →
      Settles structs rules m n Told → Leads n.missing last → Stands structs rules last s m all left gone →
      Stands structs rules last s n all left gone
  Stands-settle last s m n all left gone Told step leads stands =
      Stands-same structs rules last s m n all left gone step.left step.gone step.used step.atoms leads stands

  pub Settles-none : (m : Matching) (Told : (ℕ → ℤ) → List (ℕ × Exp) → Type 0) →
      ((last : SymHeap) (s : ℕ → ℤ) (all left gone : List Cell) → Stands structs rules last s m all left gone → (later : List (ℕ × Exp)) →
      Keeps rules.flexible m.binding later → Told s later) → Settles structs rules m m Told
  Settles-none m Told told = record {
    left = refl;
    gone = refl;
    used = refl;
    owed = refl;
    atoms = refl;
    keeps = Keeps-refl rules.flexible m.binding;
    misses = Misses-refl rules.mode m.missing;
    told = λ last s all left gone leads stands later keeps. told last s all left gone stands later keeps;
  }

  pub Settles-then : (m n k : Matching) (First Second : (ℕ → ℤ) → List (ℕ × Exp) → Type 0) → Settles structs rules m n First →
      Settles structs rules n k Second → Settles structs rules m k (λ s later. First s later × Second s later)
  Settles-then m n k First Second one other = record {
    left = other.left ∙ one.left;
    gone = other.gone ∙ one.gone;
    used = other.used ∙ one.used;
    owed = other.owed ∙ one.owed;
    atoms = other.atoms ∙ one.atoms;
    keeps = Keeps-trans rules.flexible m.binding n.binding k.binding one.keeps other.keeps;
    misses = Misses-trans rules.mode m.missing n.missing k.missing one.misses other.misses;
    told = told;
  }
    where
      told : (last : SymHeap) (s : ℕ → ℤ) (all left gone : List Cell) → Leads k.missing last → Stands structs rules last s m all left gone →
          (later : List (ℕ × Exp)) → Keeps rules.flexible k.binding later → First s later × Second s later
      told last s all left gone leads stands later keeps =
          let before : Leads n.missing last = Leads-trans n.missing k.missing last other.misses.grows leads in (
            one.told last s all left gone before stands later (Keeps-trans rules.flexible n.binding k.binding later other.keeps keeps),
            other.told last s all left gone leads (Stands-settle last s m n all left gone First one before stands) later keeps,
          )

  pub Settles-like : (m n : Matching) (First Second : (ℕ → ℤ) → List (ℕ × Exp) → Type 0) →
      ((s : ℕ → ℤ) (later : List (ℕ × Exp)) → AreTrueFacts s rules.facts → Keeps rules.flexible n.binding later → First s later →
      Second s later) →
      Settles structs rules m n First → Settles structs rules m n Second
  Settles-like m n First Second to step = record {
    left = step.left;
    gone = step.gone;
    used = step.used;
    owed = step.owed;
    atoms = step.atoms;
    keeps = step.keeps;
    misses = step.misses;
    told =
        λ last s all left gone leads stands later keeps. to s later stands.facts keeps
        (step.told last s all left gone leads stands later keeps);
  }

  pub Settles-bind : (m : Matching) (e f : Exp) → is_unbound rules.flexible m.binding e ≡ true →
      Settles structs rules m (bind m e f) (λ s later. value (through later s) e ≡ value s f)
  Settles-bind m (Const n) f unbound = cc
  Settles-bind m (Var x) f unbound =
      let bound = Keeps-bind rules.flexible m.binding x f unbound in
      record {
        left = refl;
        gone = refl;
        used = refl;
        owed = refl;
        atoms = refl;
        keeps = bound.0;
        misses = Misses-refl rules.mode m.missing;
        told = λ last s all left gone leads stands later keeps. value-through later s (Var x)
            ∙ ap (value s) ((keeps (Var x) bound.1).1 ∙ bound.2);
      }

  pub Settles-miss : (m : Matching) (fact : Fact) → rules.mode ≡ Abduce → EachInFact IsLogical fact →
      Settles structs rules m (with_missing_fact m fact) (λ s later. IsTrueFact s fact)
  Settles-miss m fact mode logical = record {
    left = refl;
    gone = refl;
    used = refl;
    owed = refl;
    atoms = refl;
    keeps = Keeps-refl rules.flexible m.binding;
    misses = record {
      grows = record { facts = fact ∷ []; facts_are = refl; atoms = []; atoms_are = sym (append-nil m.missing.spatial) };
      logical = λ h. record { facts = All-push (EachInFact IsLogical) m.missing.pure fact h.facts logical; atoms = h.atoms };
      nothing = λ other. cc;
    };
    told = λ last s all left gone leads stands later keeps. missing_true m.missing last fact s leads stands.missing;
  }

  -- such a step as one that takes the empty part
  pub Step-settle : (m n : Matching) (Told : (ℕ → ℤ) → List (ℕ × Exp) → Type 0) → Settles structs rules m n Told →
      Step structs rules m n (λ u later own. (own ≡ []) × Unit {0})
  Step-settle m n Told step = record {
    grows = rw step.used (λ x h. h);
    keeps = step.keeps;
    owes = λ u later h. rw step.owed at h;
    misses = step.misses;
    goes = goes;
  }
    where
      goes : (last : SymHeap) (s : ℕ → ℤ) (all left gone : List Cell) → Leads n.missing last → Stands structs rules last s m all left gone →
          Goes structs rules last s m n all left (λ u later own. (own ≡ []) × Unit {0})
      goes last s all left gone leads stands = record {
        t = s;
        own = [];
        rest = left;
        taken = gone;
        agrees = AgreesOn-refl m.used s;
        sum = IsSum-unit stands.sum.left_is_heap;
        stands = Stands-settle last s m n all left gone Told step leads stands;
        wanted = λ u later agree keeps h. (refl, tt);
      }

  -- after a step that takes the empty part, the other's part is the whole part
  pub Step-after_told : (m n k : Matching) (Told : (ℕ → ℤ) → List (ℕ × Exp) → Type 0) (Wanted : Part) →
      Step structs rules m n (λ u later own. (own ≡ []) × Told u later) → Step structs rules n k Wanted →
      Step structs rules m k (λ u later own. Told u later × Wanted u later own)
  Step-after_told m n k Told Wanted one other =
      Step-like structs rules m k (Both structs rules (λ u later own. (own ≡ []) × Told u later) Wanted)
      (λ u later own. Told u later × Wanted u later own)
      (λ u later own facts keeps heap both. (both.3.1, alone u later own both))
      (Step-then structs rules m n k (λ u later own. (own ≡ []) × Told u later) Wanted one other)
    where
      alone : (u : ℕ → ℤ) (later : List (ℕ × Exp)) (own : List Cell) →
          Both structs rules (λ u later own. (own ≡ []) × Told u later) Wanted u later own → Wanted u later own
      alone u later own both =
          let sum : IsSum structs own [] both.1 = rw both.3.0 at both.2 in
          subst (λ h. Wanted u later h) (sym (IsSum-empty_left sum)) both.4

  pub Step-after : (m n k : Matching) (Told : (ℕ → ℤ) → List (ℕ × Exp) → Type 0) (Wanted : Part) →
      Step structs rules m n (λ u later own. (own ≡ []) × Told u later) → Step structs rules n k Wanted → Step structs rules m k Wanted
  Step-after m n k Told Wanted one other =
      Step-like structs rules m k (λ u later own. Told u later × Wanted u later own) Wanted (λ u later own facts keeps heap both. both.1)
      (Step-after_told m n k Told Wanted one other)

  -- ---- what differs in the whole heap

  pub differs-apart : (m : Matching) (e f : Exp) → differs (whole rules m) e f ≡ true → Apart structs rules m e f
  differs-apart m e f h last s all left gone stands =
      let facts : AreTrueFacts s (rules.facts ++ m.missing.pure) =
      AreTrueFacts-append s rules.facts m.missing.pure stands.facts
      (AreTrueFacts-split s m.missing.pure stands.leads.facts (rw stands.leads.facts_are at stands.missing)).0 in
      let parts = HoldsAtoms-split structs s m.left stands.leads.atoms stands.left_holds in
      let turned = IsSum-to_right stands.sum (IsSum-sym parts.2) in
      let holds : HoldsAtoms structs s (m.left ++ m.gone) turned.0 =
      HoldsAtoms-append structs s m.left m.gone turned.2 parts.3 stands.gone_holds in
      differs_is_sound structs s turned.0 (whole rules m) e f (record { facts = facts; atoms = holds }) h
