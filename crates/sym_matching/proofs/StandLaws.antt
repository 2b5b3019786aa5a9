-- Where a match stands: what its parts hold of, and steps that leave the parts of the heap as they are.
use Rattle.std.specs.Prelude.{◌≡◌, ℕ, ℤ, Bool, true, false, List, [], ◌∷◌, ◌++◌, length, map, All}
use Rattle.std.proofs.Common.{refl, sym, ap, ap₂, ◌∙◌, append_assoc}
use Rattle.std.proofs.lemmas.List.{append_cancel_left, append-nil}
use Rattle.std.proofs.lemmas.List.Elements.{All-append}
use Rattle.shape_data.specs.declared.machine.Cell.{Cell}
use Rattle.shape_data.specs.declared.program.StructDef.{StructDef}
use Rattle.shape_data.specs.declared.symbolic.Atom.{Atom}
use Rattle.shape_data.specs.declared.symbolic.Exp.{Exp}
use Rattle.shape_data.specs.declared.symbolic.Exp.TheVariants.{Var, Const}
use Rattle.shape_data.specs.declared.symbolic.Fact.{Fact}
use Rattle.shape_data.specs.declared.symbolic.SymHeap.{SymHeap}
use Rattle.shape_data.specs.Heap.{IsSum}
use Rattle.shape_data.specs.Meaning.{value, AreTrueFacts, HoldsAtoms}
use Rattle.sym_parts.specs.Laws.Each.{EachInAtom, EachInFact, EachInHeap}
use Rattle.sym_matching.specs.declared.matching.Matching.{Matching}
use Rattle.sym_matching.specs.declared.matching.Mode.{Mode}
use Rattle.sym_matching.specs.declared.matching.Mode.TheVariants.{Subtract}
use Rattle.sym_matching.specs.declared.matching.Owed.{Owed}
use Rattle.sym_matching.specs.Laws.{AgreesOn, Keeps}
use Rattle.sym_matching.specs.Reading.{is_unbound, through}
use Rattle.sym_matching.specs.Steps.{Rules, bind, bind_new, owe}
use Rattle.sym_matching.specs.WantedCells.{take_field, take_fields}
use Rattle.sym_matching.proofs.KeptLaws.{IsKept, IsLogical, AreTrueFacts-alike, HoldsAtoms-alike, All-right, each-atoms, each-facts}
use Rattle.sym_matching.proofs.KeptLaws.{logical-kept, value-kept}
use Rattle.sym_matching.proofs.ReadingLaws.{Keeps-refl, Keeps-trans, Keeps-bind, value-through}

-- the facts that fields left over are true
abbrev pub AreTrueOwed : (ℕ → ℤ) → List (ℕ × Exp) → List Owed → Type 0
AreTrueOwed s binding [] = Unit {0}
AreTrueOwed s binding (one ∷ owed) = (value (through binding s) one.want ≡ value s one.have) × AreTrueOwed s binding owed

-- wanted expressions have the values of those that are there, as far as both lists go
abbrev pub AreSame : (ℕ → ℤ) → List (ℕ × Exp) → List Exp → List Exp → Type 0
AreSame u later [] haves = Unit {0}
AreSame u later (want ∷ wants) [] = Unit {0}
AreSame u later (want ∷ wants) (have ∷ haves) = (value (through later u) want ≡ value u have) × AreSame u later wants haves

pub same_values : (u : ℕ → ℤ) (later : List (ℕ × Exp)) (wants haves : List Exp) → length wants ≡ length haves →
    AreSame u later wants haves → map (value (through later u)) wants ≡ map (value u) haves
same_values u later [] [] lengths h = refl
same_values u later [] (have ∷ haves) lengths h = cc
same_values u later (want ∷ wants) [] lengths h = cc
same_values u later (want ∷ wants) (have ∷ haves) lengths h =
    let others : length wants ≡ length haves = cc in
    ap₂ (λ v vs. v ∷ vs) h.0 (same_values u later wants haves others h.1)

-- ---- what is missing

-- the second heap begins with the facts and the atoms of the first
pub record Leads (now later : SymHeap) : Type 0 where
  pub facts : List Fact
  pub facts_are : later.pure ≡ now.pure ++ facts
  pub atoms : List Atom
  pub atoms_are : later.spatial ≡ now.spatial ++ atoms

pub Leads-refl : (now : SymHeap) → Leads now now
Leads-refl now = record { facts = []; facts_are = sym (append-nil now.pure); atoms = []; atoms_are = sym (append-nil now.spatial) }

pub Leads-trans : (now later last : SymHeap) → Leads now later → Leads later last → Leads now last
Leads-trans now later last one other = record {
  facts = one.facts ++ other.facts;
  facts_are = other.facts_are ∙ ap (λ fs. fs ++ other.facts) one.facts_are ∙ append_assoc now.pure one.facts other.facts;
  atoms = one.atoms ++ other.atoms;
  atoms_are = other.atoms_are ∙ ap (λ fs. fs ++ other.atoms) one.atoms_are ∙ append_assoc now.spatial one.atoms other.atoms;
}

-- what is missing grows, stays logical, and does not grow in subtraction
pub record Misses (mode : Mode) (now later : SymHeap) : Type 0 where
  pub grows : Leads now later
  pub logical : EachInHeap IsLogical now → EachInHeap IsLogical later
  pub nothing : mode ≡ Subtract → later ≡ now

pub Misses-refl : (mode : Mode) (now : SymHeap) → Misses mode now now
Misses-refl mode now = record { grows = Leads-refl now; logical = λ h. h; nothing = λ h. refl }

pub Misses-trans : (mode : Mode) (now later last : SymHeap) → Misses mode now later → Misses mode later last → Misses mode now last
Misses-trans mode now later last one other = record {
  grows = Leads-trans now later last one.grows other.grows;
  logical = λ h. other.logical (one.logical h);
  nothing = λ h. other.nothing h ∙ one.nothing h;
}

-- ---- where a match stands

-- all of the heap is the sum of what is left, with the missing atoms still to come, and of what was taken; `last` is what is
-- missing in the end
pub record Stands (structs : List StructDef) (rules : Rules) (last : SymHeap) (s : ℕ → ℤ) (m : Matching)
    (all left gone : List Cell) : Type 0 where
  pub sum : IsSum structs all left gone
  pub facts : AreTrueFacts s rules.facts
  pub missing : AreTrueFacts s last.pure
  pub leads : Leads m.missing last
  pub left_holds : HoldsAtoms structs s (m.left ++ leads.atoms) left
  pub gone_holds : HoldsAtoms structs s m.gone gone
  pub facts_kept : All (EachInFact (IsKept m.used)) rules.facts
  pub left_kept : All (EachInAtom (IsKept m.used)) m.left
  pub gone_kept : All (EachInAtom (IsKept m.used)) m.gone
  pub last_logical : EachInHeap IsLogical last

-- the atoms still to come are logical
pub come_logical : (now last : SymHeap) (leads : Leads now last) → EachInHeap IsLogical last → All (EachInAtom IsLogical) leads.atoms
come_logical now last leads h = All-right (EachInAtom IsLogical) now.spatial leads.atoms (rw leads.atoms_are at h.atoms)

-- two ways in which the same heap begins leave the same
pub same_atoms : (now also last : SymHeap) (one : Leads now last) (other : Leads also last) → also.spatial ≡ now.spatial →
    one.atoms ≡ other.atoms
same_atoms now also last one other same =
    append_cancel_left now.spatial one.atoms other.atoms (sym one.atoms_are ∙ other.atoms_are ∙ ap (λ xs. xs ++ other.atoms) same)

-- what stands under an assignment stands under each that agrees on what is in use
pub Stands-agree : (structs : List StructDef) (rules : Rules) (last : SymHeap) (s t : ℕ → ℤ) (m : Matching) (all left gone : List Cell) →
    AgreesOn m.used s t → Stands structs rules last s m all left gone →
    Stands structs rules last t m all left gone
Stands-agree structs rules last s t m all left gone agrees stands =
    let same : (e : Exp) → IsKept m.used e → value t e ≡ value s e = value-kept m.used s t agrees in
    let come : All (EachInAtom (IsKept m.used)) stands.leads.atoms =
    each-atoms IsLogical (IsKept m.used) (logical-kept m.used) stands.leads.atoms
    (come_logical m.missing last stands.leads stands.last_logical) in
    record {
      sum = stands.sum;
      facts = AreTrueFacts-alike (IsKept m.used) s t same rules.facts stands.facts_kept stands.facts;
      missing =
          AreTrueFacts-alike (IsKept m.used) s t same last.pure
          (each-facts IsLogical (IsKept m.used) (logical-kept m.used) last.pure stands.last_logical.facts) stands.missing;
      leads = stands.leads;
      left_holds =
          HoldsAtoms-alike (IsKept m.used) s t same structs (m.left ++ stands.leads.atoms) left
          (All-append (EachInAtom (IsKept m.used)) m.left stands.leads.atoms stands.left_kept come) stands.left_holds;
      gone_holds = HoldsAtoms-alike (IsKept m.used) s t same structs m.gone gone stands.gone_kept stands.gone_holds;
      facts_kept = stands.facts_kept;
      left_kept = stands.left_kept;
      gone_kept = stands.gone_kept;
      last_logical = stands.last_logical;
    }

-- ---- steps that change the binding or what is owed alone

-- what such a step tells of each later binding and assignment
pub record Passes (rules : Rules) (m n : Matching) (Told : (ℕ → ℤ) → List (ℕ × Exp) → Type 0) : Type 0 where
  pub left : n.left ≡ m.left
  pub gone : n.gone ≡ m.gone
  pub missing : n.missing ≡ m.missing
  pub used : n.used ≡ m.used
  pub keeps : Keeps rules.flexible m.binding n.binding
  pub owes : (u : ℕ → ℤ) (later : List (ℕ × Exp)) → AreTrueOwed u later n.owed → AreTrueOwed u later m.owed
  pub told : (u : ℕ → ℤ) (later : List (ℕ × Exp)) → Keeps rules.flexible n.binding later → AreTrueOwed u later n.owed → Told u later

module _ (rules : Rules) where
  pub Passes-none : (m : Matching) → Passes rules m m (λ u later. Unit {0})
  Passes-none m =
      record {
        left = refl;
        gone = refl;
        missing = refl;
        used = refl;
        keeps = Keeps-refl rules.flexible m.binding;
        owes = λ u later h. h;
        told = λ u later keeps h. tt;
      }

  pub Passes-then : (m n k : Matching) (First Second : (ℕ → ℤ) → List (ℕ × Exp) → Type 0) → Passes rules m n First →
      Passes rules n k Second → Passes rules m k (λ u later. First u later × Second u later)
  Passes-then m n k First Second one other = record {
    left = other.left ∙ one.left;
    gone = other.gone ∙ one.gone;
    missing = other.missing ∙ one.missing;
    used = other.used ∙ one.used;
    keeps = Keeps-trans rules.flexible m.binding n.binding k.binding one.keeps other.keeps;
    owes = λ u later h. one.owes u later (other.owes u later h);
    told =
        λ u later keeps h. (
          one.told u later (Keeps-trans rules.flexible n.binding k.binding later other.keeps keeps)
              (other.owes u later h),
          other.told u later keeps h,
        );
  }

  pub Passes-like : (m n : Matching) (First Second : (ℕ → ℤ) → List (ℕ × Exp) → Type 0) →
      ((u : ℕ → ℤ) (later : List (ℕ × Exp)) → Keeps rules.flexible n.binding later → First u later → Second u later) →
      Passes rules m n First → Passes rules m n Second
  Passes-like m n First Second to one = record {
    left = one.left;
    gone = one.gone;
    missing = one.missing;
    used = one.used;
    keeps = one.keeps;
    owes = one.owes;
    told = λ u later keeps h. to u later keeps (one.told u later keeps h);
  }

  pub Passes-bind : (m : Matching) (e f : Exp) → is_unbound rules.flexible m.binding e ≡ true →
      Passes rules m (bind m e f) (λ u later. value (through later u) e ≡ value u f)
  Passes-bind m (Const n) f unbound = cc
  Passes-bind m (Var x) f unbound =
      let bound = Keeps-bind rules.flexible m.binding x f unbound in
      record {
        left = refl;
        gone = refl;
        missing = refl;
        used = refl;
        keeps = bound.0;
        owes = λ u later h. h;
        told = λ u later keeps h. value-through later u (Var x) ∙ ap (value u) ((keeps (Var x) bound.1).1 ∙ bound.2);
      }

  pub Passes-bind_new : (m : Matching) (e : Exp) → is_unbound rules.flexible m.binding e ≡ true →
      Passes rules m (bind_new m e) (λ u later. value (through later u) e ≡ value u (Var m.next))
  Passes-bind_new m e unbound =
      let bound = Passes-bind m e (Var m.next) unbound in
      record {
        left = bound.left;
        gone = bound.gone;
        missing = bound.missing;
        used = bound.used;
        keeps = bound.keeps;
        owes = bound.owes;
        told = bound.told;
      }

owed_before : (s : ℕ → ℤ) (binding : List (ℕ × Exp)) (owed : List Owed) (one : Owed) → AreTrueOwed s binding (owed ++ one ∷ []) →
    AreTrueOwed s binding owed
owed_before s binding [] one h = tt
owed_before s binding (first ∷ owed) one h = (h.0, owed_before s binding owed one h.1)

owed_last : (s : ℕ → ℤ) (binding : List (ℕ × Exp)) (owed : List Owed) (one : Owed) → AreTrueOwed s binding (owed ++ one ∷ []) →
    value (through binding s) one.want ≡ value s one.have
owed_last s binding [] one h = h.0
owed_last s binding (first ∷ owed) one h = owed_last s binding owed one h.1

module _ (rules : Rules) (number : ℕ) where
  Passes-owe : (m : Matching) (want have : Exp) →
      Passes rules m (owe m number want have) (λ u later. value (through later u) want ≡ value u have)
  Passes-owe m want have = record {
    left = refl;
    gone = refl;
    missing = refl;
    used = refl;
    keeps = Keeps-refl rules.flexible m.binding;
    owes = λ u later h. owed_before u later m.owed (record { number = number; want = want; have = have }) h;
    told = λ u later keeps h. owed_last u later m.owed (record { number = number; want = want; have = have }) h;
  }

  Passes-field : (want have : Exp) (m : Matching) →
      Passes rules m (take_field rules number want have m) (λ u later. value (through later u) want ≡ value u have)
  Passes-field want have m = by_test (is_unbound rules.flexible m.binding want) refl
    where
      by_test : (b : Bool) → is_unbound rules.flexible m.binding want ≡ b →
          Passes rules m (take_field rules number want have m) (λ u later. value (through later u) want ≡ value u have)
      by_test true e = rw e (Passes-bind rules m want have e)
      by_test false e = rw e (Passes-owe m want have)

  pub Passes-fields : (wants haves : List Exp) (m : Matching) →
      Passes rules m (take_fields rules number wants haves m) (λ u later. AreSame u later wants haves)
  Passes-fields [] haves m = Passes-none rules m
  Passes-fields (want ∷ wants) [] m = Passes-none rules m
  Passes-fields (want ∷ wants) (have ∷ haves) m =
      let n : Matching = take_field rules number want have m in
      Passes-then rules m n (take_fields rules number wants haves n) (λ u later. value (through later u) want ≡ value u have)
      (λ u later. AreSame u later wants haves) (Passes-field want have m) (Passes-fields wants haves n)

module _ (structs : List StructDef) (rules : Rules) (last : SymHeap) (s : ℕ → ℤ) (m n : Matching) (all left gone : List Cell) where
  -- where nothing was taken, the parts stay
  pub Stands-same : n.left ≡ m.left → n.gone ≡ m.gone → n.used ≡ m.used → n.missing.spatial ≡ m.missing.spatial → Leads n.missing last →
      Stands structs rules last s m all left gone → Stands structs rules last s n all left gone
  Stands-same same_left same_gone same_used same_missing leads stands = record {
    sum = stands.sum;
    facts = stands.facts;
    missing = stands.missing;
    leads = leads;
    left_holds = rw (same_left, ← same_atoms m.missing n.missing last stands.leads leads same_missing) stands.left_holds;
    gone_holds = rw same_gone stands.gone_holds;
    facts_kept = rw same_used stands.facts_kept;
    left_kept = rw (same_left, same_used) stands.left_kept;
    gone_kept = rw (same_gone, same_used) stands.gone_kept;
    last_logical = stands.last_logical;
  }

  pub Stands-pass : (Told : (ℕ → ℤ) → List (ℕ × Exp) → Type 0) → Passes rules m n Told → Leads n.missing last →
      Stands structs rules last s m all left gone → Stands structs rules last s n all left gone
  Stands-pass Told pass leads = Stands-same pass.left pass.gone pass.used (ap (λ (h : SymHeap). h.spatial) pass.missing) leads
