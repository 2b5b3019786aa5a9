-- Steps that take a part of the heap, and how they are put together.
use Rattle.std.specs.Prelude.{◌≡◌, ◌≢◌, ℕ, zero, suc, ℤ, pos, List, [], ◌∷◌, ◌++◌, length, map, All, slice_get, slice_index_or}
use Rattle.std.proofs.Common.{refl, sym, ap, ◌∙◌, append_assoc}
use Rattle.std.specs.List.{remove, insert}
use Rattle.std.specs.Option.{IsSomeAnd}
use Rattle.std.specs.declared.option.Option.{Option}
use Rattle.std.specs.declared.option.Option.TheVariants.{None, Some}
use Rattle.std.proofs.lemmas.List.{append_cancel_left, append-nil}
use Rattle.std.proofs.lemmas.List.Elements.{All-append, All-push}
use Rattle.shape_data.specs.declared.machine.Cell.{Cell}
use Rattle.shape_data.specs.declared.program.StructDef.{StructDef}
use Rattle.shape_data.specs.declared.symbolic.Atom.{Atom}
use Rattle.shape_data.specs.declared.symbolic.Atom.TheVariants.{Points, Seg}
use Rattle.shape_data.specs.declared.symbolic.Exp.{Exp}
use Rattle.shape_data.specs.declared.symbolic.Exp.TheVariants.{Var, Const}
use Rattle.shape_data.specs.declared.symbolic.SymHeap.{SymHeap}
use Rattle.shape_data.specs.Heap.{IsHeap, IsSum, HasShape, struct_named}
use Rattle.shape_data.specs.Meaning.{value, AreTrueFacts, HoldsAtom, HoldsAtoms}
use Rattle.sym_parts.proofs.ShapesLemmas.Atoms.{HoldsAtoms-one, HoldsAtoms-append}
use Rattle.sym_parts.proofs.ShapesLemmas.Chains.{IsSegment-first, link-value}
use Rattle.sym_parts.proofs.ShapesLemmas.Sums.{IsSum-sym, IsSum-unit, IsSum-rebuild, IsSum-to_left, IsSum-to_right}
use Rattle.sym_parts.specs.Laws.Each.{EachInAtom}
use Rattle.sym_parts.proofs.LawsLemmas.OrderLemmas.{same-middle}
use Rattle.sym_pure.proofs.EachLaws.{All-get, All-remove}
use Rattle.sym_matching.specs.declared.matching.Matching.{Matching}
use Rattle.sym_matching.specs.declared.matching.Mode.TheVariants.{Abduce}
use Rattle.sym_matching.specs.Laws.{AgreesOn, FitsKind, Keeps}
use Rattle.sym_matching.specs.NewVariables.{fresh_variables}
use Rattle.sym_matching.specs.Steps.{Rules, take_atom, unfold_at, with_missing_atom}
use Rattle.sym_matching.proofs.KeptLaws.{IsKept, IsKept-more, IsLogical, Within, AgreesOn-refl, AgreesOn-trans, AreTrueFacts-alike}
use Rattle.sym_matching.proofs.KeptLaws.{HoldsAtom-alike, HoldsAtoms-alike, All-insert, All-or, each-atom, each-atoms, each-facts}
use Rattle.sym_matching.proofs.KeptLaws.{kept-names, logical-kept, one_of-left, one_of-right, value-kept}
use Rattle.sym_matching.proofs.NewVariableLaws.{fresh_values, with_values}
use Rattle.sym_matching.proofs.ReadingLaws.{Keeps-refl, Keeps-trans}
use Rattle.sym_matching.proofs.StandLaws.{AreTrueOwed, Leads, Leads-trans, Misses, Misses-refl, Misses-trans, Passes, Stands, Stands-agree}
use Rattle.sym_matching.proofs.StandLaws.{Stands-pass, come_logical}

-- what is said of a part of the heap, under each later assignment and binding
abbrev pub Part : Type 1
Part = (ℕ → ℤ) → List (ℕ × Exp) → List Cell → Type 0

-- from where m stands: a part of what is left is taken, and n stands
pub record Goes (structs : List StructDef) (rules : Rules) (last : SymHeap) (s : ℕ → ℤ) (m n : Matching) (all left : List Cell)
    (Wanted : Part) : Type 0 where
  pub t : ℕ → ℤ
  pub own : List Cell
  pub rest : List Cell
  pub taken : List Cell
  pub agrees : AgreesOn m.used s t
  pub sum : IsSum structs left own rest
  pub stands : Stands structs rules last t n all rest taken
  pub wanted : (u : ℕ → ℤ) (later : List (ℕ × Exp)) → AgreesOn n.used t u → Keeps rules.flexible n.binding later →
      AreTrueOwed u later n.owed → Wanted u later own

-- a step of a match, wherever it stands
pub record Step (structs : List StructDef) (rules : Rules) (m n : Matching) (Wanted : Part) : Type 0 where
  pub grows : Within m.used n.used
  pub keeps : Keeps rules.flexible m.binding n.binding
  pub owes : (u : ℕ → ℤ) (later : List (ℕ × Exp)) → AreTrueOwed u later n.owed → AreTrueOwed u later m.owed
  pub misses : Misses rules.mode m.missing n.missing
  pub goes : (last : SymHeap) (s : ℕ → ℤ) (all left gone : List Cell) → Leads n.missing last → Stands structs rules last s m all left gone →
      Goes structs rules last s m n all left Wanted

-- ---- lists of atoms

-- the atom at a place of the first list stands in front
HoldsAtoms-take : (structs : List StructDef) (s : ℕ → ℤ) (atoms others : List Atom) (place : ℕ) (atom : Atom) {heap : List Cell} →
    slice_get atoms place ≡ Some atom → HoldsAtoms structs s (atoms ++ others) heap →
    HoldsAtoms structs s (atom ∷ remove atoms place ++ others) heap
HoldsAtoms-take structs s [] others place atom is holds = cc
HoldsAtoms-take structs s (first ∷ atoms) others zero atom is holds = let same : atom ≡ first = cc in rw same holds
HoldsAtoms-take structs s (first ∷ atoms) others (suc place) atom {heap} is holds =
    let inner : HoldsAtoms structs s (atom ∷ remove atoms place ++ others) holds.1 =
    HoldsAtoms-take structs s atoms others place atom is holds.4 in
    let swapped = IsSum-rebuild holds.2 inner.2 in
    (inner.0, swapped.0, swapped.1, inner.3, (holds.0, inner.1, swapped.2, holds.3, inner.4))

-- and is put in at a place of it
HoldsAtoms-put : (structs : List StructDef) (s : ℕ → ℤ) (atoms others : List Atom) (place : ℕ) (atom : Atom) {heap : List Cell} →
    HoldsAtoms structs s (atom ∷ atoms ++ others) heap → HoldsAtoms structs s (insert atoms place atom ++ others) heap
HoldsAtoms-put structs s [] others zero atom holds = holds
HoldsAtoms-put structs s [] others (suc place) atom holds = holds
HoldsAtoms-put structs s (first ∷ atoms) others zero atom holds = holds
HoldsAtoms-put structs s (first ∷ atoms) others (suc place) atom holds =
    let swapped = IsSum-rebuild holds.2 holds.4.2 in
    let inner : HoldsAtoms structs s (insert atoms place atom ++ others) swapped.0 =
    HoldsAtoms-put structs s atoms others place atom (holds.0, holds.4.1, swapped.2, holds.3, holds.4.4) in
    (holds.4.0, swapped.0, swapped.1, holds.4.3, inner)

pushed : (structs : List StructDef) (s : ℕ → ℤ) (atoms : List Atom) (atom : Atom) {whole gone own : List Cell} →
    IsSum structs whole own gone → HoldsAtoms structs s atoms gone → HoldsAtom structs s atom own →
    HoldsAtoms structs s (atoms ++ atom ∷ []) whole
pushed structs s atoms atom sum holds one =
    HoldsAtoms-append structs s atoms (atom ∷ []) (IsSum-sym sum) holds (HoldsAtoms-one structs s atom sum.left_is_heap one)

-- ---- fields

pub same_fit : (structs : List StructDef) (kind : List ℕ) (one other : ℕ) → FitsKind structs kind one → FitsKind structs kind other →
    one ≡ other
same_fit structs kind one other = by_struct (struct_named structs kind)
  where
    by_struct : (o : Option StructDef) → IsSomeAnd o (λ def. one ≡ length def.fields) → IsSomeAnd o (λ def. other ≡ length def.fields) →
        one ≡ other
    by_struct None a b = absurd a
    by_struct (Some def) a b = a ∙ sym b

pub shape_fits : (structs : List StructDef) (cell : Cell) (kind : List ℕ) → cell.kind ≡ kind → HasShape structs cell →
    FitsKind structs kind (length cell.fields)
shape_fits structs cell kind e shaped = rw (← e) shaped

cell_is : (cell : Cell) (at : ℤ) (kind : List ℕ) (fields : List ℤ) → cell.at ≡ at → cell.kind ≡ kind → cell.fields ≡ fields →
    cell ∷ [] ≡ record { at = at; kind = kind; fields = fields } ∷ []
cell_is cell at kind fields a b c = rw (← a, ← b, ← c) refl

module _ (structs : List StructDef) (rules : Rules) where
  -- ---- an atom is taken

  pub Step-take : (m : Matching) (place : ℕ) (atom : Atom) → slice_get m.left place ≡ Some atom →
      Step structs rules m (take_atom m place atom) (λ u later own. HoldsAtom structs u atom own)
  Step-take m place atom is = record {
    grows = λ x h. h;
    keeps = Keeps-refl rules.flexible m.binding;
    owes = λ u later h. h;
    misses = Misses-refl rules.mode m.missing;
    goes = goes;
  }
    where
      goes : (last : SymHeap) (s : ℕ → ℤ) (all left gone : List Cell) → Leads m.missing last → Stands structs rules last s m all left gone →
          Goes structs rules last s m (take_atom m place atom) all left (λ u later own. HoldsAtom structs u atom own)
      goes last s all left gone leads stands =
          let split = HoldsAtoms-take structs s m.left stands.leads.atoms place atom is stands.left_holds in
          let turned = IsSum-to_right stands.sum (IsSum-sym split.2) in
          let kept : EachInAtom (IsKept m.used) atom = All-get (EachInAtom (IsKept m.used)) m.left place atom is stands.left_kept in
          record {
            t = s;
            own = split.0;
            rest = split.1;
            taken = turned.0;
            agrees = AgreesOn-refl m.used s;
            sum = split.2;
            stands = record {
              sum = turned.1;
              facts = stands.facts;
              missing = stands.missing;
              leads = stands.leads;
              left_holds = split.4;
              gone_holds = pushed structs s m.gone atom turned.2 stands.gone_holds split.3;
              facts_kept = stands.facts_kept;
              left_kept = All-remove (EachInAtom (IsKept m.used)) m.left place stands.left_kept;
              gone_kept = All-push (EachInAtom (IsKept m.used)) m.gone atom stands.gone_kept kept;
              last_logical = stands.last_logical;
            };
            wanted =
                λ u later agree keeps h. HoldsAtom-alike (IsKept m.used) s u
                (value-kept m.used s u agree) structs atom split.0 kept split.3;
          }

  -- ---- an atom is missing

  pub Step-miss_atom : (m : Matching) (atom : Atom) → rules.mode ≡ Abduce → EachInAtom IsLogical atom →
      Step structs rules m (with_missing_atom m atom) (λ u later own. HoldsAtom structs u atom own)
  Step-miss_atom m atom mode logical = record {
    grows = λ x h. h;
    keeps = Keeps-refl rules.flexible m.binding;
    owes = λ u later h. h;
    misses = record {
      grows = record { facts = []; facts_are = sym (append-nil m.missing.pure); atoms = atom ∷ []; atoms_are = refl };
      logical = λ h. record { facts = h.facts; atoms = All-push (EachInAtom IsLogical) m.missing.spatial atom h.atoms logical };
      nothing = λ other. cc;
    };
    goes = goes;
  }
    where
      kept : EachInAtom (IsKept m.used) atom
      kept = each-atom IsLogical (IsKept m.used) (logical-kept m.used) atom logical

      goes : (last : SymHeap) (s : ℕ → ℤ) (all left gone : List Cell) → Leads (with_missing_atom m atom).missing last →
          Stands structs rules last s m all left gone →
          Goes structs rules last s m (with_missing_atom m atom) all left (λ u later own. HoldsAtom structs u atom own)
      goes last s all left gone leads stands =
          let come : stands.leads.atoms ≡ atom ∷ leads.atoms =
          append_cancel_left m.missing.spatial stands.leads.atoms (atom ∷ leads.atoms)
          (sym stands.leads.atoms_are ∙ leads.atoms_are ∙ append_assoc m.missing.spatial (atom ∷ []) leads.atoms) in
          let there : HoldsAtoms structs s (m.left ++ atom ∷ leads.atoms) left = rw come at stands.left_holds in
          let split : HoldsAtoms structs s (atom ∷ m.left ++ leads.atoms) left =
          (same-middle m.left atom leads.atoms structs s left).0 there in
          let turned = IsSum-to_right stands.sum (IsSum-sym split.2) in
          record {
            t = s;
            own = split.0;
            rest = split.1;
            taken = turned.0;
            agrees = AgreesOn-refl m.used s;
            sum = split.2;
            stands = record {
              sum = turned.1;
              facts = stands.facts;
              missing = stands.missing;
              leads = leads;
              left_holds = split.4;
              gone_holds = pushed structs s m.gone atom turned.2 stands.gone_holds split.3;
              facts_kept = stands.facts_kept;
              left_kept = stands.left_kept;
              gone_kept = All-push (EachInAtom (IsKept m.used)) m.gone atom stands.gone_kept kept;
              last_logical = stands.last_logical;
            };
            wanted =
                λ u later agree keeps h. HoldsAtom-alike (IsKept m.used) s u
                (value-kept m.used s u agree) structs atom split.0 kept split.3;
          }

  -- ---- a segment is unfolded

  -- the two have different values wherever m stands
  abbrev pub Apart : Matching → Exp → Exp → Type 0
  Apart m e f = (last : SymHeap) (s : ℕ → ℤ) (all left gone : List Cell) → Stands structs rules last s m all left gone →
      value s e ≢ value s f

  module _ (m : Matching) (place : ℕ) (kind : List ℕ) (link : ℕ) (from to : Exp) (count : ℕ)
      (is : slice_get m.left place ≡ Some (Seg kind link from to)) (fits : FitsKind structs kind count) where
    old : Within m.used (m.used ++ fresh_variables count m.used)
    old x h = one_of-left m.used (fresh_variables count m.used) x h

    names_kept : All (IsKept (m.used ++ fresh_variables count m.used)) (map Var (fresh_variables count m.used))
    names_kept =
        kept-names (fresh_variables count m.used) (m.used ++ fresh_variables count m.used)
        (λ x h. one_of-right m.used (fresh_variables count m.used) x h)

    atom-more : (atom : Atom) → EachInAtom (IsKept m.used) atom → EachInAtom (IsKept (m.used ++ fresh_variables count m.used)) atom
    atom-more =
        each-atom (IsKept m.used) (IsKept (m.used ++ fresh_variables count m.used))
        (IsKept-more m.used (m.used ++ fresh_variables count m.used) old)

    atoms-more : (atoms : List Atom) → All (EachInAtom (IsKept m.used)) atoms →
        All (EachInAtom (IsKept (m.used ++ fresh_variables count m.used))) atoms
    atoms-more =
        each-atoms (IsKept m.used) (IsKept (m.used ++ fresh_variables count m.used))
        (IsKept-more m.used (m.used ++ fresh_variables count m.used) old)

    goes_unfolded : (last : SymHeap) (s : ℕ → ℤ) (all left gone : List Cell) → value s from ≢ value s to →
        Stands structs rules last s m all left gone →
        Goes structs rules last s m (unfold_at m place kind link from to (fresh_variables count m.used)) all left
        (λ u later own. HoldsAtom structs u (Points from kind (map Var (fresh_variables count m.used))) own)
    goes_unfolded last s all left gone apart stands =
        let split = HoldsAtoms-take structs s m.left stands.leads.atoms place (Seg kind link from to) is stands.left_holds in
        let first = IsSegment-first structs kind link (value s from) (value s to) split.0 apart split.3 in
        let cell : Cell = first.0 in
        let shaped : HasShape structs cell = first.2.left_is_heap.shaped.0 in
        let many : length cell.fields ≡ count =
        same_fit structs kind (length cell.fields) count (shape_fits structs cell kind first.4 shaped) fits in
        let xs : List ℕ = fresh_variables count m.used in
        let t : ℕ → ℤ = with_values s xs cell.fields in
        let values = fresh_values count m.used s cell.fields many in
        let agrees : AgreesOn m.used s t = values.0 in
        let fields_are : map (value t) (map Var xs) ≡ cell.fields = values.1 in
        let again = Stands-agree structs rules last s t m all left gone agrees stands in
        let parts = IsSum-to_right split.2 first.2 in
        let turned = IsSum-to_right stands.sum (IsSum-sym parts.1) in
        let seg_kept : EachInAtom (IsKept m.used) (Seg kind link from to) =
        All-get (EachInAtom (IsKept m.used)) m.left place (Seg kind link from to) is stands.left_kept in
        let from_is : value t from ≡ value s from = value-kept m.used s t agrees from seg_kept.0 in
        let to_is : value t to ≡ value s to = value-kept m.used s t agrees to seg_kept.1 in
        let next_is : slice_index_or cell.fields link (pos 0) ≡ value t (slice_index_or (map Var xs) link (Const (pos 0))) =
        ap (λ fs. slice_index_or fs link (pos 0)) (sym fields_are) ∙ link-value t (map Var xs) link in
        let remaining : HoldsAtom structs t (Seg kind link (slice_index_or (map Var xs) link (Const (pos 0))) to) first.1 =
        rw (to_is, ← next_is) first.5 in
        let cell_holds : HoldsAtom structs t (Points from kind (map Var xs)) (cell ∷ []) =
        cell_is cell (value t from) kind (map (value t) (map Var xs)) (first.3 ∙ sym from_is) first.4 (sym fields_are) in
        let others_hold : HoldsAtoms structs t (remove m.left place ++ stands.leads.atoms) split.1 =
        others_at s t agrees split.1 last stands split.4 in
        let cell_kept : EachInAtom (IsKept (m.used ++ xs)) (Points from kind (map Var xs)) =
        (IsKept-more m.used (m.used ++ xs) old from seg_kept.0, names_kept) in
        let seg_again : EachInAtom (IsKept (m.used ++ xs)) (Seg kind link (slice_index_or (map Var xs) link (Const (pos 0))) to) = (
          All-or (IsKept (m.used ++ xs)) (map Var xs) link (Const (pos 0)) refl names_kept,
          IsKept-more m.used
              (m.used ++ xs) old to seg_kept.1,
        ) in
        record {
          t = t;
          own = cell ∷ [];
          rest = parts.0;
          taken = turned.0;
          agrees = agrees;
          sum = parts.1;
          stands = record {
            sum = turned.1;
            facts = again.facts;
            missing = again.missing;
            leads = stands.leads;
            left_holds =
                HoldsAtoms-put structs t (remove m.left place) stands.leads.atoms place
                (Seg kind link (slice_index_or (map Var xs) link (Const (pos 0))) to) (first.1, split.1, parts.2, remaining, others_hold);
            gone_holds = pushed structs t m.gone (Points from kind (map Var xs)) turned.2 again.gone_holds cell_holds;
            facts_kept =
                each-facts (IsKept m.used) (IsKept (m.used ++ xs)) (IsKept-more m.used (m.used ++ xs) old) rules.facts stands.facts_kept;
            left_kept =
                All-insert (EachInAtom (IsKept (m.used ++ xs))) (remove m.left place) place
                (Seg kind link (slice_index_or (map Var xs) link (Const (pos 0))) to) seg_again
                (atoms-more (remove m.left place) (All-remove (EachInAtom (IsKept m.used)) m.left place stands.left_kept));
            gone_kept =
                All-push (EachInAtom (IsKept (m.used ++ xs))) m.gone (Points from kind (map Var xs))
                (atoms-more m.gone stands.gone_kept) cell_kept;
            last_logical = stands.last_logical;
          };
          wanted =
              λ u later agree keeps h. HoldsAtom-alike (IsKept (m.used ++ xs)) t u (value-kept (m.used ++ xs) t u agree) structs
              (Points from kind (map Var xs)) (cell ∷ []) cell_kept cell_holds;
        }
      where
        others_at : (s t : ℕ → ℤ) → AgreesOn m.used s t →
            (heap : List Cell) (last : SymHeap) (stands : Stands structs rules last s m all left gone) →
            HoldsAtoms structs s (remove m.left place ++ stands.leads.atoms) heap →
            HoldsAtoms structs t (remove m.left place ++ stands.leads.atoms) heap
        others_at s t agrees heap last stands holds =
            HoldsAtoms-alike (IsKept m.used) s t (value-kept m.used s t agrees) structs (remove m.left place ++ stands.leads.atoms) heap
            (All-append (EachInAtom (IsKept m.used)) (remove m.left place) stands.leads.atoms
            (All-remove (EachInAtom (IsKept m.used)) m.left place stands.left_kept)
            (each-atoms IsLogical (IsKept m.used) (logical-kept m.used) stands.leads.atoms
            (come_logical m.missing last stands.leads stands.last_logical))) holds

    pub Step-unfold : Apart m from to →
        Step structs rules m (unfold_at m place kind link from to (fresh_variables count m.used))
        (λ u later own. HoldsAtom structs u (Points from kind (map Var (fresh_variables count m.used))) own)
    Step-unfold apart = record {
      grows = old;
      keeps = Keeps-refl rules.flexible m.binding;
      owes = λ u later h. h;
      misses = Misses-refl rules.mode m.missing;
      goes = λ last s all left gone leads stands. goes_unfolded last s all left gone (apart last s all left gone stands) stands;
    }

  -- ---- steps put together

  pub Step-pass : (m n k : Matching) (Wanted : Part) (Told : (ℕ → ℤ) → List (ℕ × Exp) → Type 0) → Step structs rules m n Wanted →
      Passes rules n k Told → Step structs rules m k (λ u later own. Wanted u later own × Told u later)
  Step-pass m n k Wanted Told step pass = record {
    grows = rw pass.used step.grows;
    keeps = Keeps-trans rules.flexible m.binding n.binding k.binding step.keeps pass.keeps;
    owes = λ u later h. step.owes u later (pass.owes u later h);
    misses = rw pass.missing step.misses;
    goes = goes;
  }
    where
      goes : (last : SymHeap) (s : ℕ → ℤ) (all left gone : List Cell) → Leads k.missing last → Stands structs rules last s m all left gone →
          Goes structs rules last s m k all left (λ u later own. Wanted u later own × Told u later)
      goes last s all left gone leads stands =
          let one = step.goes last s all left gone (rw pass.missing at leads) stands in
          record {
            t = one.t;
            own = one.own;
            rest = one.rest;
            taken = one.taken;
            agrees = one.agrees;
            sum = one.sum;
            stands = Stands-pass structs rules last one.t n k all one.rest one.taken Told pass leads one.stands;
            wanted =
                λ u later agree keeps h. (
                  one.wanted u later (rw pass.used at agree) (Keeps-trans rules.flexible n.binding k.binding later pass.keeps keeps)
                      (pass.owes u later h),
                  pass.told u later keeps h,
                );
          }

  pub Step-from_pass : (m n : Matching) (Told : (ℕ → ℤ) → List (ℕ × Exp) → Type 0) → Passes rules m n Told →
      Step structs rules m n (λ u later own. (own ≡ []) × Told u later)
  Step-from_pass m n Told pass = record {
    grows = rw pass.used (λ x h. h);
    keeps = pass.keeps;
    owes = pass.owes;
    misses = rw pass.missing (Misses-refl rules.mode m.missing);
    goes = goes;
  }
    where
      goes : (last : SymHeap) (s : ℕ → ℤ) (all left gone : List Cell) → Leads n.missing last → Stands structs rules last s m all left gone →
          Goes structs rules last s m n all left (λ u later own. (own ≡ []) × Told u later)
      goes last s all left gone leads stands = record {
        t = s;
        own = [];
        rest = left;
        taken = gone;
        agrees = AgreesOn-refl m.used s;
        sum = IsSum-unit stands.sum.left_is_heap;
        stands = Stands-pass structs rules last s m n all left gone Told pass leads stands;
        wanted = λ u later agree keeps h. (refl, pass.told u later keeps h);
      }

  -- two parts, each with what holds of it
  abbrev pub Both : Part → Part → Part
  Both First Second u later own =
      (one : List Cell) × (other : List Cell) × IsSum structs own one other × First u later one × Second u later other

  pub Step-then : (m n k : Matching) (First Second : Part) → Step structs rules m n First → Step structs rules n k Second →
      Step structs rules m k (Both First Second)
  Step-then m n k First Second one other = record {
    grows = λ x h. other.grows x (one.grows x h);
    keeps = Keeps-trans rules.flexible m.binding n.binding k.binding one.keeps other.keeps;
    owes = λ u later h. one.owes u later (other.owes u later h);
    misses = Misses-trans rules.mode m.missing n.missing k.missing one.misses other.misses;
    goes = goes;
  }
    where
      goes : (last : SymHeap) (s : ℕ → ℤ) (all left gone : List Cell) → Leads k.missing last → Stands structs rules last s m all left gone →
          Goes structs rules last s m k all left (Both First Second)
      goes last s all left gone leads stands =
          let here = one.goes last s all left gone (Leads-trans n.missing k.missing last other.misses.grows leads) stands in
          let later = other.goes last here.t all here.rest here.taken leads here.stands in
          let joined = IsSum-to_left here.sum later.sum in
          record {
            t = later.t;
            own = joined.0;
            rest = later.rest;
            taken = later.taken;
            agrees = AgreesOn-trans m.used n.used s here.t later.t one.grows here.agrees later.agrees;
            sum = joined.1;
            stands = later.stands;
            wanted = λ u after agree keeps h. (
              here.own,
              later.own,
              joined.2,
              here.wanted u after (AgreesOn-trans n.used k.used here.t later.t u other.grows later.agrees agree)
                  (Keeps-trans rules.flexible n.binding k.binding after other.keeps keeps) (other.owes u after h),
              later.wanted u after agree keeps h,
            );
          }

  pub Step-like : (m n : Matching) (First Second : Part) →
      ((u : ℕ → ℤ) (later : List (ℕ × Exp)) (own : List Cell) → AreTrueFacts u rules.facts → Keeps rules.flexible n.binding later →
      IsHeap structs own → First u later own → Second u later own) →
      Step structs rules m n First → Step structs rules m n Second
  Step-like m n First Second to step = record {
    grows = step.grows;
    keeps = step.keeps;
    owes = step.owes;
    misses = step.misses;
    goes = goes;
  }
    where
      goes : (last : SymHeap) (s : ℕ → ℤ) (all left gone : List Cell) → Leads n.missing last → Stands structs rules last s m all left gone →
          Goes structs rules last s m n all left Second
      goes last s all left gone leads stands =
          let one = step.goes last s all left gone leads stands in
          record {
            t = one.t;
            own = one.own;
            rest = one.rest;
            taken = one.taken;
            agrees = one.agrees;
            sum = one.sum;
            stands = one.stands;
            wanted = λ u later agree keeps h. to u later one.own
                (AreTrueFacts-alike (IsKept n.used) one.t u
                (value-kept n.used one.t u agree) rules.facts one.stands.facts_kept one.stands.facts) keeps one.sum.left_is_heap
                (one.wanted u later agree keeps h);
          }
