-- Segments from 0 or from a cell's address have no cell: they go, and come back.
use Rattle.std.specs.Prelude.{◌≡◌, ℕ, zero, suc, ◌+◌, ◌<◌, ℤ, pos, Bool, true, false, List, [], ◌∷◌, map, length, nat_lt, IsSome}
use Rattle.std.specs.Prelude.{MatchOption, slice_get}
use Rattle.std.proofs.Common.{refl, sym, ap, ◌∙◌, ⊎_elim, arith}
use Rattle.std.specs.List.{cons_option, position, position_or_len, remove}
use Rattle.std.specs.declared.option.Option.{Option}
use Rattle.std.specs.declared.option.Option.TheVariants.{None, Some}
use Rattle.std.proofs.lemmas.Bool.{or_cases, ltb-true}
use Rattle.shape_data.specs.declared.machine.Cell.{Cell}
use Rattle.shape_data.specs.declared.program.StructDef.{StructDef}
use Rattle.shape_data.specs.declared.symbolic.Atom.{Atom}
use Rattle.shape_data.specs.declared.symbolic.Atom.TheVariants.{Points, Seg, Junk}
use Rattle.shape_data.specs.declared.symbolic.Exp.{Exp}
use Rattle.shape_data.specs.declared.symbolic.Exp.TheVariants.{Const}
use Rattle.shape_data.specs.Heap.{cell_at, IsSum}
use Rattle.shape_data.specs.Meaning.{value, HoldsAtoms}
use Rattle.sym_parts.proofs.ShapesLemmas.Atoms.{HoldsAtoms-remove, HoldsAtoms-restore}
use Rattle.sym_parts.proofs.ShapesLemmas.Sums.{IsSum-empty_left}
use Rattle.sym_parts.specs.Laws.Addresses.{address_of, addresses}
use Rattle.sym_parts.specs.Laws.Expressions.{same_exp, is_among}
use Rattle.sym_parts.specs.Laws.Mapped.{on_atom}
use Rattle.sym_parts.proofs.LawsLemmas.AddressLemmas.{IsSum-not_both, IsHeap-not_zero, Seg-cases, address-owned, found_of_named}
use Rattle.sym_parts.proofs.LawsLemmas.ExpressionLemmas.{same_exp-equal}
use Rattle.sym_parts.proofs.LawsLemmas.MappedLemmas.{HoldsAtoms-mapped}
use Rattle.sym_parts.proofs.LawsLemmas.SegmentLemmas.{segment_may_be_empty}
use Rattle.sym_pure.specs.declared.parts.Settled.{Settled}
use Rattle.sym_pure.specs.declared.parts.Solved.{Solved}
use Rattle.sym_pure.specs.Emptying.{is_plain, is_empty, place_of_empty, settle_at, settle}
use Rattle.sym_pure.specs.Solving.{read, with_equation}
use Rattle.sym_pure.proofs.SolvingLaws.{AreTrueSolved, Extends, Unifies, value-read, unless_clash-goes, with_equation-true}
use Rattle.sym_pure.proofs.SolvingLaws.{with_equation-unifies}

-- what stands at the first place that passes a test
pub found_at : {A : Type 0} (test : A → Bool) (xs : List A) (place : ℕ) → position_or_len test xs ≡ place → place < length xs →
    (x : A) × (slice_get xs place ≡ Some x) × (test x ≡ true)
found_at test [] place is inside = absurd (omega arith)
found_at {A} test (x ∷ xs) place is inside = by_test (test x) refl place is inside (λ k at within. found_at test xs k at within)
  where
    by_test : (b : Bool) → test x ≡ b → (place : ℕ) → position_or_len test (x ∷ xs) ≡ place → place < length (x ∷ xs) →
        ((k : ℕ) → position_or_len test xs ≡ k → k < length xs → (y : A) × (slice_get xs k ≡ Some y) × (test y ≡ true)) →
        (y : A) × (slice_get (x ∷ xs) place ≡ Some y) × (test y ≡ true)
    by_test true e zero is inside go_on = (x, refl, e)
    by_test true e (suc k) is inside go_on = let wrong : zero ≡ suc k = rw e at is in absurd (omega arith)
    by_test false e zero is inside go_on = let wrong : 1 + position_or_len test xs ≡ zero = rw e at is in absurd (omega arith)
    by_test false e (suc k) is inside go_on =
        let next : 1 + position_or_len test xs ≡ suc k = rw e at is in go_on k (omega arith) (omega arith)

pub position-found : {A : Type 0} (test : A → Bool) (xs : List A) (place : ℕ) → position test xs ≡ Some place →
    (x : A) × (slice_get xs place ≡ Some x) × (test x ≡ true)
position-found {A} test xs place is = by_test (nat_lt (position_or_len test xs) (length xs)) refl is
  where
    by_test : (b : Bool) → nat_lt (position_or_len test xs) (length xs) ≡ b → position test xs ≡ Some place →
        (x : A) × (slice_get xs place ≡ Some x) × (test x ≡ true)
    by_test true e k =
        let told : Some (position_or_len test xs) ≡ Some place = rw e at k in
        let same : position_or_len test xs ≡ place = cc in
        found_at test xs place same (rw (← same) (ltb-true _ _ e))
    by_test false e k = let told : None ≡ Some place = rw e at k in cc

-- at the place stands a segment from 0 or from a cell's address
pub record IsEmptied (solved : List Solved) (atoms : List Atom) (place : ℕ) : Type 0 where
  pub kind : List ℕ
  pub link : ℕ
  pub from : Exp
  pub to : Exp
  pub is : slice_get atoms place ≡ Some (Seg kind link from to)
  pub plain : is_plain (addresses (map (on_atom (read solved)) atoms)) (read solved from) ≡ true

pub place_of_empty-is : (solved : List Solved) (atoms : List Atom) (place : ℕ) → place_of_empty solved atoms ≡ Some place →
    IsEmptied solved atoms place
place_of_empty-is solved atoms place told =
    let found =
    position-found (is_empty solved (addresses (map (on_atom (read solved)) atoms))) atoms place told in by_atom found.0 found.1 found.2
  where
    by_atom : (atom : Atom) → slice_get atoms place ≡ Some atom →
        is_empty solved (addresses (map (on_atom (read solved)) atoms)) atom ≡ true → IsEmptied solved atoms place
    by_atom (Points at kind fields) is plain = cc
    by_atom (Seg kind link from to) is plain = record { kind = kind; link = link; from = from; to = to; is = is; plain = plain }
    by_atom Junk is plain = cc

-- a segment has no cell's address
pub addresses-remove : (f : Exp → Exp) (atoms : List Atom) (place : ℕ) (kind : List ℕ) (link : ℕ) (from to : Exp) →
    slice_get atoms place ≡ Some (Seg kind link from to) →
    addresses (map (on_atom f) atoms) ≡ addresses (map (on_atom f) (remove atoms place))
addresses-remove f [] place kind link from to is = cc
addresses-remove f (first ∷ atoms) zero kind link from to is = let same : first ≡ Seg kind link from to = cc in rw same refl
addresses-remove f (first ∷ atoms) (suc place) kind link from to is =
    ap (λ rest. cons_option (address_of (on_atom f first)) rest) (addresses-remove f atoms place kind link from to is)

module _ (structs : List StructDef) (heap : List Cell) where
  module _ (t : ℕ → ℤ) (solved : List Solved) (is_true : AreTrueSolved t solved) (atoms : List Atom) (place : ℕ)
      (emptied : IsEmptied solved atoms place) (h : HoldsAtoms structs t atoms heap) where
    front : HoldsAtoms structs t (Seg emptied.kind emptied.link emptied.from emptied.to ∷ remove atoms place) heap
    front = HoldsAtoms-remove structs t atoms place (Seg emptied.kind emptied.link emptied.from emptied.to) emptied.is h

    -- the segment owns no address
    owns_none : (own rest : List Cell) → IsSum structs heap own rest → HoldsAtoms structs t (remove atoms place) rest →
        IsSome (cell_at own (value t emptied.from)) → ⊥
    owns_none own rest sum others there =
        ⊎_elim at_zero at_cell
        (or_cases (same_exp (read solved emptied.from) (Const (pos 0)))
        (is_among (read solved emptied.from) (addresses (map (on_atom (read solved)) atoms))) emptied.plain)
      where
        at_zero : same_exp (read solved emptied.from) (Const (pos 0)) ≡ true → ⊥
        at_zero e =
            let is_zero : read solved emptied.from ≡ Const (pos 0) = same_exp-equal (read solved emptied.from) (Const (pos 0)) e in
            IsHeap-not_zero sum.left_is_heap (value t emptied.from) there
            (sym (value-read t solved is_true emptied.from) ∙ ap (value t) is_zero)

        at_cell : is_among (read solved emptied.from) (addresses (map (on_atom (read solved)) atoms)) ≡ true → ⊥
        at_cell e =
            let among : is_among (read solved emptied.from) (addresses (map (on_atom (read solved)) (remove atoms place))) ≡ true =
            rw (addresses-remove (read solved) atoms place emptied.kind emptied.link emptied.from emptied.to emptied.is) at e in
            let found : IsSome (cell_at rest (value t (read solved emptied.from))) =
            found_of_named structs t address_of (address-owned structs t) (read solved emptied.from)
            (map (on_atom (read solved)) (remove atoms place)) rest
            ((HoldsAtoms-mapped t t (read solved) (value-read t solved is_true) structs (remove atoms place) rest).1 others) among in
            IsSum-not_both sum (value t emptied.from) there (rw (value-read t solved is_true emptied.from) at found)

    goes : (own rest : List Cell) → IsSum structs heap own rest → HoldsAtoms structs t (remove atoms place) rest → own ≡ [] →
        HoldsAtoms structs t (remove atoms place) heap
    goes own rest sum others none =
        let alone : IsSum structs heap [] rest = rw none at sum in
        let same : heap ≡ rest = IsSum-empty_left alone in
        rw same others

    -- so it is empty: its ends are equal, and the others hold alone
    pub emptied-goes : (value t emptied.from ≡ value t emptied.to) × HoldsAtoms structs t (remove atoms place) heap
    emptied-goes =
        ⊎_elim (λ empty. (empty.1, goes front.0 front.1 front.2 front.4 empty.0))
        (λ there. absurd (owns_none front.0 front.1 front.2 front.4 there))
        (Seg-cases structs t emptied.kind emptied.link emptied.from emptied.to front.0 front.3)

  -- what was settled is true, and the atoms that are left hold
  abbrev pub IsSettled : (ℕ → ℤ) → Settled → Type 0
  IsSettled t settled = AreTrueSolved t settled.solved × HoldsAtoms structs t settled.atoms heap

  pub settle-true : (t : ℕ → ℤ) (turns : ℕ) (solved : List Solved) (atoms : List Atom) → AreTrueSolved t solved →
      HoldsAtoms structs t atoms heap → MatchOption (settle turns solved atoms) ⊥ (IsSettled t)
  settle-true t zero solved atoms is_true h = (is_true, h)
  settle-true t (suc turns) solved atoms is_true h =
      by_place (place_of_empty solved atoms) (place_of_empty-is solved atoms) (λ more others. settle-true t turns more others)
    where
      by_place : (o : Option ℕ) → ((place : ℕ) → o ≡ Some place → IsEmptied solved atoms place) →
          ((more : List Solved) (others : List Atom) → AreTrueSolved t more → HoldsAtoms structs t others heap →
          MatchOption (settle turns more others) ⊥ (IsSettled t)) →
          MatchOption (settle_at (λ more others. settle turns more others) solved atoms o) ⊥ (IsSettled t)
      by_place None is again = (is_true, h)
      by_place (Some place) is again =
          let emptied : IsEmptied solved atoms place = is place refl in
          let gone = emptied-goes t solved is_true atoms place emptied h in
          rw emptied.is
          (unless_clash-goes ⊥ (AreTrueSolved t) (IsSettled t) (λ more. settle turns more (remove atoms place))
          (with_equation solved emptied.from emptied.to)
          (with_equation-true t solved emptied.from emptied.to is_true gone.0) (λ more k. again more (remove atoms place) k gone.1))

  -- an assignment that gives equal values to what reads the same
  abbrev pub Respects : (ℕ → ℤ) → List Solved → Type 0
  Respects u solved = (e f : Exp) → read solved e ≡ read solved f → value u e ≡ value u f

  -- what reads the same before reads the same after; and the atoms come back under each assignment that respects it
  abbrev pub ComesFrom : List Solved → List Atom → Settled → Type 0
  ComesFrom solved atoms settled = Extends solved settled.solved
      × ((u : ℕ → ℤ) → Respects u settled.solved → HoldsAtoms structs u settled.atoms heap → HoldsAtoms structs u atoms heap)

  emptied-back : (u : ℕ → ℤ) (solved : List Solved) (atoms : List Atom) (place : ℕ) (emptied : IsEmptied solved atoms place) →
      value u emptied.from ≡ value u emptied.to →
      HoldsAtoms structs u (remove atoms place) heap → HoldsAtoms structs u atoms heap
  emptied-back u solved atoms place emptied same h =
      HoldsAtoms-restore structs u atoms place (Seg emptied.kind emptied.link emptied.from emptied.to) emptied.is
      (segment_may_be_empty structs u emptied.kind emptied.link emptied.from emptied.to (remove atoms place) heap same h)

  pub settle-back : (turns : ℕ) (solved : List Solved) (atoms : List Atom) →
      MatchOption (settle turns solved atoms) (Unit {0}) (ComesFrom solved atoms)
  settle-back zero solved atoms = (λ e f h. h, λ u respects h. h)
  settle-back (suc turns) solved atoms =
      by_place (place_of_empty solved atoms) (place_of_empty-is solved atoms) (λ more others. settle-back turns more others)
    where
      stronger : (place : ℕ) (emptied : IsEmptied solved atoms place) (more : List Solved) → Unifies solved emptied.from emptied.to more →
          (o : Option Settled) → MatchOption o (Unit {0}) (ComesFrom more (remove atoms place)) →
          MatchOption o (Unit {0}) (ComesFrom solved atoms)
      stronger place emptied more unifies None k = tt
      stronger place emptied more unifies (Some settled) k = (
        λ e f same. k.0 e f (unifies.0 e f same),
        λ u respects h. emptied-back u solved atoms place emptied (respects emptied.from emptied.to (k.0 emptied.from emptied.to unifies.1))
            (k.1 u respects h),
      )

      by_place : (o : Option ℕ) → ((place : ℕ) → o ≡ Some place → IsEmptied solved atoms place) →
          ((more : List Solved) (others : List Atom) → MatchOption (settle turns more others) (Unit {0}) (ComesFrom more others)) →
          MatchOption (settle_at (λ more others. settle turns more others) solved atoms o) (Unit {0}) (ComesFrom solved atoms)
      by_place None is again = (λ e f h. h, λ u respects h. h)
      by_place (Some place) is again =
          let emptied : IsEmptied solved atoms place = is place refl in
          rw emptied.is
          (unless_clash-goes (Unit {0}) (Unifies solved emptied.from emptied.to) (ComesFrom solved atoms)
          (λ more. settle turns more (remove atoms place)) (with_equation solved emptied.from emptied.to)
          (with_equation-unifies solved emptied.from emptied.to)
          (λ more unifies. stronger place emptied more unifies (settle turns more (remove atoms place)) (again more (remove atoms place))))
