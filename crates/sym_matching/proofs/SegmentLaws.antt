-- A wanted segment.
use Rattle.std.specs.Prelude.{◌≡◌, ℕ, zero, suc, ◌==◌, ℤ, pos, Bool, true, false, ◌&&◌, if◌then◌else◌, List, [], position, slice_get}
use Rattle.std.specs.Prelude.{slice_index_or}
use Rattle.std.proofs.Common.{refl, sym, ap, ◌∙◌}
use Rattle.std.specs.Str.{bytes_eq}
use Rattle.std.specs.Cmp.Lexicographic.{bytes_decides}
use Rattle.std.specs.declared.option.Option.{Option}
use Rattle.std.specs.declared.option.Option.TheVariants.{None, Some}
use Rattle.std.proofs.lemmas.Bool.{and_parts, eqb-true}
use Rattle.shape_data.specs.declared.machine.Cell.{Cell}
use Rattle.shape_data.specs.declared.program.StructDef.{StructDef}
use Rattle.shape_data.specs.declared.symbolic.Atom.{Atom}
use Rattle.shape_data.specs.declared.symbolic.Atom.TheVariants.{Points, Seg, Junk}
use Rattle.shape_data.specs.declared.symbolic.Exp.{Exp}
use Rattle.shape_data.specs.declared.symbolic.Exp.TheVariants.{Var, Const}
use Rattle.shape_data.specs.Heap.{IsHeap}
use Rattle.shape_data.specs.Meaning.{value, HoldsAtom}
use Rattle.sym_parts.proofs.ShapesLemmas.Chains.{IsSegment, IsSegment-empty, IsSegment-append, Points-segment}
use Rattle.sym_parts.specs.Laws.Expressions.{same_exp}
use Rattle.sym_parts.proofs.LawsLemmas.ExpressionLemmas.{same_exp-equal}
use Rattle.sym_matching.specs.declared.matching.Matching.{Matching}
use Rattle.sym_matching.specs.declared.matching.Mode.{Mode}
use Rattle.sym_matching.specs.declared.matching.Mode.TheVariants.{Subtract, Abduce}
use Rattle.sym_matching.specs.declared.matching.Turned.{Turned}
use Rattle.sym_matching.specs.declared.matching.Turned.TheVariants.{On, Stuck}
use Rattle.sym_matching.specs.Reading.{is_unbound, is_logical, is_logical_variable, through}
use Rattle.sym_matching.specs.Steps.{Rules, bind, bind_new, take_atom, unless_contradiction, with_missing_atom}
use Rattle.sym_matching.specs.WantedSegments.{is_segment_of, is_cell_of, next_of, or_cell, piece, take_piece, piece_at, miss_segment, walk}
use Rattle.sym_matching.specs.WantedSegments.{bind_end, reach}
use Rattle.sym_matching.proofs.CellLaws.{found_at, variable_logical}
use Rattle.sym_matching.proofs.SettleLaws.{Step-after_told, unless-on}
use Rattle.sym_matching.proofs.StandLaws.{Passes-none, Passes-bind, Passes-bind_new}
use Rattle.sym_matching.proofs.StepLaws.{Both, Step, Step-from_pass, Step-like, Step-miss_atom, Step-pass, Step-take, Step-then}

-- the heap is a chain between two expressions
abbrev pub IsChainTo : List StructDef → List ℕ → ℕ → Exp → Exp → (ℕ → ℤ) → List (ℕ × Exp) → List Cell → Type 0
IsChainTo structs kind link to e u later own = IsSegment structs kind link (value u e) (value u to) own

-- and one whose end is wanted
abbrev pub IsChainToWanted : List StructDef → List ℕ → ℕ → Exp → Exp → (ℕ → ℤ) → List (ℕ × Exp) → List Cell → Type 0
IsChainToWanted structs kind link to e u later own = IsSegment structs kind link (value u e) (value (through later u) to) own

segment_alike : (structs : List StructDef) (u : ℕ → ℤ) (own : List Cell) (kind' kind : List ℕ) (link' link : ℕ) (from e to : Exp) →
    kind' ≡ kind → link' ≡ link → e ≡ from → IsSegment structs kind' link' (value u from) (value u to) own →
    IsSegment structs kind link (value u e) (value u to) own
segment_alike structs u own kind' kind link' link from e to a b c segment = rw (← a, ← b, c) segment

module _ (structs : List StructDef) (u : ℕ → ℤ) (kind : List ℕ) (link : ℕ) (e : Exp) where
  segment_piece : (atom : Atom) (own : List Cell) → is_segment_of kind link e atom ≡ true → HoldsAtom structs u atom own →
      IsSegment structs kind link (value u e) (value u (next_of link atom)) own
  segment_piece (Points at kind' fields) own h holds = cc
  segment_piece (Seg kind' link' from to) own h holds =
      let parts = and_parts (same_exp e from && bytes_eq kind' kind) (link' == link) h in
      let firsts = and_parts (same_exp e from) (bytes_eq kind' kind) parts.0 in
      segment_alike structs u own kind' kind link' link from e to ((bytes_decides kind' kind).0 firsts.1) (eqb-true link' link parts.1)
      (same_exp-equal e from firsts.0) holds
  segment_piece Junk own h holds = cc

  cell_piece : (atom : Atom) (own : List Cell) → is_cell_of kind e atom ≡ true → IsHeap structs own → HoldsAtom structs u atom own →
      IsSegment structs kind link (value u e) (value u (next_of link atom)) own
  cell_piece (Points at kind' fields) own h is_heap holds =
      let parts = and_parts (same_exp e at) (bytes_eq kind' kind) h in
      segment_alike structs u own kind' kind link link at e (slice_index_or fields link (Const (pos 0)))
      ((bytes_decides kind' kind).0 parts.1) refl (same_exp-equal e at parts.0)
      (Points-segment structs u at kind' fields link own is_heap holds)
  cell_piece (Seg kind' link' from to) own h is_heap holds = cc
  cell_piece Junk own h is_heap holds = cc

  -- the atom at the place of a piece is a chain from the expression
  piece-is : (atoms : List Atom) (place : ℕ) (atom : Atom) → piece kind link e atoms ≡ Some place → slice_get atoms place ≡ Some atom →
      (own : List Cell) → IsHeap structs own → HoldsAtom structs u atom own →
      IsSegment structs kind link (value u e) (value u (next_of link atom)) own
  piece-is atoms place atom is there own is_heap holds = by_first (position (is_segment_of kind link e) atoms) refl is
    where
      by_first : (p : Option ℕ) → position (is_segment_of kind link e) atoms ≡ p → or_cell kind e atoms p ≡ Some place →
          IsSegment structs kind link (value u e) (value u (next_of link atom)) own
      by_first None f g = cell_piece atom own (found_at (is_cell_of kind e) atoms place (Some atom) g there atom refl) is_heap holds
      by_first (Some first) f g =
          segment_piece atom own (found_at (is_segment_of kind link e) atoms place (Some atom) (f ∙ g) there atom refl) holds

then_is : (b : Bool) (x y r : Turned) → b ≡ true → (if b then x else y) ≡ r → x ≡ r
then_is true x y r e h = h
then_is false x y r e h = cc

no_piece : (structs : List StructDef) (kind : List ℕ) (link : ℕ) (from to : ℤ) (own : List Cell) → own ≡ [] → from ≡ to →
    IsSegment structs kind link from to own
no_piece structs kind link from to own empty same = rw empty (IsSegment-empty structs kind link from to same)

module _ (structs : List StructDef) (rules : Rules) (number : ℕ) (kind : List ℕ) (link : ℕ) (to : Exp) where
  -- ---- rule 5

  miss_segment-step : (e : Exp) (m n : Matching) (mode : Mode) → rules.mode ≡ mode →
      miss_segment rules number kind link to e m mode ≡ On n → Step structs rules m n (IsChainTo structs kind link to e)
  miss_segment-step e m n Subtract mode h = cc
  miss_segment-step e m n Abduce mode h = by_test (is_logical_variable e && is_logical to) refl
    where
      by_test : (b : Bool) → (is_logical_variable e && is_logical to) ≡ b → Step structs rules m n (IsChainTo structs kind link to e)
      by_test true f =
          let parts = and_parts (is_logical_variable e) (is_logical to) f in
          let on : unless_contradiction rules number (with_missing_atom m (Seg kind link e to)) ≡ On n = rw f at h in
          let is_n : n ≡ with_missing_atom m (Seg kind link e to) =
          unless-on rules number (with_missing_atom m (Seg kind link e to)) n on in
          rw is_n (Step-miss_atom structs rules m (Seg kind link e to) mode (variable_logical e parts.0, parts.1))
      by_test false f = let bad : Stuck number ≡ On n = rw f at h in cc

  -- ---- rules 1 to 3, to an end that is known

  walk-end : (e : Exp) (m n : Matching) → same_exp e to ≡ true → On m ≡ On n → Step structs rules m n (IsChainTo structs kind link to e)
  walk-end e m n same is_on =
      let is_n : n ≡ m = cc in
      rw is_n (Step-like structs rules m m (λ u later own. (own ≡ []) × Unit {0}) (IsChainTo structs kind link to e)
      (λ u later own facts keeps heap both. no_piece structs kind link (value u e) (value u to) own both.0
      (ap (value u) (same_exp-equal e to same)))
      (Step-from_pass structs rules m m (λ u later. Unit {0}) (Passes-none rules m)))

  -- what the walk does with fewer turns
  abbrev WalksOn : ℕ → Matching → Type 0
  WalksOn turns n = (e : Exp) (k : Matching) → walk turns rules number kind link to e k ≡ On n →
      Step structs rules k n (IsChainTo structs kind link to e)

  pub walk-step : (turns : ℕ) (e : Exp) (m n : Matching) → walk turns rules number kind link to e m ≡ On n →
      Step structs rules m n (IsChainTo structs kind link to e)
  walk-step zero e m n h = by_test (same_exp e to) refl
    where
      by_test : (b : Bool) → same_exp e to ≡ b → Step structs rules m n (IsChainTo structs kind link to e)
      by_test true f = let is_on : On m ≡ On n = rw f at h in walk-end e m n f is_on
      by_test false f = let missed : miss_segment rules number kind link to e m rules.mode
          ≡ On n = rw f at h in miss_segment-step e m n rules.mode refl missed
  walk-step (suc turns) e m n h = by_test (λ f k g. walk-step turns f k n g) (same_exp e to) refl
    where
      by_atom : WalksOn turns n → (place : ℕ) (o : Option Atom) → piece kind link e m.left ≡ Some place → slice_get m.left place ≡ o →
          take_piece number link m (walk turns rules number kind link to) place o ≡ On n →
          Step structs rules m n (IsChainTo structs kind link to e)
      by_atom go_on place None is there f = cc
      by_atom go_on place (Some atom) is there f =
          let next : Matching = take_atom m place atom in
          Step-like structs rules m n
          (Both structs rules (λ u later own. HoldsAtom structs u atom own) (IsChainTo structs kind link to (next_of link atom)))
          (IsChainTo structs kind link to e)
          (λ u later own facts keeps heap both. IsSegment-append structs kind link (value u e) (value u (next_of link atom))
          (value u to) own both.0 both.1 both.2
          (piece-is structs u kind link e m.left place atom is there both.0 both.2.left_is_heap both.3) both.4)
          (Step-then structs rules m next n (λ u later own. HoldsAtom structs u atom own)
          (IsChainTo structs kind link to (next_of link atom)) (Step-take structs rules m place atom there)
          (go_on (next_of link atom) next f))

      by_place : WalksOn turns n → (p : Option ℕ) → piece kind link e m.left ≡ p →
          piece_at number link m (walk turns rules number kind link to) (miss_segment rules number kind link to e m rules.mode) p ≡ On n →
          Step structs rules m n (IsChainTo structs kind link to e)
      by_place go_on None is f = miss_segment-step e m n rules.mode refl f
      by_place go_on (Some place) is f = by_atom go_on place (slice_get m.left place) is refl f

      by_test : WalksOn turns n → (b : Bool) → same_exp e to ≡ b → Step structs rules m n (IsChainTo structs kind link to e)
      by_test go_on true f = let is_on : On m ≡ On n = rw f at h in walk-end e m n f is_on
      by_test go_on false f =
          let is_on : piece_at number link m (walk turns rules number kind link to) (miss_segment rules number kind link to e m rules.mode)
          (piece kind link e m.left) ≡ On n = rw f at h in
          by_place go_on (piece kind link e m.left) refl is_on

module _ (structs : List StructDef) (rules : Rules) (number : ℕ) (kind : List ℕ) (link : ℕ) (to e : Exp) (m n : Matching)
    (unbound : is_unbound rules.flexible m.binding to ≡ true) where
  -- ---- rule 4

  bound_here : On (bind m to e) ≡ On n → Step structs rules m n (IsChainToWanted structs kind link to e)
  bound_here h =
      let is_n : n ≡ bind m to e = cc in
      rw is_n (Step-like structs rules m (bind m to e) (λ u later own. (own ≡ []) × (value (through later u) to ≡ value u e))
      (IsChainToWanted structs kind link to e)
      (λ u later own facts keeps heap both. no_piece structs kind link (value u e) (value (through later u) to) own both.0 (sym both.1))
      (Step-from_pass structs rules m (bind m to e) (λ u later. value (through later u) to ≡ value u e) (Passes-bind rules m to e unbound)))

  bind_end-step : (mode : Mode) → rules.mode ≡ mode → bind_end rules number kind link to e m mode ≡ On n →
      Step structs rules m n (IsChainToWanted structs kind link to e)
  bind_end-step Subtract mode h = bound_here h
  bind_end-step Abduce mode h = by_test (is_logical_variable e) refl
    where
      by_test : (b : Bool) → is_logical_variable e ≡ b → Step structs rules m n (IsChainToWanted structs kind link to e)
      by_test true f =
          let missed : miss_segment rules number kind link (Var m.next) e (bind_new m to) Abduce ≡ On n =
          then_is (is_logical_variable e) (miss_segment rules number kind link (Var m.next) e (bind_new m to) Abduce) (On (bind m to e))
          (On n) f h in
          Step-like structs rules m n
          (λ u later own. (value (through later u) to ≡ value u (Var m.next)) × IsChainTo structs kind link (Var m.next) e u later own)
          (IsChainToWanted structs kind link to e)
          (λ u later own facts keeps heap both. rw both.0 both.1)
          (Step-after_told structs rules m (bind_new m to) n (λ u later. value (through later u) to ≡ value u (Var m.next))
          (IsChainTo structs kind link (Var m.next) e)
          (Step-from_pass structs rules m (bind_new m to) (λ u later. value (through later u) to ≡ value u (Var m.next))
          (Passes-bind_new rules m to unbound))
          (miss_segment-step structs rules number kind link (Var m.next) e (bind_new m to) n Abduce mode missed))
      by_test false f = let is_on : On (bind m to e) ≡ On n = rw f at h in bound_here is_on

  -- ---- to an end that is unbound

  pub reach-step : reach rules number kind link to e m ≡ On n → Step structs rules m n (IsChainToWanted structs kind link to e)
  reach-step h = by_place (piece kind link e m.left) refl h
    where
      by_atom : (place : ℕ) (o : Option Atom) → piece kind link e m.left ≡ Some place → slice_get m.left place ≡ o →
          take_piece number link m (λ next k. On (bind k to next)) place o ≡ On n →
          Step structs rules m n (IsChainToWanted structs kind link to e)
      by_atom place None is there f = cc
      by_atom place (Some atom) is there f =
          let k : Matching = take_atom m place atom in
          let last : Matching = bind k to (next_of link atom) in
          let is_n : n ≡ last = cc in
          rw is_n (Step-like structs rules m last
          (λ u later own. HoldsAtom structs u atom own × (value (through later u) to ≡ value u (next_of link atom)))
          (IsChainToWanted structs kind link to e)
          (λ u later own facts keeps heap both. rw both.1 (piece-is structs u kind link e m.left place atom is there own heap both.0))
          (Step-pass structs rules m k last (λ u later own. HoldsAtom structs u atom own)
          (λ u later. value (through later u) to ≡ value u (next_of link atom)) (Step-take structs rules m place atom there)
          (Passes-bind rules k to (next_of link atom) unbound)))

      by_place : (p : Option ℕ) → piece kind link e m.left ≡ p →
          piece_at number link m (λ next k. On (bind k to next)) (bind_end rules number kind link to e m rules.mode) p ≡ On n →
          Step structs rules m n (IsChainToWanted structs kind link to e)
      by_place None is f = bind_end-step rules.mode refl f
      by_place (Some place) is f = by_atom place (slice_get m.left place) is refl f
