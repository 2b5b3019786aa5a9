-- All wanted atoms.
use Rattle.std.specs.Prelude.{◌≡◌, ℕ, zero, suc, ◌+◌, ◌<◌, ℤ, Bool, true, false, ◌&&◌, List, [], ◌∷◌, length, All, position, slice_get}
use Rattle.std.proofs.Common.{refl, ap, ◌∙◌, arith}
use Rattle.std.specs.List.{remove}
use Rattle.std.specs.declared.option.Option.{Option}
use Rattle.std.specs.declared.option.Option.TheVariants.{None, Some}
use Rattle.std.proofs.lemmas.Bool.{and_parts, not-true}
use Rattle.std.proofs.lemmas.List.Edits.{length-remove}
use Rattle.std.proofs.lemmas.Option.{slice_get_within}
use Rattle.shape_data.specs.declared.machine.Cell.{Cell}
use Rattle.shape_data.specs.declared.program.StructDef.{StructDef}
use Rattle.shape_data.specs.declared.symbolic.Atom.{Atom}
use Rattle.shape_data.specs.declared.symbolic.Atom.TheVariants.{Points, Seg, Junk}
use Rattle.shape_data.specs.declared.symbolic.Exp.{Exp}
use Rattle.shape_data.specs.Meaning.{value, HoldsAtom, HoldsAtoms}
use Rattle.sym_parts.proofs.ShapesLemmas.Atoms.{HoldsAtoms-restore}
use Rattle.sym_parts.proofs.ShapesLemmas.Chains.{IsSegment}
use Rattle.sym_pure.proofs.EachLaws.{All-get, All-remove}
use Rattle.sym_matching.specs.declared.matching.Matching.{Matching}
use Rattle.sym_matching.specs.declared.matching.Turned.{Turned}
use Rattle.sym_matching.specs.declared.matching.Turned.TheVariants.{On, Stuck}
use Rattle.sym_matching.specs.declared.matching.Wanted.{Wanted}
use Rattle.sym_matching.specs.Laws.{FitsAtom}
use Rattle.sym_matching.specs.Reading.{read, is_unbound, through}
use Rattle.sym_matching.specs.Steps.{Rules, and_then}
use Rattle.sym_matching.specs.WantedAtoms.{want_atom, has_source, has_end, or_else, next_place, first_number, want_one, want_at, want_atoms}
use Rattle.sym_matching.specs.WantedSegments.{reach, walk}
use Rattle.sym_matching.proofs.CellLaws.{IsWantedCell, found, want_cell-step}
use Rattle.sym_matching.proofs.FactLaws.{now_later}
use Rattle.sym_matching.proofs.SegmentLaws.{IsChainTo, IsChainToWanted, reach-step, walk-step}
use Rattle.sym_matching.proofs.StandLaws.{Passes-none}
use Rattle.sym_matching.proofs.StepLaws.{Both, Part, Step, Step-from_pass, Step-like, Step-then}

-- the part holds the wanted atom, whose variables have the values of what they are bound to
abbrev pub HoldsWanted : List StructDef → Atom → Part
HoldsWanted structs atom u later own = HoldsAtom structs (through later u) atom own

holds_cell : (structs : List StructDef) (u : ℕ → ℤ) (later : List (ℕ × Exp)) (at e : Exp) (kind : List ℕ) (wants : List Exp)
    (own : List Cell) → value u e ≡ value (through later u) at → IsWantedCell kind wants e u later own →
    HoldsAtom structs (through later u) (Points at kind wants) own
holds_cell structs u later at e kind wants own same is = rw (← same) is

chain_from : (structs : List StructDef) (kind : List ℕ) (link : ℕ) (a a' b b' : ℤ) (own : List Cell) → a ≡ a' → b ≡ b' →
    IsSegment structs kind link a b own → IsSegment structs kind link a' b' own
chain_from structs kind link a a' b b' own e f segment = rw (← e, ← f) segment

abbrev pub atoms_of : List Wanted → List Atom
atoms_of [] = []
atoms_of (wanted ∷ others) = wanted.atom ∷ atoms_of others

at_place : (wanted : List Wanted) (place : ℕ) (w : Wanted) → slice_get wanted place ≡ Some w →
    slice_get (atoms_of wanted) place ≡ Some w.atom
at_place [] place w is = cc
at_place (first ∷ others) zero w is = let same : first ≡ w = cc in rw same refl
at_place (first ∷ others) (suc place) w is = at_place others place w is

removed : (wanted : List Wanted) (place : ℕ) → atoms_of (remove wanted place) ≡ remove (atoms_of wanted) place
removed [] zero = refl
removed [] (suc place) = refl
removed (first ∷ others) zero = refl
removed (first ∷ others) (suc place) = ap (λ rest. first.atom ∷ rest) (removed others place)

-- the wanted atoms hold of the part that is taken
abbrev pub HoldWanted : List StructDef → List Wanted → Part
HoldWanted structs wanted u later own = HoldsAtoms structs (through later u) (atoms_of wanted) own

-- each fits its structure
abbrev pub AreFitting : List StructDef → List Wanted → Type 0
AreFitting structs wanted = All (λ (w : Wanted). FitsAtom structs w.atom) wanted

module _ (structs : List StructDef) (rules : Rules) where
  pub want_atom-step : (number : ℕ) (atom : Atom) (m n : Matching) → FitsAtom structs atom → has_source rules m atom ≡ true →
      want_atom rules number atom m ≡ On n → Step structs rules m n (HoldsWanted structs atom)
  want_atom-step number (Points at kind fields) m n fits known h =
      let step = want_cell-step structs rules number kind fields (read rules.facts m.binding at) fits m n h in
      Step-like structs rules m n (IsWantedCell kind fields (read rules.facts m.binding at)) (HoldsWanted structs (Points at kind fields))
      (λ u later own facts keeps heap is. holds_cell structs u later at (read rules.facts m.binding at) kind fields own
      (now_later structs rules m n u later at (not-true (is_unbound rules.flexible m.binding at) known) step.keeps keeps facts) is) step
  want_atom-step number (Seg kind link from to) m n fits known h = by_end (is_unbound rules.flexible m.binding to) refl
    where
      from_known : is_unbound rules.flexible m.binding from ≡ false
      from_known = not-true (is_unbound rules.flexible m.binding from) known

      by_end : (b : Bool) → is_unbound rules.flexible m.binding to ≡ b →
          Step structs rules m n (HoldsWanted structs (Seg kind link from to))
      by_end true f =
          let is_on : reach rules number kind link to (read rules.facts m.binding from) m ≡ On n = rw f at h in
          let step = reach-step structs rules number kind link to (read rules.facts m.binding from) m n f is_on in
          Step-like structs rules m n (IsChainToWanted structs kind link to (read rules.facts m.binding from))
          (HoldsWanted structs (Seg kind link from to))
          (λ u later own facts keeps heap is. chain_from structs kind link (value u (read rules.facts m.binding from))
          (value (through later u) from) (value (through later u) to) (value (through later u) to) own
          (now_later structs rules m n u later from from_known step.keeps keeps facts) refl is) step
      by_end false f =
          let is_on : walk (length m.left) rules number kind link (read rules.facts m.binding to) (read rules.facts m.binding from) m
          ≡ On n = rw f at h in
          let step =
          walk-step structs rules number kind link (read rules.facts m.binding to) (length m.left)
          (read rules.facts m.binding from) m n is_on in
          Step-like structs rules m n (IsChainTo structs kind link (read rules.facts m.binding to) (read rules.facts m.binding from))
          (HoldsWanted structs (Seg kind link from to))
          (λ u later own facts keeps heap is. chain_from structs kind link (value u (read rules.facts m.binding from))
          (value (through later u) from) (value u (read rules.facts m.binding to)) (value (through later u) to) own
          (now_later structs rules m n u later from from_known step.keeps keeps facts)
          (now_later structs rules m n u later to f step.keeps keeps facts) is) step
  want_atom-step number Junk m n fits known h =
      let is_n : n ≡ m = cc in
      rw is_n (Step-like structs rules m m (λ u later own. (own ≡ []) × Unit {0}) (HoldsWanted structs Junk)
      (λ u later own facts keeps heap both. tt) (Step-from_pass structs rules m m (λ u later. Unit {0}) (Passes-none rules m)))

  -- ---- in their order

  -- what is taken next has a source that is determined
  next_known : (m : Matching) (wanted : List Wanted) (place : ℕ) (w : Wanted) → next_place rules m wanted ≡ Some place →
      slice_get wanted place ≡ Some w → has_source rules m w.atom ≡ true
  next_known m wanted place w is there = by_first (position (λ v. has_source rules m v.atom && has_end rules m v.atom) wanted) refl is
    where
      by_first : (p : Option ℕ) → position (λ v. has_source rules m v.atom && has_end rules m v.atom) wanted ≡ p →
          or_else p (position (λ v. has_source rules m v.atom) wanted) ≡ Some place → has_source rules m w.atom ≡ true
      by_first None f g = found (λ v. has_source rules m v.atom) wanted place w g there
      by_first (Some first) f g =
          (and_parts (has_source rules m w.atom) (has_end rules m w.atom)
          (found (λ v. has_source rules m v.atom && has_end rules m v.atom) wanted place w (f ∙ g) there)).0

  abbrev WantsOn : ℕ → List Wanted → Matching → Type 0
  WantsOn turns wanted n = (place : ℕ) (k : Matching) → length (remove wanted place) ≡ turns → AreFitting structs (remove wanted place) →
      want_atoms turns rules (remove wanted place) k ≡ On n → Step structs rules k n (HoldWanted structs (remove wanted place))

  module _ (turns : ℕ) (wanted : List Wanted) (m n : Matching) (many : length wanted ≡ suc turns) (fit : AreFitting structs wanted)
      (go_on : WantsOn turns wanted n) where
    after_one : (place : ℕ) (w : Wanted) → next_place rules m wanted ≡ Some place → slice_get wanted place ≡ Some w → (k : Matching) →
        want_atom rules w.number w.atom m ≡ On k → want_atoms turns rules (remove wanted place) k ≡ On n →
        Step structs rules m n (HoldWanted structs wanted)
    after_one place w is there k e f =
        let fits : FitsAtom structs w.atom = All-get (λ (v : Wanted). FitsAtom structs v.atom) wanted place w there fit in
        let step = want_atom-step w.number w.atom m k fits (next_known m wanted place w is there) e in
        let within : place < length wanted = slice_get_within wanted place w there in
        let shorter : length (remove wanted place) + 1 ≡ length wanted = length-remove wanted place within in
        let fewer : length (remove wanted place) ≡ turns = omega arith in
        Step-like structs rules m n (Both structs rules (HoldsWanted structs w.atom) (HoldWanted structs (remove wanted place)))
        (HoldWanted structs wanted)
        (λ u later own facts keeps heap both. HoldsAtoms-restore structs (through later u) (atoms_of wanted) place w.atom
        (at_place wanted place w there)
        (both.0, both.1, both.2, both.3, rw (removed wanted place) at both.4))
        (Step-then structs rules m k n (HoldsWanted structs w.atom) (HoldWanted structs (remove wanted place)) step
        (go_on place k fewer (All-remove (λ (v : Wanted). FitsAtom structs v.atom) wanted place fit) f))

    want_one-step : (place : ℕ) (w : Wanted) → next_place rules m wanted ≡ Some place → slice_get wanted place ≡ Some w → (r : Turned) →
        want_atom rules w.number w.atom m ≡ r → and_then (want_atoms turns rules (remove wanted place)) r ≡ On n →
        Step structs rules m n (HoldWanted structs wanted)
    want_one-step place w is there (Stuck number) e f = cc
    want_one-step place w is there (On k) e f = after_one place w is there k e f

    want_wanted-step : (place : ℕ) (o : Option Wanted) → next_place rules m wanted ≡ Some place → slice_get wanted place ≡ o →
        want_one rules m (want_atoms turns rules (remove wanted place)) (first_number wanted) o ≡ On n →
        Step structs rules m n (HoldWanted structs wanted)
    want_wanted-step place None is there f = cc
    want_wanted-step place (Some w) is there f = want_one-step place w is there (want_atom rules w.number w.atom m) refl f

    want_at-step : (p : Option ℕ) → next_place rules m wanted ≡ p → want_at rules m wanted (want_atoms turns rules) p ≡ On n →
        Step structs rules m n (HoldWanted structs wanted)
    want_at-step None is f = cc
    want_at-step (Some place) is f = want_wanted-step place (slice_get wanted place) is refl f

  none_wanted : (m n : Matching) → On m ≡ On n → Step structs rules m n (HoldWanted structs [])
  none_wanted m n h =
      let is_n : n ≡ m = cc in
      rw is_n (Step-like structs rules m m (λ u later own. (own ≡ []) × Unit {0}) (HoldWanted structs [])
      (λ u later own facts keeps heap both. both.0) (Step-from_pass structs rules m m (λ u later. Unit {0}) (Passes-none rules m)))

  none_left : (wanted : List Wanted) (m n : Matching) → length wanted ≡ zero → On m ≡ On n →
      Step structs rules m n (HoldWanted structs wanted)
  none_left [] m n many h = none_wanted m n h
  none_left (first ∷ others) m n many h = absurd (omega arith)

  pub want_atoms-step : (turns : ℕ) (wanted : List Wanted) (m n : Matching) → length wanted ≡ turns → AreFitting structs wanted →
      want_atoms turns rules wanted m ≡ On n → Step structs rules m n (HoldWanted structs wanted)
  want_atoms-step zero wanted m n many fit h = none_left wanted m n many h
  want_atoms-step (suc turns) wanted m n many fit h =
      want_at-step turns wanted m n many fit (λ place k. want_atoms-step turns (remove wanted place) k n) (next_place rules m wanted) refl h
