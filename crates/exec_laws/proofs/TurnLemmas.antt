-- As many turns of expose as there are atoms are enough.
use Rattle.std.specs.Prelude.{◌≡◌, ℕ, zero, suc, ◌+◌, ◌≤◌, Bool, true, false, if◌then◌else◌, List, [], ◌∷◌, ◌++◌, length, map, position}
use Rattle.std.specs.Prelude.{slice_get}
use Rattle.std.specs.List.{list_any, remove}
use Rattle.std.specs.declared.option.Option.{Option}
use Rattle.std.specs.declared.option.Option.TheVariants.{None, Some}
use Rattle.std.proofs.Common.{refl, ap, arith}
use Rattle.std.proofs.lemmas.List.{length-map}
use Rattle.shape_data.specs.declared.symbolic.Atom.{Atom}
use Rattle.shape_data.specs.declared.symbolic.Atom.TheVariants.{Points, Seg, Junk}
use Rattle.shape_data.specs.declared.symbolic.Exp.{Exp}
use Rattle.shape_data.specs.declared.symbolic.Fact.{Fact}
use Rattle.shape_data.specs.declared.symbolic.Fact.TheVariants.{Eq}
use Rattle.shape_data.specs.declared.symbolic.SymHeap.{SymHeap}
use Rattle.shape_data.specs.declared.symbolic.SymState.{SymState}
use Rattle.shape_data.specs.Heap.{struct_named}
use Rattle.sym_parts.specs.Laws.Mapped.{on_atom, on_state}
use Rattle.sym_canon.specs.declared.parts.Pair.{Pair}
use Rattle.sym_canon.specs.Canonical.{without_locals}
use Rattle.sym_canon.specs.Placing.{is_cell_at, is_segment_from}
use Rattle.sym_pure.specs.declared.parts.Normal.{Normal}
use Rattle.sym_pure.specs.declared.parts.Normal.TheVariants.{Is, Contradiction}
use Rattle.sym_pure.specs.Equations.{read_through}
use Rattle.sym_pure.specs.Normal.{normal}
use Rattle.sym_pure.specs.Sources.{differs}
use Rattle.sym_pure.proofs.PartsLaws.{FormHasNoMore, form-fewer, remove-shorter}
use Rattle.sym_forms.specs.Forms.{of_form, of_form_some}
use Rattle.sym_forms.specs.PairForms.{pair_of, with_missing}
use Rattle.exec_laws.specs.declared.parts.Exposed.TheVariants.{Shown}
use Rattle.exec_laws.specs.declared.parts.Mode.{Mode}
use Rattle.exec_laws.specs.declared.parts.Mode.TheVariants.{Strict, Search}
use Rattle.exec_laws.specs.Exposing.{at_segment, cases_of_segment, empty_case, expose_within, unfolded_case, without_atom, without_segment}
use Rattle.exec_laws.specs.Laws.{MoreTurnsChangeNothing}
use Rattle.exec_laws.specs.Pairs.{Setting, atoms_of, formed, in_slot, is_logical_fact, unless_left_out, where_true, with_fact}
use Rattle.exec_laws.specs.Pairs.{with_missing_fact, with_state_fact}

-- ---- a form has no more atoms

abbrev pub PairHasNoMore : ℕ → Option Pair → Type 0
PairHasNoMore count None = Unit {0}
PairHasNoMore count (Some form) = length (atoms_of form) ≤ count

pub formed-fewer : (mode : Mode) (params : ℕ) (pair : Pair) → PairHasNoMore (length (atoms_of pair)) (formed mode params pair)
formed-fewer Strict params pair = by_form (normal pair.state) (form-fewer pair.state)
  where
    by_form : (form : Normal) → FormHasNoMore pair.state form →
        PairHasNoMore (length (atoms_of pair)) (of_form (λ one. record pair { state = one }) form)
    by_form (Is form) fewer = fewer
    by_form Contradiction fewer = tt
formed-fewer Search params pair = by_missing (normal (without_locals pair.missing))
  where
    by_form : (lacking : SymHeap) (form : Normal) → FormHasNoMore (on_state (read_through lacking.pure) pair.state) form →
        PairHasNoMore (length (atoms_of pair)) (of_form (pair_of params lacking) form)
    by_form lacking (Is form) fewer =
        let alike : length (map (on_atom (read_through lacking.pure)) (atoms_of pair)) ≡ length (atoms_of pair) =
        length-map (atoms_of pair) (on_atom (read_through lacking.pure)) in
        omega arith
    by_form lacking Contradiction fewer = tt

    by_missing : (form : Normal) →
        PairHasNoMore (length (atoms_of pair)) (of_form_some (λ lacking. with_missing params pair.state lacking.heap) form)
    by_missing (Is lacking) =
        by_form lacking.heap (normal (on_state (read_through lacking.heap.pure) pair.state))
        (form-fewer (on_state (read_through lacking.heap.pure) pair.state))
    by_missing Contradiction = tt

true-fewer : (setting : Setting) (fact : Fact) (pair : Pair) → PairHasNoMore (length (atoms_of pair)) (where_true setting fact pair)
true-fewer setting fact pair = by_mode setting.mode
  where
    by_same : (params : ℕ) (other : Pair) → other.state ≡ pair.state → (mode : Mode) →
        PairHasNoMore (length (atoms_of pair)) (formed mode params (with_state_fact fact other))
    by_same params other same mode =
        let alike : length other.state.heap.spatial ≡ length pair.state.heap.spatial =
        ap (λ (one : SymState). length one.heap.spatial) same in
        rw alike at (formed-fewer mode params (with_state_fact fact other))

    if_logical : (b : Bool) → (if b then record pair { missing = with_fact fact pair.missing } else pair).state ≡ pair.state
    if_logical true = refl
    if_logical false = refl

    missing-same : (mode : Mode) → (with_missing_fact mode fact pair).state ≡ pair.state
    missing-same Strict = refl
    missing-same Search = if_logical (is_logical_fact fact)

    by_mode : (mode : Mode) →
        PairHasNoMore (length (atoms_of pair)) (formed mode setting.params (with_state_fact fact (with_missing_fact mode fact pair)))
    by_mode mode = by_same setting.params (with_missing_fact mode fact pair) (missing-same mode) mode

-- ---- turns

module _ (setting : Setting) (kind : List ℕ) (slot : ℕ) where
  abbrev Alike : ℕ → ℕ → Type 0
  Alike many few = (pair : Pair) → length (atoms_of pair) ≤ few →
      expose_within many setting kind slot pair ≡ expose_within few setting kind slot pair

  module _ (many few : ℕ) (alike : Alike many few) (pair : Pair) (room : length (atoms_of pair) ≤ suc few) where
    on-form : (o : Option Pair) → PairHasNoMore few o →
        unless_left_out (λ later. expose_within many setting kind slot later) o
        ≡ unless_left_out (λ later. expose_within few setting kind slot later) o
    on-form None fewer = refl
    on-form (Some form) fewer = alike form fewer

    on-empty : (place : ℕ) (from to : Exp) → length (remove (atoms_of pair) place) ≤ few →
        empty_case (λ later. expose_within many setting kind slot later) setting pair place from to
        ≡ empty_case (λ later. expose_within few setting kind slot later) setting pair place from to
    on-empty place from to fewer = by_test (differs pair.state.heap from to)
      where
        smaller : (o : Option Pair) → PairHasNoMore (length (remove (atoms_of pair) place)) o → PairHasNoMore few o
        smaller None h = tt
        smaller (Some form) h = omega arith

        by_test : (b : Bool) →
            (if b then []
            else unless_left_out (λ later. expose_within many setting kind slot later)
            (where_true setting (Eq from to) (without_segment place pair)))
            ≡ (if b then []
            else unless_left_out (λ later. expose_within few setting kind slot later)
            (where_true setting (Eq from to) (without_segment place pair)))
        by_test true = refl
        by_test false =
            on-form (where_true setting (Eq from to) (without_segment place pair))
            (smaller (where_true setting (Eq from to) (without_segment place pair))
            (true-fewer setting (Eq from to) (without_segment place pair)))

    on-atom : (place : ℕ) (atom : Option Atom) → slice_get (atoms_of pair) place ≡ atom →
        cases_of_segment (λ later. expose_within many setting kind slot later) setting (in_slot pair slot) pair place atom
        ≡ cases_of_segment (λ later. expose_within few setting kind slot later) setting (in_slot pair slot) pair place atom
    on-atom place None is = refl
    on-atom place (Some (Points at kind' fields)) is = refl
    on-atom place (Some (Seg kind' link from to)) is =
        let less : length (atoms_of pair) ≡ suc (length (remove (atoms_of pair) place)) =
        remove-shorter (atoms_of pair) place (Seg kind' link from to) is in
        ap (λ cases. cases ++ unfolded_case setting pair place kind' link from to (struct_named setting.structs kind'))
        (on-empty place from to (omega arith))
    on-atom place (Some Junk) is = refl

    on-place : (place : Option ℕ) →
        at_segment (λ later. expose_within many setting kind slot later) setting kind (in_slot pair slot) pair place
        ≡ at_segment (λ later. expose_within few setting kind slot later) setting kind (in_slot pair slot) pair place
    on-place None = refl
    on-place (Some place) = on-atom place (slice_get (atoms_of pair) place) refl

    on-test : (b : Bool) →
        (if b then Shown pair ∷ []
        else at_segment (λ later. expose_within many setting kind slot later) setting kind (in_slot pair slot) pair
        (position (is_segment_from (in_slot pair slot)) (atoms_of pair)))
        ≡ (if b then Shown pair ∷ []
        else at_segment (λ later. expose_within few setting kind slot later) setting kind (in_slot pair slot) pair
        (position (is_segment_from (in_slot pair slot)) (atoms_of pair)))
    on-test true = refl
    on-test false = on-place (position (is_segment_from (in_slot pair slot)) (atoms_of pair))

  -- without atoms there is no cell and no segment
  without-atoms : (turns : ℕ) (pair : Pair) (atoms : List Atom) → atoms_of pair ≡ atoms → length atoms ≤ 0 →
      (if list_any (is_cell_at (in_slot pair slot)) atoms then Shown pair ∷ []
      else at_segment (λ later. expose_within turns setting kind slot later) setting kind (in_slot pair slot) pair
      (position (is_segment_from (in_slot pair slot)) atoms))
      ≡ without_atom setting.mode setting kind (in_slot pair slot) pair
  without-atoms turns pair [] is none = refl
  without-atoms turns pair (atom ∷ atoms) is none = absurd (omega arith)

  alike : (many few : ℕ) → few ≤ many → Alike many few
  alike zero zero below pair room = refl
  alike zero (suc few) below pair room = absurd (omega arith)
  alike (suc many) zero below pair room = without-atoms many pair (atoms_of pair) refl room
  alike (suc many) (suc few) below pair room =
      on-test many few (alike many few (omega arith)) pair room (list_any (is_cell_at (in_slot pair slot)) (atoms_of pair))

pub more_turns_change_nothing : MoreTurnsChangeNothing
more_turns_change_nothing more setting kind slot pair =
    alike setting kind slot (length (atoms_of pair) + more) (length (atoms_of pair)) (omega arith) pair (omega arith)
