-- The normal form keeps the meaning: forwards under the same assignment, backwards under the one that gives each
-- variable the value of what it is read as.
use Rattle.std.specs.Prelude.{◌≡◌, ℕ, ℤ, Bool, true, false, List, [], ◌∷◌, map, length, MatchOption}
use Rattle.std.proofs.Common.{refl, sym, ap, ◌∙◌}
use Rattle.std.specs.declared.option.Option.{Option}
use Rattle.std.specs.declared.option.Option.TheVariants.{None, Some}
use Rattle.std.proofs.lemmas.Bool.{or_parts}
use Rattle.shape_data.specs.declared.machine.Cell.{Cell}
use Rattle.shape_data.specs.declared.program.StructDef.{StructDef}
use Rattle.shape_data.specs.declared.symbolic.Atom.{Atom}
use Rattle.shape_data.specs.declared.symbolic.Exp.{Exp}
use Rattle.shape_data.specs.declared.symbolic.Exp.TheVariants.{Var, Const}
use Rattle.shape_data.specs.declared.symbolic.Fact.{Fact}
use Rattle.shape_data.specs.declared.symbolic.Fact.TheVariants.{Eq, Ne}
use Rattle.shape_data.specs.declared.symbolic.SymState.{SymState}
use Rattle.shape_data.specs.Meaning.{value, AreTrueFacts, HoldsAtoms, Holds, MeetsState}
use Rattle.sym_parts.specs.Laws.Addresses.{addresses}
use Rattle.sym_parts.specs.Laws.Mapped.{on_atom}
use Rattle.sym_parts.proofs.LawsLemmas.MappedLemmas.{values-mapped, HoldsAtoms-mapped}
use Rattle.sym_pure.specs.declared.parts.Normal.{Normal}
use Rattle.sym_pure.specs.declared.parts.Normal.TheVariants.{Is}
use Rattle.sym_pure.specs.declared.parts.Settled.{Settled}
use Rattle.sym_pure.specs.declared.parts.Solved.{Solved}
use Rattle.sym_pure.specs.Contradictions.{has_same_sides, do_sources_clash, has_clash}
use Rattle.sym_pure.specs.Emptying.{settle}
use Rattle.sym_pure.specs.Laws.{HoldsAlike, MeansTheSame, NormalHoldsAlike, NormalKeepsMeaning}
use Rattle.sym_pure.specs.Normal.{disequalities, form_of, normal_of, normal_settled, normal_solved, normal}
use Rattle.sym_pure.specs.Solving.{read, solve, equations}
use Rattle.sym_pure.proofs.EmptyingLaws.{IsSettled, ComesFrom, Respects, settle-true, settle-back}
use Rattle.sym_pure.proofs.EquationsLaws.{equations-to, logical-read}
use Rattle.sym_pure.proofs.RedundancyLaws.{AreDisequalities, needed-to, needed-from, one_junk-same}
use Rattle.sym_pure.proofs.SolvingLaws.{AreTrueSolved, Extends, AreUnified, Solves, value-read, read-Const, solve-true, solve-unifies}
use Rattle.sym_pure.proofs.SourcesLaws.{clash-false}

-- the assignment that gives each variable the value of what it is read as
abbrev pub through : List Solved → (ℕ → ℤ) → ℕ → ℤ
through solved t x = value t (read solved (Var x))

pub value-through : (solved : List Solved) (t : ℕ → ℤ) (e : Exp) → value t (read solved e) ≡ value (through solved t) e
value-through solved t (Var x) = refl
value-through solved t (Const n) = ap (value t) (read-Const solved n)

unified-extends : (solved more : List Solved) (facts : List Fact) → Extends solved more → AreUnified solved facts → AreUnified more facts
unified-extends solved more [] extends h = tt
unified-extends solved more (Eq left right ∷ facts) extends h = (extends left right h.0, unified-extends solved more facts extends h.1)
unified-extends solved more (Ne left right ∷ facts) extends h = unified-extends solved more facts extends h

-- ---- the disequalities, read

pub disequalities-are : (structs : List StructDef) (t : ℕ → ℤ) (heap : List Cell) (atoms : List Atom)
    (holds : HoldsAtoms structs t atoms heap) (solved : List Solved) (facts : List Fact) →
    AreDisequalities structs t heap atoms holds (disequalities solved facts)
disequalities-are structs t heap atoms holds solved [] = tt
disequalities-are structs t heap atoms holds solved (Eq left right ∷ facts) = disequalities-are structs t heap atoms holds solved facts
disequalities-are structs t heap atoms holds solved (Ne left right ∷ facts) = disequalities-are structs t heap atoms holds solved facts

disequalities-to : (t : ℕ → ℤ) (solved : List Solved) (facts : List Fact) → AreTrueSolved t solved → AreTrueFacts t facts →
    AreTrueFacts t (disequalities solved facts)
disequalities-to t solved [] is_true h = tt
disequalities-to t solved (Eq left right ∷ facts) is_true h = disequalities-to t solved facts is_true h.1
disequalities-to t solved (Ne left right ∷ facts) is_true h = (
  λ same. h.0
      (sym (value-read t solved is_true left) ∙ (same ∙ value-read t solved is_true right)),
  disequalities-to t solved facts is_true h.1,
)

-- with equations whose sides read the same, all facts are true again
disequalities-from : (t u : ℕ → ℤ) (solved : List Solved) → ((e : Exp) → value t (read solved e) ≡ value u e) → (facts : List Fact) →
    AreUnified solved facts → AreTrueFacts t (disequalities solved facts) → AreTrueFacts u facts
disequalities-from t u solved reads [] unified h = tt
disequalities-from t u solved reads (Eq left right ∷ facts) unified h =
    (sym (reads left) ∙ (ap (value t) unified.0 ∙ reads right), disequalities-from t u solved reads facts unified.1 h)
disequalities-from t u solved reads (Ne left right ∷ facts) unified h =
    (λ same. h.0 (reads left ∙ (same ∙ sym (reads right))), disequalities-from t u solved reads facts unified h.1)

-- ---- the last step, over what was solved and settled

abbrev KeepsMeaning : SymState → Normal → Type 0
KeepsMeaning state form = MeansTheSame state form × HoldsAlike state form

module _ (state : SymState) (settled : Settled)
    (forward : (structs : List StructDef) (heap : List Cell) (t : ℕ → ℤ) → AreTrueFacts t state.heap.pure →
    HoldsAtoms structs t state.heap.spatial heap → IsSettled structs heap t settled)
    (unified : AreUnified settled.solved state.heap.pure)
    (back : (structs : List StructDef) (heap : List Cell) (u : ℕ → ℤ) → Respects structs heap u settled.solved →
    HoldsAtoms structs u settled.atoms heap → HoldsAtoms structs u state.heap.spatial heap) where
  abbrev facts : List Fact
  facts = disequalities settled.solved state.heap.pure

  abbrev atoms : List Atom
  atoms = map (on_atom (read settled.solved)) settled.atoms

  abbrev form : SymState
  form = form_of state settled.solved facts atoms

  module _ (structs : List StructDef) (s : ℕ → ℤ) (locals : List ℤ) (heap : List Cell) where
    module _ (t : ℕ → ℤ) (holds : Holds structs t heap state.heap) where
      is_settled : IsSettled structs heap t settled
      is_settled = forward structs heap t holds.facts holds.atoms

      facts-to : AreTrueFacts t facts
      facts-to = disequalities-to t settled.solved state.heap.pure is_settled.0 holds.facts

      atoms-to : HoldsAtoms structs t atoms heap
      atoms-to =
          (HoldsAtoms-mapped t t (read settled.solved) (value-read t settled.solved is_settled.0) structs settled.atoms heap).1 is_settled.1

      form-to : Holds structs t heap form.heap
      form-to = record {
        facts =
            needed-to t (addresses atoms) facts (equations settled.solved settled.solved []) facts-to
            (equations-to t settled.solved settled.solved [] is_settled.0 tt);
        atoms = (one_junk-same atoms structs t heap).0 atoms-to;
      }

      no_clash : has_clash facts atoms ≡ true → ⊥
      no_clash h = clash-false t structs heap facts atoms facts-to atoms-to h

    meets-to : MeetsState structs s locals heap state → MeetsState structs s locals heap form
    meets-to m = (
      m.0,
      m.1,
      m.2
          ∙ sym (values-mapped m.0 m.0 (read settled.solved)
          (value-read m.0 settled.solved (is_settled m.0 m.3).0) state.locals),
      form-to m.0 m.3,
    )

    module _ (t : ℕ → ℤ) (holds : Holds structs t heap form.heap) (apart : has_same_sides facts ≡ false) where
      atoms-from : HoldsAtoms structs t atoms heap
      atoms-from = (one_junk-same atoms structs t heap).1 holds.atoms

      parts : AreTrueFacts t (equations settled.solved settled.solved []) × AreTrueFacts t facts
      parts =
          needed-from structs t heap atoms atoms-from facts (equations settled.solved settled.solved [])
          (disequalities-are structs t heap atoms atoms-from settled.solved state.heap.pure) apart holds.facts

      respects : Respects structs heap (through settled.solved t) settled.solved
      respects e f same = sym (value-through settled.solved t e) ∙ (ap (value t) same ∙ value-through settled.solved t f)

      form-from : Holds structs (through settled.solved t) heap state.heap
      form-from = record {
        facts =
            disequalities-from t (through settled.solved t) settled.solved (value-through settled.solved t) state.heap.pure unified parts.1;
        atoms =
            back structs heap (through settled.solved t) respects
            ((HoldsAtoms-mapped t (through settled.solved t) (read settled.solved)
            (value-through settled.solved t) structs settled.atoms heap).0 atoms-from);
      }

    meets-from : has_clash facts atoms ≡ false → MeetsState structs s locals heap form → MeetsState structs s locals heap state
    meets-from clear m =
        let apart : has_same_sides facts ≡ false = (or_parts (has_same_sides facts) (do_sources_clash facts atoms) clear).0 in (
          through settled.solved m.0,
          λ x low. logical-read m.0 settled.solved (parts m.0 m.3 apart).0 x low ∙ m.1 x low,
          m.2 ∙ values-mapped m.0 (through settled.solved m.0) (read settled.solved) (value-through settled.solved m.0) state.locals,
          form-from m.0 m.3 apart,
        )

  holds-alike : HoldsAlike state (Is form)
  holds-alike structs t heap holds = (
    form-to structs (λ x. t x) (map (value t) state.locals) heap t holds,
    values-mapped t t (read settled.solved)
        (value-read t settled.solved (is_settled structs (λ x. t x) (map (value t) state.locals) heap t holds).0) state.locals,
  )

  by_clash : (b : Bool) → has_clash facts atoms ≡ b → KeepsMeaning state (normal_of state settled.solved facts atoms)
  by_clash true e =
      rw e (
        λ structs s locals heap m. no_clash structs s locals heap m.0 m.3 e,
        λ structs t heap holds. no_clash structs (λ x. t x)
            (map (value t) state.locals) heap t holds e,
      )
  by_clash false e = rw e (λ structs s locals heap. (meets-to structs s locals heap, meets-from structs s locals heap e), holds-alike)

  pub means-settled : KeepsMeaning state (normal_settled state (Some settled))
  means-settled = by_clash (has_clash facts atoms) refl

means-solved : (state : SymState) (solved : List Solved) → ((t : ℕ → ℤ) → AreTrueFacts t state.heap.pure → AreTrueSolved t solved) →
    AreUnified solved state.heap.pure → (o : Option Settled) →
    ((structs : List StructDef) (heap : List Cell) (t : ℕ → ℤ) → AreTrueSolved t solved → HoldsAtoms structs t state.heap.spatial heap →
    MatchOption o ⊥ (IsSettled structs heap t)) →
    ((structs : List StructDef) (heap : List Cell) → MatchOption o (Unit {0}) (ComesFrom structs heap solved state.heap.spatial)) →
    KeepsMeaning state (normal_settled state o)
means-solved state solved is_true unified None forward back = (
  λ structs s locals heap m. forward structs heap m.0 (is_true m.0 m.3.facts) m.3.atoms,
  λ structs t heap holds. forward structs heap t
      (is_true t holds.facts) holds.atoms,
)
means-solved state solved is_true unified (Some settled) forward back =
    means-settled state settled (λ structs heap t facts_true holds. forward structs heap t (is_true t facts_true) holds)
    (unified-extends solved settled.solved state.heap.pure (back [] []).0 unified)
    (λ structs heap u respects holds. (back structs heap).1 u respects holds)

means-unsolved : (state : SymState) (o : Option (List Solved)) →
    ((t : ℕ → ℤ) → AreTrueFacts t state.heap.pure → MatchOption o ⊥ (AreTrueSolved t)) →
    MatchOption o (Unit {0}) (Solves [] state.heap.pure) → KeepsMeaning state (normal_solved state o)
means-unsolved state None forward back = (λ structs s locals heap m. forward m.0 m.3.facts, λ structs t heap holds. forward t holds.facts)
means-unsolved state (Some solved) forward back =
    means-solved state solved forward back.1 (settle (length state.heap.spatial) solved state.heap.spatial)
    (λ structs heap t is_true holds. settle-true structs heap t (length state.heap.spatial) solved state.heap.spatial is_true holds)
    (λ structs heap. settle-back structs heap (length state.heap.spatial) solved state.heap.spatial)

keeps_meaning : (state : SymState) → KeepsMeaning state (normal state)
keeps_meaning state =
    means-unsolved state (solve state.heap.pure []) (λ t facts_true. solve-true t state.heap.pure [] tt facts_true)
    (solve-unifies state.heap.pure [])

pub normal_keeps_meaning : NormalKeepsMeaning
normal_keeps_meaning state = (keeps_meaning state).0

pub normal_holds_alike : NormalHoldsAlike
normal_holds_alike state = (keeps_meaning state).1
