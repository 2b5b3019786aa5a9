-- What strict execution answers is well formed: the forms of well-formed pairs are.
use Rattle.std.specs.Prelude.{◌≡◌, ℕ, ◌+◌, ◌*◌, ◌<◌, ◌≤◌, List, [], ◌∷◌, filter_map, length, option_map, All}
use Rattle.std.specs.List.{cons_option}
use Rattle.std.specs.declared.option.Option.{Option}
use Rattle.std.specs.declared.option.Option.TheVariants.{None, Some}
use Rattle.std.proofs.Common.{refl, subst, arith}
use Rattle.std.proofs.lemmas.Bool.{lt-ltb}
use Rattle.std.proofs.lemmas.List.Elements.{All-cons, All-head, All-nil, All-tail}
use Rattle.shape_data.specs.declared.answer.Fault.{Fault}
use Rattle.shape_data.specs.declared.program.StructDef.{StructDef}
use Rattle.shape_data.specs.declared.symbolic.Atom.{Atom}
use Rattle.shape_data.specs.declared.symbolic.Atom.TheVariants.{Points, Seg, Junk}
use Rattle.shape_data.specs.declared.symbolic.Post.{Post}
use Rattle.shape_data.specs.declared.symbolic.SymState.{SymState}
use Rattle.shape_data.specs.WellFormed.{AreStructs, IsAtom, IsExp, IsPost, IsState}
use Rattle.sym_canon.specs.Canonical.{canon_state}
use Rattle.sym_pure.specs.declared.parts.Normal.{Normal}
use Rattle.sym_pure.specs.declared.parts.Normal.TheVariants.{Is, Contradiction}
use Rattle.sym_pure.specs.Normal.{normal}
use Rattle.sym_pure.proofs.WellFormedLaws.{form_is_well_formed}
use Rattle.sym_matching.proofs.KeptLaws.{All-or}
use Rattle.sym_forms.specs.Forms.{of_form}
use Rattle.sym_forms.specs.Sizes.{Brings, fields_in, most_exps}
use Rattle.sym_forms.proofs.WellFormedLaws.{canon_state_is_well_formed}
use Rattle.exec_laws.specs.declared.parts.Case.{Case}
use Rattle.exec_laws.specs.declared.parts.Case.TheVariants.{On, Leaves, Drops}
use Rattle.exec_laws.specs.declared.parts.Mode.TheVariants.{Strict}
use Rattle.exec_laws.specs.declared.parts.Step.TheVariants as step
use Rattle.exec_laws.specs.declared.parts.Table.{Table}
use Rattle.exec_laws.specs.Execution.{answer, exit_of, formed_case, next_of, post_of}
use Rattle.exec_laws.specs.Rooms.{with_parts, IsCaseWithin}
use Rattle.exec_laws.specs.Pairs.{Setting, canonical}
use Rattle.exec_laws.proofs.RoomLemmas.{atom-few}

module _ (structs : List StructDef) (are : AreStructs structs) (params slots nodes : ℕ) (narrow : slots ≤ 32768) (table : Table) where
  abbrev strict : Setting
  strict = record { mode = Strict; params = params; structs = structs; table = table }

  -- ---- the canonical form of a well-formed state

  pub fields-few : (m : ℕ) (atoms : List Atom) → All (IsAtom (with_parts m) structs params) atoms → fields_in atoms ≤ 32769 * length atoms
  fields-few m [] each = omega arith
  fields-few m (Points at kind fields ∷ atoms) each =
      let few : length (at ∷ fields)
      ≤ 32769 =
      atom-few structs are params slots m (Points at kind fields)
      (All-head (IsAtom (with_parts m) structs params) (Points at kind fields) atoms each) in
      let later : fields_in atoms ≤ 32769 * length atoms =
      fields-few m atoms (All-tail (IsAtom (with_parts m) structs params) (Points at kind fields) atoms each) in
      omega arith
  fields-few m (Seg kind link from to ∷ atoms) each =
      let later : fields_in atoms ≤ 32769 * length atoms =
      fields-few m atoms (All-tail (IsAtom (with_parts m) structs params) (Seg kind link from to) atoms each) in
      omega arith
  fields-few m (Junk ∷ atoms) each = let later : fields_in atoms
      ≤ 32769 * length atoms = fields-few m atoms (All-tail (IsAtom (with_parts m) structs params) Junk atoms each) in omega arith

  canon-good : (m count : ℕ) (state : SymState) → m ≤ 8192 → count ≤ 32768 → IsState (with_parts m) structs params count state →
      IsState (with_parts m) structs params count (canon_state state params)
  canon-good m count state few small is =
      let fields : fields_in state.heap.spatial ≤ 32769 * length state.heap.spatial = fields-few m state.heap.spatial is.heap.atoms in
      let parts : length state.heap.pure + length state.heap.spatial ≤ m = is.heap.parts in
      let locals : length state.locals ≡ count = is.one_each in
      let most : most_exps state ≤ 300000000 = omega arith in
      let brings : Brings (with_parts m) (with_parts m) params (most_exps state) = record {
        logical = λ x low h. h;
        numbered = λ place below. lt-ltb (65536 + place) 2147483648 (omega (arith, most, below));
        parts = omega arith;
      } in
      canon_state_is_well_formed (with_parts m) (with_parts m) structs params count state brings is

  -- ---- the forms of cases

  -- a case that is answered
  abbrev IsGood : ℕ → Case → Type 0
  IsGood m (On node pair) = (node < nodes) × IsState (with_parts m) structs params slots pair.state
  IsGood m (Leaves pair) = IsState (with_parts m) structs params 1 pair.state
  IsGood m (Drops cause) = Unit {0}

  good-cons : (m i : ℕ) → m ≤ 8192 → (case : Case) (cases : List Case) → IsCaseWithin structs params slots nodes m i case →
      All (IsGood m) cases → All (IsGood m) (cons_option (formed_case strict case) cases)
  good-cons m i few (On node pair) cases room others = by_form (normal pair.state) refl
    where
      by_form : (form : Normal) → normal pair.state ≡ form →
          All (IsGood m)
          (cons_option
          (option_map (On node) (option_map (canonical Strict params) (of_form (λ one. record pair { state = one }) form))) cases)
      by_form (Is form) is =
          All-cons (IsGood m) (On node (canonical Strict params (record pair { state = form }))) cases (
            room.0,
            canon-good m slots form few narrow
                (form_is_well_formed (with_parts m) structs params slots pair.state form is room.1.state),
          ) others
      by_form Contradiction is = others
  good-cons m i few (Leaves pair) cases room others = by_form (normal pair.state) refl
    where
      by_form : (form : Normal) → normal pair.state ≡ form →
          All (IsGood m)
          (cons_option (option_map Leaves (option_map (canonical Strict params) (of_form (λ one. record pair { state = one }) form))) cases)
      by_form (Is form) is =
          All-cons (IsGood m) (Leaves (canonical Strict params (record pair { state = form }))) cases
          (canon-good m 1 form few (omega arith)
          (form_is_well_formed (with_parts m) structs params 1 pair.state form is room.state)) others
      by_form Contradiction is = others
  good-cons m i few (Drops cause) cases room others = All-cons (IsGood m) (Drops cause) cases tt others

  good-all : (m i : ℕ) → m ≤ 8192 → (cases : List Case) → All (IsCaseWithin structs params slots nodes m i) cases →
      All (IsGood m) (filter_map (formed_case strict) cases)
  good-all m i few [] each = All-nil (IsGood m)
  good-all m i few (case ∷ cases) each =
      good-cons m i few case (filter_map (formed_case strict) cases)
      (All-head (IsCaseWithin structs params slots nodes m i) case cases each)
      (good-all m i few cases (All-tail (IsCaseWithin structs params slots nodes m i) case cases each))

  -- ---- the answer

  -- a successor at a node that is there
  abbrev pub IsGoodNext : ℕ → (ℕ × SymState) → Type 0
  IsGoodNext m next = (next.0 < nodes) × IsState (with_parts m) structs params slots next.1

  nexts-good : (m : ℕ) (cases : List Case) → All (IsGood m) cases → All (IsGoodNext m) (filter_map next_of cases)
  nexts-good m [] each = All-nil (IsGoodNext m)
  nexts-good m (On node pair ∷ cases) each =
      All-cons (IsGoodNext m) (node, pair.state) (filter_map next_of cases) (All-head (IsGood m) (On node pair) cases each)
      (nexts-good m cases (All-tail (IsGood m) (On node pair) cases each))
  nexts-good m (Leaves pair ∷ cases) each = nexts-good m cases (All-tail (IsGood m) (Leaves pair) cases each)
  nexts-good m (Drops cause ∷ cases) each = nexts-good m cases (All-tail (IsGood m) (Drops cause) cases each)

  exits-good : (m : ℕ) (cases : List Case) → All (IsGood m) cases → All (IsPost (with_parts m) structs params) (filter_map exit_of cases)
  exits-good m [] each = All-nil (IsPost (with_parts m) structs params)
  exits-good m (On node pair ∷ cases) each = exits-good m cases (All-tail (IsGood m) (On node pair) cases each)
  exits-good m (Leaves pair ∷ cases) each =
      let good : IsState (with_parts m) structs params 1 pair.state = All-head (IsGood m) (Leaves pair) cases each in
      All-cons (IsPost (with_parts m) structs params) (post_of pair.state) (filter_map exit_of cases)
      (record { ret = All-or (IsExp (with_parts m) params) pair.state.locals 0 _ tt good.locals; heap = good.heap })
      (exits-good m cases (All-tail (IsGood m) (Leaves pair) cases each))
  exits-good m (Drops cause ∷ cases) each = exits-good m cases (All-tail (IsGood m) (Drops cause) cases each)

  pub answer-good : (m i : ℕ) → m ≤ 8192 → (line : ℕ) (cases : List Case) (drop : Option Fault) →
      All (IsCaseWithin structs params slots nodes m i) cases → (nexts : List (ℕ × SymState)) (exits : List Post) →
      answer line (filter_map (formed_case strict) cases) drop ≡ step.Next nexts exits →
      All (IsGoodNext m) nexts × All (IsPost (with_parts m) structs params) exits
  answer-good m i few line cases None each nexts exits is =
      let same_nexts : filter_map next_of (filter_map (formed_case strict) cases) ≡ nexts = cc in
      let same_exits : filter_map exit_of (filter_map (formed_case strict) cases) ≡ exits = cc in (
        subst (λ some. All (IsGoodNext m) some) same_nexts
            (nexts-good m (filter_map (formed_case strict) cases) (good-all m i few cases each)),
        subst (λ some. All (IsPost (with_parts m) structs params) some) same_exits
            (exits-good m (filter_map (formed_case strict) cases) (good-all m i few cases each)),
      )
  answer-good m i few line cases (Some cause) each nexts exits is = cc
