-- The new variables are 32-bit numbers.
use Rattle.std.specs.Prelude.{◌≡◌, ℕ, ◌+◌, ◌*◌, ◌≤◌, Bool, true, false, List, [], ◌∷◌, length, All}
use Rattle.std.specs.Option.{IsSomeAnd}
use Rattle.std.specs.Str.{bytes_eq}
use Rattle.std.proofs.Common.{refl, arith, lit≤}
use Rattle.std.proofs.lemmas.Bool.{ltb-true}
use Rattle.std.proofs.lemmas.List.Elements.{All-head, All-tail, All-weaker}
use Rattle.shape_data.specs.declared.program.StructDef.{StructDef}
use Rattle.shape_data.specs.declared.symbolic.Atom.{Atom}
use Rattle.shape_data.specs.declared.symbolic.Atom.TheVariants.{Points, Seg, Junk}
use Rattle.shape_data.specs.declared.symbolic.Exp.{Exp}
use Rattle.shape_data.specs.declared.symbolic.Exp.TheVariants.{Var, Const}
use Rattle.shape_data.specs.declared.symbolic.Fact.{Fact}
use Rattle.shape_data.specs.declared.symbolic.Fact.TheVariants.{Eq, Ne}
use Rattle.shape_data.specs.declared.symbolic.SymState.{SymState}
use Rattle.shape_data.specs.Heap.{struct_named}
use Rattle.shape_data.specs.WellFormed.{AreStructs, IsAtom, IsExp, IsFact, IsState, IsStruct, Limits, widest}
use Rattle.sym_parts.specs.Laws.Each.{EachInAtom, EachInFact, EachInState}
use Rattle.sym_forms.specs.Sizes.{fields_of}
use Rattle.abstraction_laws.specs.Forgetting.{first_new}
use Rattle.abstraction_laws.specs.Occurrences.{exps_of_state}
use Rattle.sym_forms.specs.Sizes.{fields_in}
use Rattle.abstraction_laws.specs.Results.{with_at_most}
use Rattle.abstraction_laws.specs.Rooms.{CellsHaveFewFields, IsWithinRoom, LargePairHasRoom, WellFormedIsWithinRoom}
use Rattle.abstraction_laws.proofs.OccurrenceLaws.{IsUnder, above-under, from_state}

-- ---- the variables that occur are below 2^31

module _ (params : ℕ) where
  exp-under : (e : Exp) → IsExp widest params e → IsUnder 2147483648 e
  exp-under (Var x) is = ltb-true x 2147483648 is
  exp-under (Const n) is = tt

  atom-under : (structs : List StructDef) (atom : Atom) → IsAtom widest structs params atom → EachInAtom (IsUnder 2147483648) atom
  atom-under structs (Points at kind fields) is =
      (exp-under at is.0, All-weaker (IsExp widest params) (IsUnder 2147483648) exp-under fields is.2)
  atom-under structs (Seg kind link from to) is = (exp-under from is.1, exp-under to is.2)
  atom-under structs Junk is = tt

  fact-under : (fact : Fact) → IsFact widest params fact → EachInFact (IsUnder 2147483648) fact
  fact-under (Eq left right) is = (exp-under left is.0, exp-under right is.1)
  fact-under (Ne left right) is = (exp-under left is.0, exp-under right is.1)

  pub state-under : (parts : ℕ) (structs : List StructDef) (slots : ℕ) (state : SymState) →
      IsState (with_at_most parts) structs params slots state → EachInState (IsUnder 2147483648) state
  state-under parts structs slots state is = record {
    locals = All-weaker (IsExp widest params) (IsUnder 2147483648) exp-under state.locals is.locals;
    heap = record {
      facts = All-weaker (IsFact widest params) (EachInFact (IsUnder 2147483648)) fact-under state.heap.pure is.heap.facts;
      atoms =
          All-weaker (IsAtom widest structs params) (EachInAtom (IsUnder 2147483648)) (atom-under structs) state.heap.spatial is.heap.atoms;
    };
  }

-- ---- a cell has no more fields than a structure may have

few_of : (structs : List StructDef) (kind : List ℕ) (count : ℕ) → All IsStruct structs →
    IsSomeAnd (struct_named structs kind) (λ def. count ≡ length def.fields) → count ≤ 32768
few_of [] kind count each h = absurd h
few_of (def ∷ structs) kind count each h =
    by_test (bytes_eq def.name kind) refl (few_of structs kind count (All-tail IsStruct def structs each))
  where
    by_test : (b : Bool) → bytes_eq def.name kind ≡ b →
        (IsSomeAnd (struct_named structs kind) (λ d. count ≡ length d.fields) → count ≤ 32768) → count ≤ 32768
    by_test true e later =
        let here : count ≡ length def.fields = rw e at h in
        let few : length def.fields ≤ 32768 = (All-head IsStruct def structs each).fields in
        omega arith
    by_test false e later = later (rw e at h)

one-few : (limits : Limits) (structs : List StructDef) (params : ℕ) → All IsStruct structs → (atom : Atom) →
    IsAtom limits structs params atom → fields_of atom ≤ 32768
one-few limits structs params each (Points at kind fields) is = few_of structs kind (length fields) each is.1
one-few limits structs params each (Seg kind link from to) is = omega arith
one-few limits structs params each Junk is = omega arith

pub few-fields : (limits : Limits) (structs : List StructDef) (params : ℕ) → All IsStruct structs → (atoms : List Atom) →
    All (IsAtom limits structs params) atoms → fields_in atoms ≤ length atoms * 32768
few-fields limits structs params each [] is = omega arith
few-fields limits structs params each (atom ∷ atoms) is =
    let few : fields_of atom ≤ 32768 = one-few limits structs params each atom (All-head (IsAtom limits structs params) atom atoms is) in
    let rest : fields_in atoms ≤ length atoms * 32768 =
    few-fields limits structs params each atoms (All-tail (IsAtom limits structs params) atom atoms is) in
    omega (arith, few, rest)

pub cells_have_few_fields : CellsHaveFewFields
cells_have_few_fields structs params heap are is =
    All-weaker (IsAtom widest structs params) (λ atom. fields_of atom ≤ 32768)
    (one-few widest structs params are.each) heap.spatial is.atoms

pub first-under : (parts : ℕ) (structs : List StructDef) (params slots : ℕ) (state : SymState) →
    IsState (with_at_most parts) structs params slots state → first_new state ≤ 2147483648
first-under parts structs params slots state is =
    above-under 2147483648 65536 (exps_of_state state) (lit≤ tt)
    (from_state (IsUnder 2147483648) state (state-under params parts structs slots state is))

-- a state of few atoms is within room
pub few_is_within_room : (parts : ℕ) (structs : List StructDef) (params slots : ℕ) (state : SymState) → AreStructs structs → slots ≤ 32768 →
    IsState (with_at_most parts) structs params slots state →
    length state.heap.spatial ≤ 12000 → IsWithinRoom state
few_is_within_room parts structs params slots state are few is atoms =
    let first : first_new state ≤ 2147483648 = first-under parts structs params slots state is in
    let fields : fields_in state.heap.spatial ≤ length state.heap.spatial * 32768 =
    few-fields (with_at_most parts) structs params are.each state.heap.spatial is.heap.atoms in
    let slots_are : length state.locals ≡ slots = is.one_each in
    record {
      variables = omega (arith, first, fields, atoms, slots_are, few);
      fields =
          All-weaker (IsAtom widest structs params) (λ atom. fields_of atom ≤ 32768)
          (one-few widest structs params are.each) state.heap.spatial is.heap.atoms;
    }

pub well_formed_is_within_room : WellFormedIsWithinRoom
well_formed_is_within_room structs params slots state are few is =
    let parts : length state.heap.pure + length state.heap.spatial ≤ 4000 = is.heap.parts in
    few_is_within_room 4000 structs params slots state are few is (omega (arith, parts))

pub large_pair_has_room : LargePairHasRoom
large_pair_has_room parts structs params slots pair are few is atoms = (
  few_is_within_room parts structs params slots pair.state are few is.state atoms,
  All-weaker (IsAtom widest structs params) (λ atom. fields_of atom ≤ 32768)
      (one-few widest structs params are.each) pair.missing.spatial is.missing.atoms,
)
