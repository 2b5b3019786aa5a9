-- What is known of a given pair: its variables are low and few, and so are those of a call's arguments.
use Rattle.std.specs.Prelude.{ℕ, ◌+◌, ◌≤◌, List, [], ◌∷◌, length, map, All, pos}
use Rattle.std.proofs.Common.{refl, arith}
use Rattle.std.proofs.lemmas.List.Elements.{All-cons, All-nil, All-weaker}
use Rattle.shape_data.specs.declared.program.Operand.{Operand}
use Rattle.shape_data.specs.declared.program.Operand.TheVariants.{Slot, Num}
use Rattle.shape_data.specs.declared.program.StructDef.{StructDef}
use Rattle.shape_data.specs.declared.symbolic.Atom.{Atom}
use Rattle.shape_data.specs.declared.symbolic.Atom.TheVariants.{Points, Seg, Junk}
use Rattle.shape_data.specs.declared.symbolic.Exp.{Exp}
use Rattle.shape_data.specs.declared.symbolic.Exp.TheVariants.{Var, Const}
use Rattle.shape_data.specs.declared.symbolic.Fact.{Fact}
use Rattle.shape_data.specs.declared.symbolic.Fact.TheVariants.{Eq, Ne}
use Rattle.shape_data.specs.declared.symbolic.SymHeap.{SymHeap}
use Rattle.shape_data.specs.WellFormed.{IsAtom, IsExp, IsFact, IsState, IsSymHeap, widest}
use Rattle.sym_parts.specs.Laws.Each.{EachInAtom, EachInFact, EachInHeap}
use Rattle.sym_canon.specs.declared.parts.Pair.{Pair}
use Rattle.sym_matching.proofs.KeptLaws.{All-or}
use Rattle.sym_matching.proofs.SizeLaws.{well_formed_is_within_sizes}
use Rattle.sym_matching.specs.Rooms.{IsWithinSizes}
use Rattle.sym_matching.specs.Variables.{with_state}
use Rattle.sym_matching.proofs.RenamingLemmas.SizeLemmas.{few_heap_variables, few_state_variables}
use Rattle.exec_laws.specs.Pairs.{Setting, pair_variables}
use Rattle.exec_laws.specs.Rooms.{IsPairWithin}
use Rattle.exec_laws.specs.Values.{operand}
use Rattle.sym_exec.specs.Callers.{IsGiven}
use Rattle.exec_cells.specs.InSetting.{IsGood}
use Rattle.exec_cells.specs.Sizes.{IsLow, IsLowPair}

low-exp : (params : ℕ) (e : Exp) → IsExp widest params e → IsLow e
low-exp params (Var x) is = is
low-exp params (Const n) is = refl

low-fact : (params : ℕ) (fact : Fact) → IsFact widest params fact → EachInFact IsLow fact
low-fact params (Eq left right) is = (low-exp params left is.0, low-exp params right is.1)
low-fact params (Ne left right) is = (low-exp params left is.0, low-exp params right is.1)

low-atom : (structs : List StructDef) (params : ℕ) (atom : Atom) → IsAtom widest structs params atom → EachInAtom IsLow atom
low-atom structs params (Points at kind fields) is =
    (low-exp params at is.0, All-weaker (IsExp widest params) IsLow (low-exp params) fields is.2)
low-atom structs params (Seg kind link from to) is = (low-exp params from is.1, low-exp params to is.2)
low-atom structs params Junk is = tt

low-heap : (structs : List StructDef) (params : ℕ) (heap : SymHeap) → IsSymHeap widest structs params heap → EachInHeap IsLow heap
low-heap structs params heap is = record {
  facts = All-weaker (IsFact widest params) (EachInFact IsLow) (low-fact params) heap.pure is.facts;
  atoms = All-weaker (IsAtom widest structs params) (EachInAtom IsLow) (low-atom structs params) heap.spatial is.atoms;
}

-- the variables of a well-formed pair are low
pub given_is_low : (structs : List StructDef) (params slots : ℕ) (pair : Pair) → IsState widest structs params slots pair.state
    → IsSymHeap widest structs params pair.missing → IsLowPair pair
given_is_low structs params slots pair state missing = record {
  missing = low-heap structs params pair.missing missing;
  state =
      record {
        locals = All-weaker (IsExp widest params) IsLow (low-exp params) pair.state.locals state.locals;
        heap = low-heap structs params pair.state.heap state.heap;
      };
}

-- and they are few
pub given_is_few : (setting : Setting) (pair : Pair) → IsGood setting → IsGiven setting pair → length (pair_variables pair) ≤ 300000000
given_is_few setting pair good given =
    let locals : length pair.state.locals ≤ 32768 = given.slots in
    let one : IsWithinSizes pair.state.heap =
    well_formed_is_within_sizes setting.structs setting.params pair.state.heap good.structs given.state.heap in
    let other : IsWithinSizes pair.missing =
    well_formed_is_within_sizes setting.structs setting.params pair.missing good.structs given.missing in
    let first : length (with_state [] pair.state) ≤ 0 + length pair.state.locals + 131076000 = few_state_variables [] pair.state one in
    let later : length (pair_variables pair) ≤ length (with_state [] pair.state) + 131076000 =
    few_heap_variables (with_state [] pair.state) pair.missing other in
    omega arith

-- a given pair is within the room of well-formed ones
pub given_is_within : (setting : Setting) (pair : Pair) → IsGiven setting pair
    → IsPairWithin setting.structs setting.params (length pair.state.locals) 4000 8000 pair
given_is_within setting pair given =
    let parts : length pair.state.heap.pure + length pair.state.heap.spatial ≤ 4000 = given.state.heap.parts in
    let others : length pair.missing.pure + length pair.missing.spatial ≤ 4000 = given.missing.parts in
    record { state = given.state; facts = given.missing.facts; atoms = given.missing.atoms; light = omega arith }

-- what operands stand for is well formed
operand-exp : (setting : Setting) (pair : Pair) → IsGiven setting pair → (from : Operand) → IsExp widest setting.params (operand pair from)
operand-exp setting pair given (Slot slot) =
    All-or (IsExp widest setting.params) pair.state.locals slot (Const (pos 0)) tt given.state.locals
operand-exp setting pair given (Num n) = tt

pub operands_are_exps : (setting : Setting) (pair : Pair) → IsGiven setting pair → (args : List Operand)
    → All (IsExp widest setting.params) (map (operand pair) args)
operands_are_exps setting pair given args = each args
  where
    each : (some : List Operand) → All (IsExp widest setting.params) (map (operand pair) some)
    each [] = All-nil (IsExp widest setting.params)
    each (arg ∷ others) =
        All-cons (IsExp widest setting.params) (operand pair arg) (map (operand pair) others) (operand-exp setting pair given arg)
        (each others)
