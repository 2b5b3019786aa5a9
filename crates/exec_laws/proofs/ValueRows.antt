-- The rows of the commands that touch no cell: the cases cover the command.
use Rattle.std.specs.Prelude.{◌≡◌, ◌≢◌, ◌⊎◌, ℕ, ℤ, pos, Bool, true, false, if◌then◌else◌, int_lt, int_le, List, [], ◌∷◌, map}
use Rattle.std.specs.Prelude.{slice_index_or, slice_set}
use Rattle.std.specs.Ordering.{int_eq}
use Rattle.std.proofs.Common.{refl, sym, ap, ap₂, ◌∙◌, inl, inr, arith}
use Rattle.std.proofs.Math.ListN.{get_or-map}
use Rattle.std.proofs.lemmas.Bool.Decides.{Decides-int_eq}
use Rattle.std.proofs.lemmas.Int.{ints}
use Rattle.std.proofs.lemmas.List.{map-set}
use Rattle.shape_data.specs.declared.answer.Callee.{Callee}
use Rattle.shape_data.specs.declared.machine.Cell.{Cell}
use Rattle.shape_data.specs.declared.machine.Choice.{Choice}
use Rattle.shape_data.specs.declared.machine.Choice.TheVariants as choice
use Rattle.shape_data.specs.declared.machine.Stepped.TheVariants as stepped
use Rattle.shape_data.specs.declared.program.ArithOp.{ArithOp}
use Rattle.shape_data.specs.declared.program.Cmd.TheVariants as cmd
use Rattle.shape_data.specs.declared.program.Operand.{Operand}
use Rattle.shape_data.specs.declared.program.Operand.TheVariants.{Slot, Num}
use Rattle.shape_data.specs.declared.program.Program.{Program}
use Rattle.shape_data.specs.declared.program.StructDef.{StructDef}
use Rattle.shape_data.specs.declared.program.TestOp.{TestOp}
use Rattle.shape_data.specs.declared.program.TestOp.TheVariants as test
use Rattle.shape_data.specs.declared.program.Ty.{Ty}
use Rattle.shape_data.specs.declared.symbolic.Exp.{Exp}
use Rattle.shape_data.specs.declared.symbolic.Exp.TheVariants.{Var, Const}
use Rattle.shape_data.specs.Machine.{any_step, arith_value, go_with, is_of_type, operand_value, test_passes}
use Rattle.shape_data.specs.Meaning.{value}
use Rattle.sym_parts.specs.Laws.Fresh.{AgreeButFor}
use Rattle.sym_parts.proofs.LawsLemmas.FreshLemmas.{assign, assign-agrees, assign-names}
use Rattle.sym_canon.specs.declared.parts.Pair.{Pair}
use Rattle.sym_matching.specs.NewVariables.{fresh, fresh_variables}
use Rattle.sound_laws.specs.Commands.{alone, Lands}
use Rattle.exec_laws.specs.Meanings.{Cover, GoesOn, HasLeft, SomeOf}
use Rattle.exec_laws.specs.Pairs.{pair_variables, with_slot}
use Rattle.exec_laws.specs.Values.{any, arith as arith_cases, copy, leave, operand, with_any, with_result}
use Rattle.exec_laws.proofs.Forms.{IsMet}
use Rattle.exec_laws.proofs.NewNames.{old_atoms, old_facts, old_values, still_logical}
use Rattle.sym_matching.proofs.RenamingLemmas.NumberLemmas.{fresh_different}

-- two numbers are equal or not
pub int_tells : (m n : ℤ) → (m ≡ n) ⊎ (m ≢ n)
int_tells m n = by_test (int_eq m n) refl
  where
    by_test : (b : Bool) → int_eq m n ≡ b → (m ≡ n) ⊎ (m ≢ n)
    by_test true e = inl ((Decides-int_eq m n).0 e)
    by_test false e = inr (λ same. let wrong : int_eq m n ≡ true = (Decides-int_eq m n).1 same in cc)

pub int_same : (m n : ℤ) → m ≡ n → int_eq m n ≡ true
int_same m n is = (Decides-int_eq m n).1 is

pub int_other : (m n : ℤ) → m ≢ n → int_eq m n ≡ false
int_other m n differ = by_test (int_eq m n) refl
  where
    by_test : (b : Bool) → int_eq m n ≡ b → int_eq m n ≡ false
    by_test true e = absurd (differ ((Decides-int_eq m n).0 e))
    by_test false e = e

-- a comparison of a number with itself is that of 0 with itself
pub test-itself : (op : TestOp) (n : ℤ) → test_passes op n n ≡ test_passes op (pos 0) (pos 0)
test-itself test.Eq n = int_same n n refl
test-itself test.Ne n = let is : int_eq n n ≡ true = int_same n n refl in rw is refl
test-itself test.Lt n = not_below n
  where
    not_below : (m : ℤ) → int_lt m m ≡ false
    not_below m = grind (arith, ints)
test-itself test.Le n = below_itself n
  where
    below_itself : (m : ℤ) → int_le m m ≡ true
    below_itself m = grind (arith, ints)
test-itself test.Gt n = not_above n
  where
    not_above : (m : ℤ) → int_lt m m ≡ false
    not_above m = grind (arith, ints)
test-itself test.Ge n = above_itself n
  where
    above_itself : (m : ℤ) → int_le m m ≡ true
    above_itself m = grind (arith, ints)

module _ (structs : List StructDef) (s : ℕ → ℤ) (locals : List ℤ) (heap : List Cell) (pair : Pair)
    (meets : IsMet structs s locals heap pair) where
  -- an operand has the value of its expression
  pub operand-met : (from : Operand) → operand_value locals from ≡ value meets.0 (operand pair from)
  operand-met (Slot slot) = ap (λ (values : List ℤ). slice_index_or values slot (pos 0)) meets.2
      ∙ get_or-map (value meets.0) pair.state.locals slot (Const (pos 0))
  operand-met (Num n) = refl

  -- a value in a slot is met by an expression that has it
  pub slot-met : (to : ℕ) (e : Exp) (n : ℤ) → n ≡ value meets.0 e → IsMet structs s (slice_set locals to n) heap (with_slot to e pair)
  slot-met to e n is = (
    meets.0,
    meets.1,
    ap₂ (λ (values : List ℤ) v. slice_set values to v) meets.2 is ∙ sym (map-set (value meets.0) pair.state.locals to e),
    meets.3,
  )

  -- and any value by a new variable
  pub any-met : (to : ℕ) (n : ℤ) → IsMet structs s (slice_set locals to n) heap (with_any to pair)
  any-met to n =
      let x : ℕ = fresh (pair_variables pair) in
      let u : ℕ → ℤ = assign (x ∷ []) (n ∷ []) meets.0 in
      let agree : AgreeButFor (fresh_variables 1 (pair_variables pair)) meets.0 u = assign-agrees (x ∷ []) (n ∷ []) meets.0 in
      let named : map (value u) (map Var (x ∷ [])) ≡ n ∷ [] =
      assign-names (x ∷ []) (n ∷ []) meets.0 (fresh_different 1 (pair_variables pair)) refl in
      let is : u x ≡ n = cc in (
        u,
        still_logical pair 1 meets.0 u agree s meets.1,
        ap₂ (λ (values : List ℤ) v. slice_set values to v) (meets.2 ∙ old_values pair 1 meets.0 u agree) (sym is)
            ∙ sym (map-set (value u) pair.state.locals to (Var x)),
        record {
          facts = old_facts pair 1 meets.0 u agree meets.3.facts;
          atoms = old_atoms pair 1 meets.0 u agree structs heap meets.3.atoms;
        },
      )

module _ (program : Program) (callees : List Callee) (s : ℕ → ℤ) (locals : List ℤ) (heap : List Cell) (pair : Pair)
    (meets : IsMet program.structs s locals heap pair) where
  pub copy-row : (to : ℕ) (from : Operand) (next : ℕ) → Cover program callees s locals heap (cmd.Copy to from next) (copy to from next pair)
  copy-row to from next =
      inr (λ number node line choice. (
        next,
        slice_set locals to (operand_value locals from),
        refl,
        inl (
          refl,
          slot-met program.structs s locals heap pair meets to (operand pair from) (operand_value locals from)
              (operand-met program.structs s locals heap pair meets from),
        ),
      ))

  -- arithmetic on two constants is known
  result-met : (to : ℕ) (op : ArithOp) (e f : Exp) (m n : ℤ) → m ≡ value meets.0 e → n ≡ value meets.0 f →
      IsMet program.structs s (slice_set locals to (arith_value op m n)) heap (with_result to op e f pair)
  result-met to op (Const a) (Const b) m n is_m is_n =
      slot-met program.structs s locals heap pair meets to (Const (arith_value op a b)) (arith_value op m n)
      (ap₂ (λ x y. arith_value op x y) is_m is_n)
  result-met to op (Const a) (Var y) m n is_m is_n = any-met program.structs s locals heap pair meets to (arith_value op m n)
  result-met to op (Var x) (Const b) m n is_m is_n = any-met program.structs s locals heap pair meets to (arith_value op m n)
  result-met to op (Var x) (Var y) m n is_m is_n = any-met program.structs s locals heap pair meets to (arith_value op m n)

  pub arith-row : (to : ℕ) (op : ArithOp) (left right : Operand) (next : ℕ) →
      Cover program callees s locals heap (cmd.Arith to op left right next) (arith_cases to op left right next pair)
  arith-row to op left right next =
      inr (λ number node line choice. (
        next,
        slice_set locals to (arith_value op (operand_value locals left) (operand_value locals right)),
        refl,
        inl (
          refl,
          result-met to op (operand pair left) (operand pair right) (operand_value locals left) (operand_value locals right)
              (operand-met program.structs s locals heap pair meets left)
              (operand-met program.structs s locals heap pair meets right),
        ),
      ))

  pub any-row : (to : ℕ) (ty : Ty) (next : ℕ) → Cover program callees s locals heap (cmd.Any to ty next) (any to next pair)
  any-row to ty next = inr (λ number node line choice. by_choice number node line choice)
    where
      by_type : (number node : ℕ) (n : ℤ) (b : Bool) →
          Lands (λ next' locals' heap'. SomeOf (GoesOn program.structs s next' locals' heap') (any to next pair))
          (λ value heap'. SomeOf (HasLeft program.structs s value heap') (any to next pair)) number
          (if b then go_with [] (alone number node locals) heap to n next else stepped.BadChoice)
      by_type number node n true = (next, slice_set locals to n, refl, inl (refl, any-met program.structs s locals heap pair meets to n))
      by_type number node n false = tt

      by_choice : (number node line : ℕ) (chosen : Choice) →
          Lands (λ next' locals' heap'. SomeOf (GoesOn program.structs s next' locals' heap') (any to next pair))
          (λ value heap'. SomeOf (HasLeft program.structs s value heap') (any to next pair)) number
          (any_step [] (alone number node locals) heap to ty next chosen)
      by_choice number node line choice.Go = tt
      by_choice number node line (choice.Value n) = by_type number node n (is_of_type ty n)
      by_choice number node line choice.Null = tt
      by_choice number node line (choice.Cell at fields) = tt

  pub return-row : (from : Operand) → Cover program callees s locals heap (cmd.Return from) (leave from pair)
  return-row from =
      inr (λ number node line choice. inl
      (meets.0, meets.1, ap (λ v. v ∷ []) (operand-met program.structs s locals heap pair meets from), meets.3))
