-- The rows of branches: the cases cover the command.
use Rattle.std.specs.Prelude.{◌≡◌, ◌≢◌, ℕ, ℤ, pos, Bool, true, false, not, if◌then◌else◌, List, [], ◌∷◌, ◌++◌}
use Rattle.std.specs.Ordering.{int_eq}
use Rattle.std.specs.declared.option.Option.{Option}
use Rattle.std.specs.declared.option.Option.TheVariants.{None, Some}
use Rattle.std.proofs.Common.{refl, sym, ap, ap₂, ◌∙◌, inl, inr}
use Rattle.std.proofs.lemmas.Bool.Decides.{Decides-int_eq}
use Rattle.shape_data.specs.declared.answer.Callee.{Callee}
use Rattle.shape_data.specs.declared.machine.Cell.{Cell}
use Rattle.shape_data.specs.declared.program.Cmd.TheVariants as cmd
use Rattle.shape_data.specs.declared.program.Operand.{Operand}
use Rattle.shape_data.specs.declared.program.Program.{Program}
use Rattle.shape_data.specs.declared.program.StructDef.{StructDef}
use Rattle.shape_data.specs.declared.program.TestOp.{TestOp}
use Rattle.shape_data.specs.declared.program.TestOp.TheVariants as test
use Rattle.shape_data.specs.declared.symbolic.Exp.{Exp}
use Rattle.shape_data.specs.declared.symbolic.Exp.TheVariants.{Var, Const}
use Rattle.shape_data.specs.declared.symbolic.Fact.{Fact}
use Rattle.shape_data.specs.declared.symbolic.Fact.TheVariants.{Eq, Ne}
use Rattle.shape_data.specs.Machine.{operand_value, test_passes}
use Rattle.shape_data.specs.Meaning.{value, IsTrueFact}
use Rattle.sym_parts.specs.Laws.Expressions.{same_exp}
use Rattle.sym_parts.proofs.LawsLemmas.ExpressionLemmas.{same_exp-equal}
use Rattle.sym_canon.specs.declared.parts.Pair.{Pair}
use Rattle.sym_pure.specs.Sources.{differs}
use Rattle.sym_pure.proofs.SourcesLaws.{differs_is_sound}
use Rattle.exec_laws.specs.declared.parts.Case.{Case}
use Rattle.exec_laws.specs.declared.parts.Case.TheVariants.{On}
use Rattle.exec_laws.specs.declared.parts.Mode.TheVariants.{Strict}
use Rattle.exec_laws.specs.declared.parts.Table.{Table}
use Rattle.exec_laws.specs.Branching.{are_equal, branch, branch_equal, branch_other, branch_unequal, passes, where_test_is}
use Rattle.exec_laws.specs.Meanings.{Cover, GoesOn, SomeOf}
use Rattle.exec_laws.specs.Pairs.{Setting, with_state_fact}
use Rattle.exec_laws.specs.Values.{operand}
use Rattle.exec_laws.proofs.Forms.{IsMet, fact-met, form-goes}
use Rattle.exec_laws.proofs.SomeOf.{some-left, some-right}
use Rattle.exec_laws.proofs.ValueRows.{int_other, int_same, operand-met, test-itself}

module _ (program : Program) (callees : List Callee) (s : ℕ → ℤ) (locals : List ℤ) (heap : List Cell) (pair : Pair)
    (meets : IsMet program.structs s locals heap pair)
    (params : ℕ) (structs : List StructDef) (table : Table) where
  abbrev strict : Setting
  strict = record { mode = Strict; params = params; structs = structs; table = table }

  -- a case goes on at the node, with this pair
  abbrev Reaches : ℕ → List Case → Type 0
  Reaches node cases = SomeOf (GoesOn program.structs s node locals heap) cases

  -- the case in which a fact is true, which is true
  where-met : (pointers : Bool) (fact : Fact) (next : ℕ) → IsTrueFact meets.0 fact →
      Reaches next (where_test_is strict pointers fact next pair)
  where-met true fact next is =
      form-goes program.structs s locals heap (Reaches next) (λ one. On next one ∷ []) params (with_state_fact fact pair)
      (fact-met program.structs s locals heap fact pair meets is) (λ form met. inl (refl, met))
  where-met false fact next is =
      form-goes program.structs s locals heap (Reaches next) (λ one. On next one ∷ []) params (with_state_fact fact pair)
      (fact-met program.structs s locals heap fact pair meets is) (λ form met. inl (refl, met))

  -- one side of a test
  side-met : (b : Bool) (on_true on_false : ℕ) → Reaches (if b then on_true else on_false) (On (if b then on_true else on_false) pair ∷ [])
  side-met b on_true on_false = inl (refl, meets)

  module _ (e f : Exp) (m n : ℤ) (is_m : m ≡ value meets.0 e) (is_n : n ≡ value meets.0 f) where
    alike : value meets.0 e ≡ value meets.0 f → m ≡ n
    alike same = is_m ∙ same ∙ sym is_n

    apart : value meets.0 e ≢ value meets.0 f → m ≢ n
    apart differ same = differ (sym is_m ∙ same ∙ is_n)

    -- ---- equality

    decided : (b : Bool) → are_equal pair.state.heap e f ≡ Some b → int_eq m n ≡ b
    decided b is = by_same (same_exp e f) refl is
      where
        by_differs : (d : Bool) → differs pair.state.heap e f ≡ d → (if d then Some false else None) ≡ Some b → int_eq m n ≡ b
        by_differs true known h = let is_false : b
            ≡ false = cc in int_other m n (apart (differs_is_sound program.structs meets.0 heap pair.state.heap e f meets.3 known))
            ∙ sym is_false
        by_differs false known h = cc

        by_same : (c : Bool) → same_exp e f ≡ c →
            (if c then Some true else (if differs pair.state.heap e f then Some false else None)) ≡ Some b → int_eq m n ≡ b
        by_same true same h = let is_true : b ≡ true = cc in int_same m n (alike (ap (value meets.0) (same_exp-equal e f same)))
            ∙ sym is_true
        by_same false other h = by_differs (differs pair.state.heap e f) refl h

    equal-test : (pointers : Bool) (on_true on_false : ℕ) →
        Reaches (if int_eq m n then on_true else on_false)
        (branch_equal strict pointers e f on_true on_false pair (are_equal pair.state.heap e f))
    equal-test pointers on_true on_false = by_known (are_equal pair.state.heap e f) refl
      where
        by_test : (b : Bool) → int_eq m n ≡ b →
            Reaches (if b then on_true else on_false)
            (where_test_is strict pointers (Eq e f) on_true pair ++ where_test_is strict pointers (Ne e f) on_false pair)
        by_test true is =
            some-left (GoesOn program.structs s on_true locals heap) (where_test_is strict pointers (Eq e f) on_true pair) _
            (where-met pointers (Eq e f) on_true (sym is_m ∙ (Decides-int_eq m n).0 is ∙ is_n))
        by_test false is =
            some-right (GoesOn program.structs s on_false locals heap) (where_test_is strict pointers (Eq e f) on_true pair) _
            (where-met pointers (Ne e f) on_false (λ same. let wrong : int_eq m n ≡ true = int_same m n (alike same) in cc))

        by_known : (o : Option Bool) → are_equal pair.state.heap e f ≡ o →
            Reaches (if int_eq m n then on_true else on_false) (branch_equal strict pointers e f on_true on_false pair o)
        by_known None is = by_test (int_eq m n) refl
        by_known (Some b) is = rw (decided b is) (side-met b on_true on_false)

    unequal-test : (pointers : Bool) (on_true on_false : ℕ) →
        Reaches (if not (int_eq m n) then on_true else on_false)
        (branch_unequal strict pointers e f on_true on_false pair (are_equal pair.state.heap e f))
    unequal-test pointers on_true on_false = by_known (are_equal pair.state.heap e f) refl
      where
        by_test : (b : Bool) → int_eq m n ≡ b →
            Reaches (if not b then on_true else on_false)
            (where_test_is strict pointers (Ne e f) on_true pair ++ where_test_is strict pointers (Eq e f) on_false pair)
        by_test true is =
            some-right (GoesOn program.structs s on_false locals heap) (where_test_is strict pointers (Ne e f) on_true pair) _
            (where-met pointers (Eq e f) on_false (sym is_m ∙ (Decides-int_eq m n).0 is ∙ is_n))
        by_test false is =
            some-left (GoesOn program.structs s on_true locals heap) (where_test_is strict pointers (Ne e f) on_true pair) _
            (where-met pointers (Ne e f) on_true (λ same. let wrong : int_eq m n ≡ true = int_same m n (alike same) in cc))

        by_side : (b : Bool) → Reaches (if not b then on_true else on_false) (On (if b then on_false else on_true) pair ∷ [])
        by_side true = inl (refl, meets)
        by_side false = inl (refl, meets)

        by_known : (o : Option Bool) → are_equal pair.state.heap e f ≡ o →
            Reaches (if not (int_eq m n) then on_true else on_false) (branch_unequal strict pointers e f on_true on_false pair o)
        by_known None is = by_test (int_eq m n) refl
        by_known (Some b) is = rw (decided b is) (by_side b)

    -- ---- other tests

    -- one same expression decides
    itself : (op : TestOp) (b : Bool) → (if same_exp e f then Some (test_passes op (pos 0) (pos 0)) else None) ≡ Some b →
        test_passes op m n ≡ b
    itself op b is = by_same (same_exp e f) refl is
      where
        by_same : (c : Bool) → same_exp e f ≡ c → (if c then Some (test_passes op (pos 0) (pos 0)) else None) ≡ Some b →
            test_passes op m n ≡ b
        by_same true same h =
            let one : m ≡ n = alike (ap (value meets.0) (same_exp-equal e f same)) in
            let known : test_passes op (pos 0) (pos 0) ≡ b = cc in
            ap (λ k. test_passes op k n) one ∙ test-itself op n ∙ known
        by_same false other h = cc

  passed : (op : TestOp) (e f : Exp) (m n : ℤ) → m ≡ value meets.0 e → n ≡ value meets.0 f → (b : Bool) → passes op e f ≡ Some b →
      test_passes op m n ≡ b
  passed op (Const i) (Const j) m n is_m is_n b is =
      let known : test_passes op i j ≡ b = cc in ap₂ (λ x y. test_passes op x y) is_m is_n ∙ known
  passed op (Const i) (Var y) m n is_m is_n b is = itself (Const i) (Var y) m n is_m is_n op b is
  passed op (Var x) (Const j) m n is_m is_n b is = itself (Var x) (Const j) m n is_m is_n op b is
  passed op (Var x) (Var y) m n is_m is_n b is = itself (Var x) (Var y) m n is_m is_n op b is

  other-test : (op : TestOp) (e f : Exp) (m n : ℤ) → m ≡ value meets.0 e → n ≡ value meets.0 f → (on_true on_false : ℕ) →
      Reaches (if test_passes op m n then on_true else on_false) (branch_other on_true on_false pair (passes op e f))
  other-test op e f m n is_m is_n on_true on_false = by_known (passes op e f) refl
    where
      by_test : (b : Bool) → Reaches (if b then on_true else on_false) (On on_true pair ∷ On on_false pair ∷ [])
      by_test true = inl (refl, meets)
      by_test false = inr (inl (refl, meets))

      by_known : (o : Option Bool) → passes op e f ≡ o →
          Reaches (if test_passes op m n then on_true else on_false) (branch_other on_true on_false pair o)
      by_known None is = by_test (test_passes op m n)
      by_known (Some b) is = rw (passed op e f m n is_m is_n b is) (side-met b on_true on_false)

  -- the command goes on at the side of the test
  goes-there : (op : TestOp) (pointers : Bool) (left right : Operand) (on_true on_false : ℕ) (cases : List Case) →
      Reaches (if test_passes op (operand_value locals left) (operand_value locals right) then on_true else on_false) cases →
      Cover program callees s locals heap (cmd.Branch op pointers left right on_true on_false) cases
  goes-there op pointers left right on_true on_false cases reaches =
      inr (λ number node line choice.
      (if test_passes op (operand_value locals left) (operand_value locals right) then on_true else on_false, locals, refl, reaches))

  pub branch-row : (op : TestOp) (pointers : Bool) (left right : Operand) (on_true on_false : ℕ) →
      Cover program callees s locals heap (cmd.Branch op pointers left right on_true on_false)
      (branch strict op pointers left right on_true on_false pair)
  branch-row op pointers left right on_true on_false =
      goes-there op pointers left right on_true on_false (branch strict op pointers left right on_true on_false pair) (by_op op)
    where
      is_m : operand_value locals left ≡ value meets.0 (operand pair left)
      is_m = operand-met program.structs s locals heap pair meets left

      is_n : operand_value locals right ≡ value meets.0 (operand pair right)
      is_n = operand-met program.structs s locals heap pair meets right

      by_op : (op' : TestOp) →
          Reaches (if test_passes op' (operand_value locals left) (operand_value locals right) then on_true else on_false)
          (branch strict op' pointers left right on_true on_false pair)
      by_op test.Eq =
          equal-test (operand pair left) (operand pair right) (operand_value locals left)
          (operand_value locals right) is_m is_n pointers on_true on_false
      by_op test.Ne =
          unequal-test (operand pair left) (operand pair right) (operand_value locals left)
          (operand_value locals right) is_m is_n pointers on_true on_false
      by_op test.Lt =
          other-test test.Lt (operand pair left) (operand pair right) (operand_value locals left)
          (operand_value locals right) is_m is_n on_true on_false
      by_op test.Le =
          other-test test.Le (operand pair left) (operand pair right) (operand_value locals left)
          (operand_value locals right) is_m is_n on_true on_false
      by_op test.Gt =
          other-test test.Gt (operand pair left) (operand pair right) (operand_value locals left)
          (operand_value locals right) is_m is_n on_true on_false
      by_op test.Ge =
          other-test test.Ge (operand pair left) (operand pair right) (operand_value locals left)
          (operand_value locals right) is_m is_n on_true on_false
