-- What operators, members, calls and `malloc` make of good code is good.
use Rattle.std.proofs.Common.{◌≡◌, ℕ, ◌+◌, ◌<◌, Bool, true, List, [], ◌∷◌, length, arith}
use Rattle.std.specs.Prelude.{IfSome, All, ◌||◌}
use Rattle.std.proofs.lemmas.List.{length-append}
use Rattle.std.proofs.lemmas.List.Elements.{All-nil, All-cons, All-append}
use Rattle.shape_data.specs.declared.program.ArithOp.{ArithOp}
use Rattle.shape_data.specs.declared.program.StructDef.{StructDef}
use Rattle.shape_data.specs.declared.program.TestOp.{TestOp}
use Rattle.shape_data.specs.declared.program.Ty.TheVariants.{Int}
use Rattle.shape_data.specs.Names.{IsCName}
use Rattle.shape_data.specs.WellFormed.{IsTy, IsOperand, IsField, IsKind}
use Rattle.c_grammar.specs.Trees.{Name, BinaryOp, PrefixOp}
use Rattle.c_types_rules.specs.Tables.{procedure_in}
use Rattle.c_types_rules.specs.Items.{listed}
use Rattle.c_lower_rules.specs.Temporaries.{Temp}
use Rattle.c_lower_rules.specs.Contexts.{Context}
use Rattle.c_lower_rules.specs.Values.{Value, Lowering, is_pointer}
use Rattle.c_lower_rules.specs.Expressions.{arith_both, arithmetic, negated, compare_both, comparison, conjunction, disjunction, negation}
use Rattle.c_lower_rules.specs.Expressions.{binary, prefix, slot_read, Field, load_by, member, Arguments, with_argument, arguments}
use Rattle.c_lower_rules.specs.Expressions.{no_arguments, call_by, new_by}
use Rattle.c_lower_rules.proofs.Pieces.{operand_more, IsStraight, straight_more, straight_none, straight_append, test_more, test_branch}
use Rattle.c_lower_rules.proofs.Pieces.{test_after, test_opposite, test_both, test_either}
use Rattle.c_lower_rules.proofs.Uses.{IsBehind, behind_self, behind_both, world, IsLined, GoodValue, GoodTested, GoodMaking, GoodLowering}
use Rattle.c_lower_rules.proofs.Uses.{made_good, truth_good}

-- ARITHMETIC

pub arith_both_good : (structs : List StructDef) (c : Context) (ln : IsLined c) (op : ArithOp) (temps : List Temp) (l r : Value)
    → GoodValue structs c temps l → GoodValue structs c l.temps r
    → GoodMaking structs c temps (arith_both op l r)
arith_both_good structs c ln op temps l r h k =
    let longer = k.behind.longer in
    record {
      behind = behind_both temps l.temps r.temps h.behind k.behind;
      code = straight_append (world structs c) _ l.code r.code (straight_more (world structs c) _ _ (omega arith) l.code h.code) k.code;
      make = λ slots to le lt total next e.
          ((lt, operand_more _ slots (omega arith) l.operand h.operand, operand_more _ slots le r.operand k.operand, e), tt);
    }

pub arithmetic_good : (structs : List StructDef) (c : Context) (ln : IsLined c) (op : ArithOp) (left right : Lowering)
    → GoodLowering structs c left → GoodLowering structs c right
    → GoodLowering structs c (arithmetic c op left right)
arithmetic_good structs c ln op left right h k = made_good structs c ln Int _ tt (λ temps.
    arith_both_good structs c ln op temps (left.value temps) (right.value (left.value temps).temps) (h.value temps)
    (k.value (left.value temps).temps))

pub negated_good : (structs : List StructDef) (c : Context) (ln : IsLined c) (inner : Lowering) → GoodLowering structs c inner
    → GoodLowering structs c (negated c inner)
negated_good structs c ln inner h = made_good structs c ln Int _ tt (λ temps. record {
  behind = (h.value temps).behind;
  code = (h.value temps).code;
  make = λ slots to le lt total next e. ((lt, tt, operand_more _ slots le (inner.value temps).operand (h.value temps).operand, e), tt);
})

-- TESTS

compare_both_good : (structs : List StructDef) (c : Context) (ln : IsLined c) (op : TestOp) (pointers : Bool) (temps : List Temp)
    (l r : Value)
    → GoodValue structs c temps l → GoodValue structs c l.temps r → GoodTested structs c temps (compare_both c op pointers l r)
compare_both_good structs c ln op pointers temps l r h k =
    let longer = k.behind.longer in
    record {
      behind = behind_both temps l.temps r.temps h.behind k.behind;
      test = test_after (world structs c) _ l.code _ (straight_more (world structs c) _ _ (omega arith) l.code h.code)
          (test_after (world structs c) _ r.code _ k.code
          (test_branch (world structs c) _ c.line op pointers l.operand r.operand ln
          (operand_more _ _ (omega arith) l.operand h.operand) k.operand));
    }

comparison_good : (structs : List StructDef) (c : Context) (ln : IsLined c) (op : TestOp) (left right : Lowering)
    → GoodLowering structs c left → GoodLowering structs c right
    → GoodLowering structs c (comparison c op left right)
comparison_good structs c ln op left right h k = truth_good structs c ln _ (λ temps.
    compare_both_good structs c ln op (is_pointer left.kind || is_pointer right.kind) temps (left.value temps)
    (right.value (left.value temps).temps)
    (h.value temps) (k.value (left.value temps).temps))

conjunction_good : (structs : List StructDef) (c : Context) (ln : IsLined c) (left right : Lowering) → GoodLowering structs c left
    → GoodLowering structs c right
    → GoodLowering structs c (conjunction c left right)
conjunction_good structs c ln left right h k = truth_good structs c ln _ (λ temps.
    let l = h.test temps in
    let r = k.test (left.test temps).temps in
    let longer = r.behind.longer in
    record {
      behind = behind_both temps (left.test temps).temps _ l.behind r.behind;
      test = test_both (world structs c) _ _ _ (test_more (world structs c) _ _ (omega arith) _ l.test) r.test;
    })

disjunction_good : (structs : List StructDef) (c : Context) (ln : IsLined c) (left right : Lowering) → GoodLowering structs c left
    → GoodLowering structs c right
    → GoodLowering structs c (disjunction c left right)
disjunction_good structs c ln left right h k = truth_good structs c ln _ (λ temps.
    let l = h.test temps in
    let r = k.test (left.test temps).temps in
    let longer = r.behind.longer in
    record {
      behind = behind_both temps (left.test temps).temps _ l.behind r.behind;
      test = test_either (world structs c) _ _ _ (test_more (world structs c) _ _ (omega arith) _ l.test) r.test;
    })

negation_good : (structs : List StructDef) (c : Context) (ln : IsLined c) (inner : Lowering) → GoodLowering structs c inner
    → GoodLowering structs c (negation c inner)
negation_good structs c ln inner h = truth_good structs c ln _ (λ temps. record {
  behind = (h.test temps).behind;
  test = test_opposite (world structs c) _ _ (h.test temps).test;
})

pub binary_good : (structs : List StructDef) (c : Context) (ln : IsLined c) (op : BinaryOp) (left right : Lowering)
    → GoodLowering structs c left → GoodLowering structs c right
    → GoodLowering structs c (binary c op left right)
binary_good structs c ln BinaryOp.Or left right h k = disjunction_good structs c ln left right h k
binary_good structs c ln BinaryOp.And left right h k = conjunction_good structs c ln left right h k
binary_good structs c ln BinaryOp.Equal left right h k = comparison_good structs c ln _ left right h k
binary_good structs c ln BinaryOp.NotEqual left right h k = comparison_good structs c ln _ left right h k
binary_good structs c ln BinaryOp.Less left right h k = comparison_good structs c ln _ left right h k
binary_good structs c ln BinaryOp.LessEqual left right h k = comparison_good structs c ln _ left right h k
binary_good structs c ln BinaryOp.Greater left right h k = comparison_good structs c ln _ left right h k
binary_good structs c ln BinaryOp.GreaterEqual left right h k = comparison_good structs c ln _ left right h k
binary_good structs c ln BinaryOp.Add left right h k = arithmetic_good structs c ln _ left right h k
binary_good structs c ln BinaryOp.Subtract left right h k = arithmetic_good structs c ln _ left right h k
binary_good structs c ln BinaryOp.Multiply left right h k = arithmetic_good structs c ln _ left right h k

pub prefix_good : (structs : List StructDef) (c : Context) (ln : IsLined c) (op : PrefixOp) (inner : Lowering)
    → GoodLowering structs c inner → GoodLowering structs c (prefix c op inner)
prefix_good structs c ln PrefixOp.Negate inner h = negated_good structs c ln inner h
prefix_good structs c ln PrefixOp.Not inner h = negation_good structs c ln inner h

-- MEMBERS

pub record IsFieldThere (structs : List StructDef) (field : Field) : Type 0 where
  pub there : IsField structs field.tag field.place
  pub kind : IsTy field.kind

pub load_good : (structs : List StructDef) (c : Context) (ln : IsLined c) (field : Field) → IsFieldThere structs field
    → (temps : List Temp) (base : Value) → GoodValue structs c temps base
    → slot_read base.operand < c.first_temp + length base.temps → GoodMaking structs c temps (load_by field base)
load_good structs c ln field f temps base h lt = record {
  behind = h.behind;
  code = h.code;
  make = λ slots to le to_lt total next e. ((to_lt, omega arith, f.there, e), tt);
}

pub member_good : (structs : List StructDef) (c : Context) (ln : IsLined c) (base : Lowering) (field : Field) → IsFieldThere structs field
    → GoodLowering structs c base
    → is_pointer base.kind ≡ true → GoodLowering structs c (member c base field)
member_good structs c ln base field f h e = made_good structs c ln field.kind _ f.kind (λ temps.
    load_good structs c ln field f temps (base.value temps) (h.value temps) (h.base temps e))

-- CALLS

pub record GoodArguments (structs : List StructDef) (c : Context) (temps : List Temp) (a : Arguments) : Type 0 where
  pub behind : IsBehind temps a.temps
  pub code : IsStraight (world structs c) (c.first_temp + length a.temps) a.code
  pub operands : All (IsOperand (c.first_temp + length a.temps)) a.operands

pub none_good : (structs : List StructDef) (c : Context) (ln : IsLined c) (temps : List Temp)
    → GoodArguments structs c temps (no_arguments temps)
none_good structs c ln temps =
    record { behind = behind_self temps; code = straight_none (world structs c) _; operands = All-nil (IsOperand _) }

with_argument_good : (structs : List StructDef) (c : Context) (ln : IsLined c) (temps : List Temp) (before : Arguments) (v : Value)
    → GoodArguments structs c temps before
    → GoodValue structs c before.temps v → GoodArguments structs c temps (with_argument before v)
with_argument_good structs c ln temps before v h k =
    let longer = k.behind.longer in
    record {
      behind = behind_both temps before.temps v.temps h.behind k.behind;
      code =
          straight_append (world structs c) _ before.code v.code
          (straight_more (world structs c) _ _ (omega arith) before.code h.code) k.code;
      operands = All-append (IsOperand _) before.operands (v.operand ∷ []) (λ i d lt. operand_more _ _ (omega arith) _ (h.operands i d lt))
          (All-cons (IsOperand _) v.operand [] k.operand (All-nil (IsOperand _)));
    }

abbrev pub AreGoodLowerings : List StructDef → Context → List Lowering → Type 0
AreGoodLowerings structs c [] = Unit {0}
AreGoodLowerings structs c (first ∷ others) = GoodLowering structs c first × AreGoodLowerings structs c others

pub arguments_good : (structs : List StructDef) (c : Context) (ln : IsLined c) (temps : List Temp) (before : Arguments)
    (all : List Lowering) → GoodArguments structs c temps before
    → AreGoodLowerings structs c all → GoodArguments structs c temps (arguments before all)
arguments_good structs c ln temps before [] h k = h
arguments_good structs c ln temps before (first ∷ others) h k =
    arguments_good structs c ln temps (with_argument before (first.value before.temps)) others
    (with_argument_good structs c ln temps before (first.value before.temps) h (k.0.value before.temps)) k.1

-- as many operands as arguments
pub arguments_count : (before : Arguments) (all : List Lowering)
    → length (arguments before all).operands ≡ length before.operands + length all
arguments_count before [] = omega arith
arguments_count before (first ∷ others) =
    let e = arguments_count (with_argument before (first.value before.temps)) others in
    let one = length-append before.operands ((first.value before.temps).operand ∷ []) in
    omega arith

-- a procedure of the name is declared, and has this many parameters
pub record IsCallable (c : Context) (callee : Name) (n : ℕ) : Type 0 where
  pub name : IsCName callee.text
  pub few : n < 4294967296
  pub fits : IfSome (procedure_in c.env.tables.procedures callee.text) (λ found. length (listed found.head.params) ≡ n)

pub call_by_good : (structs : List StructDef) (c : Context) (ln : IsLined c) (temps : List Temp) (callee : Name) (a : Arguments)
    → GoodArguments structs c temps a
    → IsCallable c callee (length a.operands) → GoodMaking structs c temps (call_by callee a)
call_by_good structs c ln temps callee a h k = record {
  behind = h.behind;
  code = h.code;
  make = λ slots to le lt total next e.
      ((lt, k.few, (λ i d i_lt. operand_more _ slots le _ (h.operands i d i_lt)), e, k.name), k.fits);
}

-- MALLOC

pub new_by_good : (structs : List StructDef) (c : Context) (ln : IsLined c) (tag : List ℕ) → IsKind structs tag → (temps : List Temp)
    → GoodMaking structs c temps (new_by tag temps)
new_by_good structs c ln tag h temps = record {
  behind = behind_self temps;
  code = straight_none (world structs c) _;
  make = λ slots to le lt total next e. ((lt, h, e), tt);
}
