-- The code of an expression has as many nodes in each of its uses as its syntax says.
use Rattle.std.proofs.Common.{◌≡◌, ℕ, ◌+◌, List, [], ◌∷◌, length, arith, subst}
use Rattle.shape_data.specs.declared.program.ArithOp.{ArithOp}
use Rattle.shape_data.specs.declared.program.Operand.{Operand}
use Rattle.shape_data.specs.declared.program.TestOp.{TestOp}
use Rattle.shape_data.specs.declared.program.Ty.{Ty}
use Rattle.shape_data.specs.declared.program.Ty.TheVariants.{Int}
use Rattle.c_grammar.specs.Trees.{Name, Specifier, BinaryOp, PrefixOp, Expr, Links, Args}
use Rattle.c_lower_rules.specs.Code.{no_nodes}
use Rattle.c_lower_rules.specs.Temporaries.{Temp, take_temp}
use Rattle.c_lower_rules.specs.Contexts.{Context}
use Rattle.c_lower_rules.specs.Values.{Value, Tested, Making, Lowering, slot_taken, not_zero, at_hand, put_into, made_value, made}
use Rattle.c_lower_rules.specs.Values.{put_truth, truth}
use Rattle.c_lower_rules.specs.Expressions.{arithmetic, comparison, conjunction, disjunction, binary, prefix, field_behind, member, members}
use Rattle.c_lower_rules.specs.Expressions.{Arguments, with_argument, arguments, no_arguments, new, lowering, chain, lowerings, wanted}
use Rattle.c_lower_sizes.specs.Sizes.{Uses, at_hand_uses, made_uses, truth_uses, arithmetic_uses, comparison_uses, logical_uses}
use Rattle.c_lower_sizes.specs.Sizes.{binary_uses, prefix_uses, expr_uses, chain_uses, args_size}
use Rattle.c_lower_sizes.proofs.Pieces.{HasStraight, straight_is, straight_none, straight_append, straight_of, HasSize, code_is}
use Rattle.c_lower_sizes.proofs.Pieces.{code_command, code_before, HasTest, test_is, test_branch, test_after, test_opposite, test_both}
use Rattle.c_lower_sizes.proofs.Pieces.{test_either, code_choose}

pub record IsSized (uses : Uses) (l : Lowering) : Type 0 where
  pub value : (temps : List Temp) → HasStraight uses.value (l.value temps).code
  pub into : (to : ℕ) (temps : List Temp) → HasSize uses.into (l.into to temps).code
  pub test : (temps : List Temp) → HasTest uses.test (l.test temps).test

-- USES

not_zero_sized : (n : ℕ) (c : Context) (kind : Ty) (v : Value) → HasStraight n v.code → HasTest (n + 1) (not_zero c kind v).test
not_zero_sized n c kind v h = test_after n 1 v.code _ h (test_branch c.line _ _ v.operand _)

pub at_hand_sized : (c : Context) (kind : Ty) (operand : Operand) → IsSized at_hand_uses (at_hand c kind operand)
at_hand_sized c kind operand = record {
  value = λ temps. straight_none;
  into = λ to temps. code_command c.line _;
  test = λ temps. not_zero_sized 0 c kind (record { code = no_nodes; operand = operand; temps = temps }) straight_none;
}

put_sized : (n : ℕ) (c : Context) (to : ℕ) (m : Making) → HasStraight n m.code → HasSize (n + 1) (put_into c to m).code
put_sized n c to m h = code_before n 1 m.code _ h (code_command c.line (m.make to))

made_value_sized : (n : ℕ) (c : Context) (kind : Ty) (m : Making) → HasStraight n m.code → HasStraight (n + 1) (made_value c kind m).code
made_value_sized n c kind m h = straight_of (n + 1) _ (put_sized n c (slot_taken c (take_temp kind m.temps)) m h)

pub made_sized : (n : ℕ) (c : Context) (kind : Ty) (making : List Temp → Making) → ((temps : List Temp) → HasStraight n (making temps).code)
    → IsSized (made_uses n) (made c kind making)
made_sized n c kind making h = record {
  value = λ temps. made_value_sized n c kind (making temps) (h temps);
  into = λ to temps. put_sized n c to (making temps) (h temps);
  test = λ temps.
      test_is (n + 1 + 1) (n + 2) (omega arith) _
      (not_zero_sized (n + 1) c kind (made_value c kind (making temps)) (made_value_sized n c kind (making temps) (h temps)));
}

put_truth_sized : (n : ℕ) (c : Context) (to : ℕ) (t : Tested) → HasTest n t.test → HasSize (n + 2) (put_truth c to t).code
put_truth_sized n c to t h =
    code_is (n + 1 + 1) (n + 2) (omega arith) _ (code_choose n 1 1 t.test _ _ h (code_command c.line _) (code_command c.line _))

pub truth_sized : (n : ℕ) (c : Context) (testing : List Temp → Tested) → ((temps : List Temp) → HasTest n (testing temps).test)
    → IsSized (truth_uses n) (truth c testing)
truth_sized n c testing h = record {
  value = λ temps.
      straight_of (n + 2) _
      (put_truth_sized n c (slot_taken c (take_temp Int temps)) (testing (take_temp Int temps).temps) (h (take_temp Int temps).temps));
  into = λ to temps. put_truth_sized n c to (testing temps) (h temps);
  test = h;
}

-- OPERATORS

pub arithmetic_sized : (c : Context) (op : ArithOp) (one other : Uses) (left right : Lowering) → IsSized one left → IsSized other right
    → IsSized (arithmetic_uses one other) (arithmetic c op left right)
arithmetic_sized c op one other left right h k = made_sized (one.value + other.value) c Int _ (λ temps.
    straight_append one.value other.value (left.value temps).code (right.value (left.value temps).temps).code
    (h.value temps) (k.value (left.value temps).temps))

comparison_sized : (c : Context) (op : TestOp) (one other : Uses) (left right : Lowering) → IsSized one left → IsSized other right
    → IsSized (comparison_uses one other) (comparison c op left right)
comparison_sized c op one other left right h k = truth_sized (one.value + other.value + 1) c _ (λ temps.
    test_is (one.value + (other.value + 1)) (one.value + other.value + 1) (omega arith) _
    (test_after one.value (other.value + 1) (left.value temps).code _ (h.value temps)
    (test_after other.value 1 (right.value (left.value temps).temps).code _ (k.value (left.value temps).temps)
    (test_branch c.line op _ _ _))))

conjunction_sized : (c : Context) (one other : Uses) (left right : Lowering) → IsSized one left → IsSized other right
    → IsSized (logical_uses one other) (conjunction c left right)
conjunction_sized c one other left right h k = truth_sized (one.test + other.test) c _ (λ temps.
    test_both one.test other.test (left.test temps).test (right.test (left.test temps).temps).test (h.test temps)
    (k.test (left.test temps).temps))

disjunction_sized : (c : Context) (one other : Uses) (left right : Lowering) → IsSized one left → IsSized other right
    → IsSized (logical_uses one other) (disjunction c left right)
disjunction_sized c one other left right h k = truth_sized (one.test + other.test) c _ (λ temps.
    test_either one.test other.test (left.test temps).test (right.test (left.test temps).temps).test (h.test temps)
    (k.test (left.test temps).temps))

pub binary_sized : (c : Context) (op : BinaryOp) (one other : Uses) (left right : Lowering) → IsSized one left → IsSized other right
    → IsSized (binary_uses op one other) (binary c op left right)
binary_sized c BinaryOp.Or one other left right h k = disjunction_sized c one other left right h k
binary_sized c BinaryOp.And one other left right h k = conjunction_sized c one other left right h k
binary_sized c BinaryOp.Equal one other left right h k = comparison_sized c _ one other left right h k
binary_sized c BinaryOp.NotEqual one other left right h k = comparison_sized c _ one other left right h k
binary_sized c BinaryOp.Less one other left right h k = comparison_sized c _ one other left right h k
binary_sized c BinaryOp.LessEqual one other left right h k = comparison_sized c _ one other left right h k
binary_sized c BinaryOp.Greater one other left right h k = comparison_sized c _ one other left right h k
binary_sized c BinaryOp.GreaterEqual one other left right h k = comparison_sized c _ one other left right h k
binary_sized c BinaryOp.Add one other left right h k = arithmetic_sized c _ one other left right h k
binary_sized c BinaryOp.Subtract one other left right h k = arithmetic_sized c _ one other left right h k
binary_sized c BinaryOp.Multiply one other left right h k = arithmetic_sized c _ one other left right h k

pub prefix_sized : (c : Context) (op : PrefixOp) (uses : Uses) (inner : Lowering) → IsSized uses inner
    → IsSized (prefix_uses op uses) (prefix c op inner)
prefix_sized c PrefixOp.Negate uses inner h = made_sized uses.value c Int _ (λ temps. h.value temps)
prefix_sized c PrefixOp.Not uses inner h =
    truth_sized uses.test c _ (λ temps. test_opposite uses.test (inner.test temps).test (h.test temps))

-- MEMBERS

-- a loading of a field behind so many nodes
pub member_sized : (c : Context) (uses : Uses) (base : Lowering) (field : Name) → IsSized uses base
    → IsSized (made_uses uses.value) (member c base (field_behind c base.kind field))
member_sized c uses base field h = made_sized uses.value c _ _ (λ temps. h.value temps)

made_is : (n m : ℕ) → n ≡ m → (l : Lowering) → IsSized (made_uses n) l → IsSized (made_uses m) l
made_is n m e l h = subst (λ k. IsSized (made_uses k) l) e h

members_sized : (c : Context) (n : ℕ) (base : Lowering) (names : List Name) → IsSized (made_uses n) base
    → IsSized (made_uses (n + length names)) (members c base names)
members_sized c n base [] h = made_is n (n + 0) (omega arith) base h
members_sized c n base (first ∷ others) h =
    made_is (n + 1 + length others) (n + length (first ∷ others)) (omega arith) (members c base (first ∷ others))
    (members_sized c (n + 1) (member c base (field_behind c base.kind first)) others (member_sized c (made_uses n) base first h))

-- CALLS AND MALLOC

abbrev pub AreSized : Args → List Lowering → Type 0
AreSized Args.NoArgs [] = Unit {0}
AreSized (Args.Arg first others) (one ∷ rest) = IsSized (expr_uses first) one × AreSized others rest
AreSized _ _ = ⊥

arguments_sized : (n : ℕ) (before : Arguments) (args : Args) (all : List Lowering) → HasStraight n before.code → AreSized args all
    → HasStraight (n + args_size args) (arguments before all).code
arguments_sized n before Args.NoArgs [] h k = straight_is n (n + 0) (omega arith) before.code h
arguments_sized n before (Args.Arg first others) (one ∷ rest) h k =
    straight_is (n + (expr_uses first).value + args_size others) (n + args_size (Args.Arg first others)) (omega arith)
    (arguments before (one ∷ rest)).code
    (arguments_sized (n + (expr_uses first).value) (with_argument before (one.value before.temps)) others rest
    (straight_append n (expr_uses first).value before.code (one.value before.temps).code h (k.0.value before.temps)) k.1)
arguments_sized n before Args.NoArgs (one ∷ rest) h k = absurd k
arguments_sized n before (Args.Arg first others) [] h k = absurd k

pub given_sized : (args : Args) (all : List Lowering) → AreSized args all → (temps : List Temp)
    → HasStraight (args_size args) (arguments (no_arguments temps) all).code
given_sized args all k temps =
    straight_is (0 + args_size args) (args_size args) (omega arith) _ (arguments_sized 0 (no_arguments temps) args all straight_none k)

new_sized : (c : Context) (kind : Ty) (allocated : Specifier) → IsSized (made_uses 0) (new c kind allocated)
new_sized c kind allocated = made_sized 0 c kind _ (λ temps. straight_none)

-- EXPRESSIONS

mutual
  pub lowering_sized : (c : Context) (e : Expr) → IsSized (expr_uses e) (lowering c e)
  lowering_sized c (Expr.Chain first others) = chain_sized c (expr_uses first) (lowering c first) others (lowering_sized c first)
  lowering_sized c (Expr.Prefix place op inner) = prefix_sized c op (expr_uses inner) (lowering c inner) (lowering_sized c inner)
  lowering_sized c (Expr.Members base first others) =
      members_sized c (expr_uses base).value (member c (lowering c base) (field_behind c (lowering c base).kind first)) others
      (member_sized c (expr_uses base) (lowering c base) first (lowering_sized c base))
  lowering_sized c (Expr.Variable n) = at_hand_sized c _ _
  lowering_sized c (Expr.Number place value) = at_hand_sized c _ _
  lowering_sized c (Expr.Null place) = at_hand_sized c _ _
  lowering_sized c (Expr.Paren place inner) = lowering_sized c inner
  lowering_sized c (Expr.Call callee args) =
      made_sized (args_size args) c _ _ (λ temps. given_sized args (lowerings c args) (args_sized c args) temps)
  lowering_sized c (Expr.Malloc place as_type allocated) = new_sized c _ allocated

  chain_sized : (c : Context) (uses : Uses) (before : Lowering) (others : Links) → IsSized uses before
      → IsSized (chain_uses uses others) (chain c before others)
  chain_sized c uses before Links.NoLinks h = h
  chain_sized c uses before (Links.Link op operand others) h =
      chain_sized c (binary_uses op uses (expr_uses operand)) (binary c op before (lowering c operand)) others
      (binary_sized c op uses (expr_uses operand) before (lowering c operand) h (lowering_sized c operand))

  pub args_sized : (c : Context) (args : Args) → AreSized args (lowerings c args)
  args_sized c Args.NoArgs = tt
  args_sized c (Args.Arg first others) = (lowering_sized c first, args_sized c others)

pub wanted_sized : (c : Context) (kind : Ty) (e : Expr) → IsSized (expr_uses e) (wanted c kind e)
wanted_sized c kind (Expr.Paren place inner) = wanted_sized c kind inner
wanted_sized c kind (Expr.Malloc place as_type allocated) = new_sized c kind allocated
wanted_sized c kind other = lowering_sized c other
