-- The code of expressions. Operands are evaluated from the left.
use Rattle.std.specs.Prelude.{ℕ, Bool, ◌||◌, Some, List, [], ◌∷◌, ◌++◌, pos}
use Rattle.shape_data.specs.declared.program.ArithOp.{ArithOp}
use Rattle.shape_data.specs.declared.program.ArithOp.TheVariants as arith
use Rattle.shape_data.specs.declared.program.Cmd.TheVariants as cmd
use Rattle.shape_data.specs.declared.program.Operand.{Operand}
use Rattle.shape_data.specs.declared.program.Operand.TheVariants.{Slot, Num}
use Rattle.shape_data.specs.declared.program.TestOp.{TestOp}
use Rattle.shape_data.specs.declared.program.TestOp.TheVariants as test
use Rattle.shape_data.specs.declared.program.Ty.{Ty}
use Rattle.shape_data.specs.declared.program.Ty.TheVariants.{Int}
use Rattle.c_grammar.specs.Trees.{Name, Specifier, BinaryOp, PrefixOp, Expr, Links, Args}
use Rattle.c_types_rules.specs.Tables.{procedure_in, pointer_of, field_place}
use Rattle.c_types_rules.specs.Scopes.{variable}
use Rattle.c_types_rules.specs.Expressions.{kind_of_variable, kind_of_member, kind_of_call}
use Rattle.c_types_rules.specs.Programs.{known}
use Rattle.c_lower_rules.specs.Code.{Straight, no_nodes, ◌⊹◌, branch, test_behind, opposite, both, either}
use Rattle.c_lower_rules.specs.Temporaries.{Temp}
use Rattle.c_lower_rules.specs.Contexts.{Context, slot_of, tag_of}
use Rattle.c_lower_rules.specs.Values.{◌▹◌, Value, Tested, Making, Lowering, is_pointer, at_hand, made, truth}

-- ARITHMETIC (C11 6.5.3.3, 6.5.5, 6.5.6)

-- both operands, from the left, then the command (C11 6.5.5, 6.5.6)
abbrev pub arith_both : ArithOp → Value → Value → Making
arith_both op left right = record {
  code = left.code ⊹ right.code;
  make = λ to next. cmd.Arith to op left.operand right.operand next;
  temps = right.temps;
}

-- `a + b`, `a - b` and `a * b`
abbrev pub arithmetic : Context → ArithOp → Lowering → Lowering → Lowering
arithmetic c op left right = made c Int (λ temps. left.value temps ▹ (λ l. right.value l.temps ▹ (λ r. arith_both op l r)))

-- the operand, then the command that takes it from 0
abbrev pub negate_by : Value → Making
negate_by v = record { code = v.code; make = λ to next. cmd.Arith to arith.Sub (Num (pos 0)) v.operand next; temps = v.temps }

-- `-e` is 0 - e
abbrev pub negated : Context → Lowering → Lowering
negated c inner = made c Int (λ temps. negate_by (inner.value temps))

-- TESTS (C11 6.5.3.3, 6.5.8, 6.5.9, 6.5.13, 6.5.14)

-- both operands, from the left, then the branch that compares them
abbrev pub compare_both : Context → TestOp → Bool → Value → Value → Tested
compare_both c op pointers left right = record {
  test = test_behind left.code (test_behind right.code (branch c.line op pointers left.operand right.operand));
  temps = right.temps;
}

-- `a == b`, `a < b` and the like (C11 6.5.8, 6.5.9): pointers are compared where one of the operands has a pointer's type
abbrev pub comparison : Context → TestOp → Lowering → Lowering → Lowering
comparison c op left right =
    truth c (λ temps. left.value temps
    ▹ (λ l. right.value l.temps ▹ (λ r. compare_both c op (is_pointer left.kind || is_pointer right.kind) l r)))

-- `a && b` (C11 6.5.13)
abbrev pub conjunction : Context → Lowering → Lowering → Lowering
conjunction c left right =
    truth c (λ temps. left.test temps ▹ (λ l. right.test l.temps ▹ (λ r. record { test = both l.test r.test; temps = r.temps })))

-- `a || b` (C11 6.5.14)
abbrev pub disjunction : Context → Lowering → Lowering → Lowering
disjunction c left right =
    truth c (λ temps. left.test temps ▹ (λ l. right.test l.temps ▹ (λ r. record { test = either l.test r.test; temps = r.temps })))

-- `!a` (C11 6.5.3.3)
abbrev pub negation : Context → Lowering → Lowering
negation c inner = truth c (λ temps. inner.test temps ▹ (λ t. record { test = opposite t.test; temps = t.temps }))

-- what an operator makes of its operands
abbrev pub binary : Context → BinaryOp → Lowering → Lowering → Lowering
binary c BinaryOp.Or left right = disjunction c left right
binary c BinaryOp.And left right = conjunction c left right
binary c BinaryOp.Equal left right = comparison c test.Eq left right
binary c BinaryOp.NotEqual left right = comparison c test.Ne left right
binary c BinaryOp.Less left right = comparison c test.Lt left right
binary c BinaryOp.LessEqual left right = comparison c test.Le left right
binary c BinaryOp.Greater left right = comparison c test.Gt left right
binary c BinaryOp.GreaterEqual left right = comparison c test.Ge left right
binary c BinaryOp.Add left right = arithmetic c arith.Add left right
binary c BinaryOp.Subtract left right = arithmetic c arith.Sub left right
binary c BinaryOp.Multiply left right = arithmetic c arith.Mul left right

-- what a prefix operator makes of its operand
abbrev pub prefix : Context → PrefixOp → Lowering → Lowering
prefix c PrefixOp.Negate inner = negated c inner
prefix c PrefixOp.Not inner = negation c inner

-- MEMBERS (C11 6.5.2.3)

-- the slot that a value is read from; a pointer into which a member is asked for is never a number where nothing is refused
abbrev pub slot_read : Operand → ℕ
slot_read (Slot slot) = slot
slot_read (Num n) = 0

-- a field of what a pointer points to, where nodes stand
pub record Field : Type 0 where
  pub tag : List ℕ
  pub place : ℕ
  pub kind : Ty

-- the field of that name in the structure that a pointer of this type points to
abbrev pub field_behind : Context → Ty → Name → Field
field_behind c pointer field = record {
  tag = tag_of pointer;
  place = field_place c.env.tables (tag_of pointer) field.text;
  kind = known (kind_of_member c.env.tables (Some pointer) field);
}

-- the pointer, then the command that loads the field
abbrev pub load_by : Field → Value → Making
load_by field base = record {
  code = base.code;
  make = λ to next. cmd.Load to (slot_read base.operand) field.tag field.place next;
  temps = base.temps;
}

-- `e->f` (C11 6.5.2.3)
abbrev pub member : Context → Lowering → Field → Lowering
member c base field = made c field.kind (λ temps. load_by field (base.value temps))

-- one `->` behind another, from the left
abbrev pub members : Context → Lowering → List Name → Lowering
members c base [] = base
members c base (first ∷ others) = members c (member c base (field_behind c base.kind first)) others

-- CALLS (C11 6.5.2.2) AND MALLOC (C11 7.22.3.4)

-- the code of arguments, their values in order, and the temporaries behind them
pub record Arguments : Type 0 where
  pub code : Straight
  pub operands : List Operand
  pub temps : List Temp

-- one argument more
abbrev pub with_argument : Arguments → Value → Arguments
with_argument before v = record { code = before.code ⊹ v.code; operands = before.operands ++ v.operand ∷ []; temps = v.temps }

-- the values of arguments, from the left
abbrev pub arguments : Arguments → List Lowering → Arguments
arguments before [] = before
arguments before (first ∷ others) = arguments (with_argument before (first.value before.temps)) others

-- before the first argument
abbrev pub no_arguments : List Temp → Arguments
no_arguments temps = record { code = no_nodes; operands = []; temps = temps }

-- the arguments, then the call into a slot
abbrev pub call_by : Name → Arguments → Making
call_by callee args = record { code = args.code; make = λ to next. cmd.Call (Some to) callee.text args.operands next; temps = args.temps }

-- a call for its result (C11 6.5.2.2)
abbrev pub called : Context → Name → List Lowering → Lowering
called c callee args =
    made c (known (kind_of_call c.env.tables (procedure_in c.env.tables.procedures callee.text)))
    (λ temps. call_by callee (arguments (no_arguments temps) args))

-- the command that makes a new structure
abbrev pub new_by : List ℕ → List Temp → Making
new_by tag temps = record { code = no_nodes; make = λ to next. cmd.New to tag next; temps = temps }

-- a new structure, to which a pointer of the type is wanted
abbrev pub new : Context → Ty → Specifier → Lowering
new c wanted allocated = made c wanted (new_by (tag_of (known (pointer_of c.env.tables allocated))))

abbrev mutual
  -- an expression (C11 6.5)
  pub lowering : Context → Expr → Lowering
  lowering c (Expr.Chain first others) = chain c (lowering c first) others
  lowering c (Expr.Prefix place op inner) = prefix c op (lowering c inner)
  lowering c (Expr.Members base first others) = members c (lowering c base) (first ∷ others)
  lowering c (Expr.Variable n) = at_hand c (known (kind_of_variable (variable c.env n.text))) (Slot (slot_of c n))
  lowering c (Expr.Number place value) = at_hand c Int (Num (pos value))
  lowering c (Expr.Null place) = at_hand c Int (Num (pos 0))
  lowering c (Expr.Paren place inner) = lowering c inner
  lowering c (Expr.Call callee args) = called c callee (lowerings c args)
  lowering c (Expr.Malloc place as_type allocated) = new c (known (pointer_of c.env.tables allocated)) allocated

  -- operands of one level, grouped from the left, behind what stands before them
  pub chain : Context → Lowering → Links → Lowering
  chain c before Links.NoLinks = before
  chain c before (Links.Link op operand others) = chain c (binary c op before (lowering c operand)) others

  -- the arguments of a call, each for itself
  pub lowerings : Context → Args → List Lowering
  lowerings c Args.NoArgs = []
  lowerings c (Args.Arg first others) = lowering c first ∷ lowerings c others

-- an expression that is stored or returned, where this type is wanted: `malloc` gives a pointer of that type
abbrev pub wanted : Context → Ty → Expr → Lowering
wanted c kind (Expr.Paren place inner) = wanted c kind inner
wanted c kind (Expr.Malloc place as_type allocated) = new c kind allocated
wanted c kind other = lowering c other
