-- How many nodes the code of expressions, statements and bodies has, from their syntax alone.
use Rattle.std.specs.Prelude.{ℕ, ◌+◌, Option, Some, None, List, [], ◌∷◌, length}
use Rattle.c_grammar.specs.Trees.{BinaryOp, PrefixOp, Expr, Links, Args, AssignOp, Simple, Initialized, Local, ForInit, Stmt, Stmts}

-- how many nodes an expression has in each of its uses: for its value, into a slot, as a test
pub record Uses : Type 0 where
  pub value : ℕ
  pub into : ℕ
  pub test : ℕ

-- a number or a variable: there is nothing to compute
abbrev pub at_hand_uses : Uses
at_hand_uses = record { value = 0; into = 1; test = 1 }

-- a value that a command makes, with so many nodes before the command
abbrev pub made_uses : ℕ → Uses
made_uses before = record { value = before + 1; into = before + 1; test = before + 2 }

-- a test of so many nodes: where its value is wanted, 1 or 0 is put behind it
abbrev pub truth_uses : ℕ → Uses
truth_uses test = record { value = test + 2; into = test + 2; test = test }

-- EXPRESSIONS

-- `+`, `-` and `*` (C11 6.5.5, 6.5.6)
abbrev pub arithmetic_uses : Uses → Uses → Uses
arithmetic_uses left right = made_uses (left.value + right.value)

-- `==`, `<` and the like (C11 6.5.8, 6.5.9)
abbrev pub comparison_uses : Uses → Uses → Uses
comparison_uses left right = truth_uses (left.value + right.value + 1)

-- `&&` and `||` (C11 6.5.13, 6.5.14)
abbrev pub logical_uses : Uses → Uses → Uses
logical_uses left right = truth_uses (left.test + right.test)

-- what an operator makes of its operands
abbrev pub binary_uses : BinaryOp → Uses → Uses → Uses
binary_uses BinaryOp.Or left right = logical_uses left right
binary_uses BinaryOp.And left right = logical_uses left right
binary_uses BinaryOp.Equal left right = comparison_uses left right
binary_uses BinaryOp.NotEqual left right = comparison_uses left right
binary_uses BinaryOp.Less left right = comparison_uses left right
binary_uses BinaryOp.LessEqual left right = comparison_uses left right
binary_uses BinaryOp.Greater left right = comparison_uses left right
binary_uses BinaryOp.GreaterEqual left right = comparison_uses left right
binary_uses BinaryOp.Add left right = arithmetic_uses left right
binary_uses BinaryOp.Subtract left right = arithmetic_uses left right
binary_uses BinaryOp.Multiply left right = arithmetic_uses left right

-- `-` and `!` (C11 6.5.3.3)
abbrev pub prefix_uses : PrefixOp → Uses → Uses
prefix_uses PrefixOp.Negate inner = made_uses inner.value
prefix_uses PrefixOp.Not inner = truth_uses inner.test

abbrev mutual
  -- one node loads for each `->` (C11 6.5.2.3)
  pub expr_uses : Expr → Uses
  expr_uses (Expr.Chain first others) = chain_uses (expr_uses first) others
  expr_uses (Expr.Prefix place op inner) = prefix_uses op (expr_uses inner)
  expr_uses (Expr.Members base first others) = made_uses ((expr_uses base).value + length others)
  expr_uses (Expr.Variable n) = at_hand_uses
  expr_uses (Expr.Number place value) = at_hand_uses
  expr_uses (Expr.Null place) = at_hand_uses
  expr_uses (Expr.Paren place inner) = expr_uses inner
  expr_uses (Expr.Call callee args) = made_uses (args_size args)
  expr_uses (Expr.Malloc place as_type allocated) = made_uses 0

  -- operands of one level, grouped from the left, behind what stands before them
  pub chain_uses : Uses → Links → Uses
  chain_uses before Links.NoLinks = before
  chain_uses before (Links.Link op operand others) = chain_uses (binary_uses op before (expr_uses operand)) others

  -- the values of the arguments of a call
  pub args_size : Args → ℕ
  args_size Args.NoArgs = 0
  args_size (Args.Arg first others) = (expr_uses first).value + args_size others

-- SIMPLE STATEMENTS

-- what is assigned to: none for a variable; for a field, the nodes of the pointer before the last `->`
abbrev pub target_size : Expr → Option ℕ
target_size (Expr.Paren place inner) = target_size inner
target_size (Expr.Members base first others) = Some ((expr_uses base).value + length others)
target_size other = None

-- `=` (C11 6.5.16.1)
abbrev pub assign_size : Option ℕ → Uses → ℕ
assign_size None value = value.into
assign_size (Some pointer) value = value.value + pointer + 1

-- `+=` and the like, and `++` and `--`: load, compute, store (C11 6.5.2.4, 6.5.16.2)
abbrev pub update_size : Option ℕ → Uses → ℕ
update_size None by = by.value + 1
update_size (Some pointer) by = pointer + by.value + 3

-- the assignment that its operator says
abbrev pub assign_by_size : AssignOp → Option ℕ → Uses → ℕ
assign_by_size AssignOp.Set to value = assign_size to value
assign_by_size AssignOp.AddTo to value = update_size to value
assign_by_size AssignOp.SubtractFrom to value = update_size to value
assign_by_size AssignOp.MultiplyBy to value = update_size to value

-- an assignment, a step, a call (C11 6.5.2.2) or a `free` (C11 7.22.3.3)
abbrev pub simple_size : Simple → ℕ
simple_size (Simple.Assign left op right) = assign_by_size op (target_size left) (expr_uses right)
simple_size (Simple.Step left op) = update_size (target_size left) at_hand_uses
simple_size (Simple.Perform callee args) = args_size args + 1
simple_size (Simple.Free place pointer) = (expr_uses pointer).value + 1

-- LOCALS

-- a local holds any value, or that of its initializer (C11 6.7.9)
abbrev pub initial_size : Option Expr → ℕ
initial_size None = 1
initial_size (Some value) = (expr_uses value).into

-- declarators
abbrev pub locals_size : List Initialized → ℕ
locals_size [] = 0
locals_size (first ∷ others) = initial_size first.value + locals_size others

-- a declaration
abbrev pub declaration_size : Local → ℕ
declaration_size l = initial_size l.first.value + locals_size l.others

-- STATEMENTS

-- what a `for` begins with (C11 6.8.5.3)
abbrev pub init_size : ForInit → ℕ
init_size ForInit.NoInit = 0
init_size (ForInit.Locals l) = declaration_size l
init_size (ForInit.Once s) = simple_size s

-- a condition that is missing is the number 1 (C11 6.8.5.3)
abbrev pub condition_size : Option Expr → ℕ
condition_size None = 1
condition_size (Some e) = (expr_uses e).test

-- the step of a `for`
abbrev pub step_size : Option Simple → ℕ
step_size None = 0
step_size (Some s) = simple_size s

-- `return` (C11 6.8.6.4)
abbrev pub return_size : Option Expr → ℕ
return_size None = 1
return_size (Some value) = (expr_uses value).value + 1

abbrev mutual
  -- a statement (C11 6.8)
  pub stmt_size : Stmt → ℕ
  stmt_size (Stmt.Block place body end) = stmts_size body
  stmt_size (Stmt.Empty place) = 0
  stmt_size (Stmt.Declare l) = declaration_size l
  stmt_size (Stmt.Do s) = simple_size s
  stmt_size (Stmt.If place e body) = (expr_uses e).test + stmt_size body
  stmt_size (Stmt.IfElse place e body other) = (expr_uses e).test + stmt_size body + stmt_size other
  stmt_size (Stmt.While place e body) = (expr_uses e).test + stmt_size body
  stmt_size (Stmt.DoWhile place body e) = stmt_size body + (expr_uses e).test
  stmt_size (Stmt.For place first e step body) = init_size first + condition_size e + stmt_size body + step_size step
  stmt_size (Stmt.Break place) = 0
  stmt_size (Stmt.Continue place) = 0
  stmt_size (Stmt.Return place value) = return_size value

  -- the nodes of a body, without those that close it
  pub stmts_size : Stmts → ℕ
  stmts_size Stmts.NoStmts = 0
  stmts_size (Stmts.Next first others) = stmt_size first + stmts_size others

-- HOW MANY LOCALS ARE DECLARED

-- how many locals a declaration declares
abbrev pub declared : Local → ℕ
declared l = length l.others + 1

-- how many what a `for` begins with declares
abbrev pub init_locals : ForInit → ℕ
init_locals (ForInit.Locals l) = declared l
init_locals _ = 0

abbrev mutual
  -- how many a statement declares
  pub stmt_locals : Stmt → ℕ
  stmt_locals (Stmt.Block place body end) = stmts_locals body
  stmt_locals (Stmt.Declare l) = declared l
  stmt_locals (Stmt.If place e body) = stmt_locals body
  stmt_locals (Stmt.IfElse place e body other) = stmt_locals body + stmt_locals other
  stmt_locals (Stmt.While place e body) = stmt_locals body
  stmt_locals (Stmt.DoWhile place body e) = stmt_locals body
  stmt_locals (Stmt.For place first e step body) = init_locals first + stmt_locals body
  stmt_locals _ = 0

  -- how many statements declare
  pub stmts_locals : Stmts → ℕ
  stmts_locals Stmts.NoStmts = 0
  stmts_locals (Stmts.Next first others) = stmt_locals first + stmts_locals others
