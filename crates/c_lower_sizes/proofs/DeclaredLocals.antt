-- Each local has a type, and a node at least.
use Rattle.std.proofs.Common.{◌≡◌, suc, ◌≤◌, List, [], ◌∷◌, length, refl, arith, ap, ◌∙◌}
use Rattle.std.specs.Prelude.{Option, Some, None}
use Rattle.std.proofs.lemmas.List.{length-append}
use Rattle.c_grammar.specs.Trees.{Specifier, BinaryOp, PrefixOp, Expr, Links, Initialized, Local, ForInit, Stmt, Stmts}
use Rattle.c_types_rules.specs.Tables.{Tables}
use Rattle.c_lower_rules.specs.Statements.{kinds_of_locals, init_kinds, stmt_kinds, stmts_kinds}
use Rattle.c_lower_sizes.specs.Sizes.{Uses, binary_uses, prefix_uses, expr_uses, chain_uses, initial_size, locals_size, declaration_size}
use Rattle.c_lower_sizes.specs.Sizes.{init_size, stmt_size, stmts_size, declared, init_locals, stmt_locals, stmts_locals}
use Rattle.c_lower_sizes.specs.Laws.{HaveLocalKinds, HaveANodeForEachLocal}
use Rattle.c_lower_sizes.proofs.Pieces.{sums}

-- THEIR TYPES

kinds_counted : (tables : Tables) (specifier : Specifier) (all : List Initialized)
    → length (kinds_of_locals tables specifier all) ≡ length all
kinds_counted tables specifier [] = refl
kinds_counted tables specifier (first ∷ others) = ap suc (kinds_counted tables specifier others)

init_kinds_counted : (tables : Tables) (i : ForInit) → length (init_kinds tables i) ≡ init_locals i
init_kinds_counted tables ForInit.NoInit = refl
init_kinds_counted tables (ForInit.Locals l) = let all = kinds_counted tables l.specifier (l.first ∷ l.others) in omega arith
init_kinds_counted tables (ForInit.Once s) = refl

mutual
  pub stmt_kinds_counted : (tables : Tables) (s : Stmt) → length (stmt_kinds tables s) ≡ stmt_locals s
  stmt_kinds_counted tables (Stmt.Block place body end) = stmts_kinds_counted tables body
  stmt_kinds_counted tables (Stmt.Empty place) = refl
  stmt_kinds_counted tables (Stmt.Declare l) = let all = kinds_counted tables l.specifier (l.first ∷ l.others) in omega arith
  stmt_kinds_counted tables (Stmt.Do s) = refl
  stmt_kinds_counted tables (Stmt.If place e body) = stmt_kinds_counted tables body
  stmt_kinds_counted tables (Stmt.IfElse place e body other) =
      length-append (stmt_kinds tables body) (stmt_kinds tables other)
      ∙ sums (stmt_kinds_counted tables body) (stmt_kinds_counted tables other)
  stmt_kinds_counted tables (Stmt.While place e body) = stmt_kinds_counted tables body
  stmt_kinds_counted tables (Stmt.DoWhile place body e) = stmt_kinds_counted tables body
  stmt_kinds_counted tables (Stmt.For place first e step body) =
      length-append (init_kinds tables first) (stmt_kinds tables body)
      ∙ sums (init_kinds_counted tables first) (stmt_kinds_counted tables body)
  stmt_kinds_counted tables (Stmt.Break place) = refl
  stmt_kinds_counted tables (Stmt.Continue place) = refl
  stmt_kinds_counted tables (Stmt.Return place value) = refl

  pub stmts_kinds_counted : (tables : Tables) (all : Stmts) → length (stmts_kinds tables all) ≡ stmts_locals all
  stmts_kinds_counted tables Stmts.NoStmts = refl
  stmts_kinds_counted tables (Stmts.Next first others) =
      length-append (stmt_kinds tables first) (stmts_kinds tables others)
      ∙ sums (stmt_kinds_counted tables first) (stmts_kinds_counted tables others)

pub have_local_kinds : HaveLocalKinds
have_local_kinds tables body = stmts_kinds_counted tables body

-- THEIR NODES

-- what puts a value into a slot is a command
binary_puts : (op : BinaryOp) (left right : Uses) → 1 ≤ (binary_uses op left right).into
binary_puts BinaryOp.Or left right = omega arith
binary_puts BinaryOp.And left right = omega arith
binary_puts BinaryOp.Equal left right = omega arith
binary_puts BinaryOp.NotEqual left right = omega arith
binary_puts BinaryOp.Less left right = omega arith
binary_puts BinaryOp.LessEqual left right = omega arith
binary_puts BinaryOp.Greater left right = omega arith
binary_puts BinaryOp.GreaterEqual left right = omega arith
binary_puts BinaryOp.Add left right = omega arith
binary_puts BinaryOp.Subtract left right = omega arith
binary_puts BinaryOp.Multiply left right = omega arith

prefix_puts : (op : PrefixOp) (inner : Uses) → 1 ≤ (prefix_uses op inner).into
prefix_puts PrefixOp.Negate inner = omega arith
prefix_puts PrefixOp.Not inner = omega arith

chain_puts : (before : Uses) (others : Links) → 1 ≤ before.into → 1 ≤ (chain_uses before others).into
chain_puts before Links.NoLinks h = h
chain_puts before (Links.Link op operand others) h =
    chain_puts (binary_uses op before (expr_uses operand)) others (binary_puts op before (expr_uses operand))

expr_puts : (e : Expr) → 1 ≤ (expr_uses e).into
expr_puts (Expr.Chain first others) = chain_puts (expr_uses first) others (expr_puts first)
expr_puts (Expr.Prefix place op inner) = prefix_puts op (expr_uses inner)
expr_puts (Expr.Members base first others) = omega arith
expr_puts (Expr.Variable n) = omega arith
expr_puts (Expr.Number place value) = omega arith
expr_puts (Expr.Null place) = omega arith
expr_puts (Expr.Paren place inner) = expr_puts inner
expr_puts (Expr.Call callee args) = omega arith
expr_puts (Expr.Malloc place as_type allocated) = omega arith

initial_puts : (value : Option Expr) → 1 ≤ initial_size value
initial_puts None = omega arith
initial_puts (Some value) = expr_puts value

locals_puts : (all : List Initialized) → length all ≤ locals_size all
locals_puts [] = omega arith
locals_puts (first ∷ others) =
    let one = initial_puts first.value in
    let rest = locals_puts others in
    omega arith

declaration_puts : (l : Local) → declared l ≤ declaration_size l
declaration_puts l =
    let one = initial_puts l.first.value in
    let rest = locals_puts l.others in
    omega arith

init_puts : (i : ForInit) → init_locals i ≤ init_size i
init_puts ForInit.NoInit = omega arith
init_puts (ForInit.Locals l) = declaration_puts l
init_puts (ForInit.Once s) = omega arith

mutual
  pub stmt_puts : (s : Stmt) → stmt_locals s ≤ stmt_size s
  stmt_puts (Stmt.Block place body end) = stmts_puts body
  stmt_puts (Stmt.Empty place) = omega arith
  stmt_puts (Stmt.Declare l) = declaration_puts l
  stmt_puts (Stmt.Do s) = omega arith
  stmt_puts (Stmt.If place e body) = let one = stmt_puts body in omega arith
  stmt_puts (Stmt.IfElse place e body other) =
      let one = stmt_puts body in
      let next = stmt_puts other in
      omega arith
  stmt_puts (Stmt.While place e body) = let one = stmt_puts body in omega arith
  stmt_puts (Stmt.DoWhile place body e) = let one = stmt_puts body in omega arith
  stmt_puts (Stmt.For place first e step body) =
      let begin = init_puts first in
      let one = stmt_puts body in
      omega arith
  stmt_puts (Stmt.Break place) = omega arith
  stmt_puts (Stmt.Continue place) = omega arith
  stmt_puts (Stmt.Return place value) = omega arith

  pub stmts_puts : (all : Stmts) → stmts_locals all ≤ stmts_size all
  stmts_puts Stmts.NoStmts = omega arith
  stmts_puts (Stmts.Next first others) =
      let one = stmt_puts first in
      let rest = stmts_puts others in
      omega arith

pub have_a_node_for_each_local : HaveANodeForEachLocal
have_a_node_for_each_local body = stmts_puts body
