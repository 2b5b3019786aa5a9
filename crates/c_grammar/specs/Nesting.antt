-- How deep a syntax tree nests: a level is opened by each block, each `if`, `while`, `do` and `for`, each prefix `-` and
-- `!`, each `(` of a primary expression round an expression, and each `(` of a call. The `(` of `if`, `while`, `for`,
-- `free`, `malloc`, `sizeof` and of a cast opens none.
use Rattle.std.specs.Prelude.{ℕ, suc, max, Option, Some, None, List, [], ◌∷◌}
use Rattle.c_grammar.specs.Trees.{Expr, Links, Args, Simple, Initialized, Local, ForInit, Stmt, Stmts, Item, File}

abbrev mutual
  pub nesting : Expr → ℕ
  nesting (Expr.Chain first others) = max (nesting first) (links_nesting others)
  nesting (Expr.Prefix place op inner) = suc (nesting inner)
  nesting (Expr.Members base first others) = nesting base
  nesting (Expr.Variable n) = 0
  nesting (Expr.Number place value) = 0
  nesting (Expr.Null place) = 0
  nesting (Expr.Paren place inner) = suc (nesting inner)
  nesting (Expr.Call callee args) = suc (args_nesting args)
  nesting (Expr.Malloc place as_type allocated) = 0

  pub links_nesting : Links → ℕ
  links_nesting Links.NoLinks = 0
  links_nesting (Links.Link op operand others) = max (nesting operand) (links_nesting others)

  pub args_nesting : Args → ℕ
  args_nesting Args.NoArgs = 0
  args_nesting (Args.Arg first others) = max (nesting first) (args_nesting others)

-- the deepest of some things
abbrev pub deepest : {A : Type 0} → (A → ℕ) → List A → ℕ
deepest depth [] = 0
deepest depth (one ∷ others) = max (depth one) (deepest depth others)

abbrev pub maybe_nesting : {A : Type 0} → (A → ℕ) → Option A → ℕ
maybe_nesting depth None = 0
maybe_nesting depth (Some one) = depth one

abbrev pub simple_nesting : Simple → ℕ
simple_nesting (Simple.Assign target op value) = max (nesting target) (nesting value)
simple_nesting (Simple.Step target op) = nesting target
simple_nesting (Simple.Perform callee args) = suc (args_nesting args)
simple_nesting (Simple.Free place pointer) = nesting pointer

abbrev pub initialized_nesting : Initialized → ℕ
initialized_nesting one = maybe_nesting nesting one.value

abbrev pub local_nesting : Local → ℕ
local_nesting local = max (initialized_nesting local.first) (deepest initialized_nesting local.others)

abbrev pub init_nesting : ForInit → ℕ
init_nesting ForInit.NoInit = 0
init_nesting (ForInit.Locals local) = local_nesting local
init_nesting (ForInit.Once simple) = simple_nesting simple

abbrev mutual
  pub stmt_nesting : Stmt → ℕ
  stmt_nesting (Stmt.Block place body end) = suc (stmts_nesting body)
  stmt_nesting (Stmt.Empty place) = 0
  stmt_nesting (Stmt.Declare local) = local_nesting local
  stmt_nesting (Stmt.Do simple) = simple_nesting simple
  stmt_nesting (Stmt.If place test body) = suc (max (nesting test) (stmt_nesting body))
  stmt_nesting (Stmt.IfElse place test body other) = suc (max (nesting test) (max (stmt_nesting body) (stmt_nesting other)))
  stmt_nesting (Stmt.While place test body) = suc (max (nesting test) (stmt_nesting body))
  stmt_nesting (Stmt.DoWhile place body test) = suc (max (stmt_nesting body) (nesting test))
  stmt_nesting (Stmt.For place init test step body) =
      suc (max (init_nesting init) (max (maybe_nesting nesting test) (max (maybe_nesting simple_nesting step) (stmt_nesting body))))
  stmt_nesting (Stmt.Break place) = 0
  stmt_nesting (Stmt.Continue place) = 0
  stmt_nesting (Stmt.Return place value) = maybe_nesting nesting value

  pub stmts_nesting : Stmts → ℕ
  stmts_nesting Stmts.NoStmts = 0
  stmts_nesting (Stmts.Next first others) = max (stmt_nesting first) (stmts_nesting others)

abbrev pub item_nesting : Item → ℕ
item_nesting (Item.StructItem place tag lines) = 0
item_nesting (Item.TypedefStruct place tag lines alias) = 0
item_nesting (Item.TypedefAlias place tag alias) = 0
item_nesting (Item.Prototype head) = 0
item_nesting (Item.Definition head place body end) = suc (stmts_nesting body)

abbrev pub file_nesting : File → ℕ
file_nesting file = deepest item_nesting file.items
