-- The numbers of a text, and how many parameters each procedure has, are values of an int. So it is with every file that was parsed.
use Rattle.std.specs.Prelude.{ℕ, ◌<◌, length, IfSome, All}
use Rattle.c_grammar.specs.Trees.{Expr, Links, Args, Simple, Initialized, Local, ForInit, Stmt, Stmts, Item, File}
use Rattle.c_types_rules.specs.Items.{listed}

-- the number is a value of an int that is not negative
abbrev pub IsIntNumber : ℕ → Type 0
IsIntNumber n = n < 2147483648

abbrev mutual
  -- the numbers of an expression are such
  pub HasIntNumbers : Expr → Type 0
  HasIntNumbers (Expr.Chain first others) = HasIntNumbers first × HaveIntNumbers others
  HasIntNumbers (Expr.Prefix place op inner) = HasIntNumbers inner
  HasIntNumbers (Expr.Members base first others) = HasIntNumbers base
  HasIntNumbers (Expr.Variable n) = Unit {0}
  HasIntNumbers (Expr.Number place value) = IsIntNumber value
  HasIntNumbers (Expr.Null place) = Unit {0}
  HasIntNumbers (Expr.Paren place inner) = HasIntNumbers inner
  HasIntNumbers (Expr.Call callee args) = AllHaveIntNumbers args
  HasIntNumbers (Expr.Malloc place as_type allocated) = Unit {0}

  -- those of the operands of a chain
  pub HaveIntNumbers : Links → Type 0
  HaveIntNumbers Links.NoLinks = Unit {0}
  HaveIntNumbers (Links.Link op operand others) = HasIntNumbers operand × HaveIntNumbers others

  -- those of arguments
  pub AllHaveIntNumbers : Args → Type 0
  AllHaveIntNumbers Args.NoArgs = Unit {0}
  AllHaveIntNumbers (Args.Arg first others) = HasIntNumbers first × AllHaveIntNumbers others

-- those of a simple statement
abbrev pub SimpleHasIntNumbers : Simple → Type 0
SimpleHasIntNumbers (Simple.Assign left op right) = HasIntNumbers left × HasIntNumbers right
SimpleHasIntNumbers (Simple.Step left op) = HasIntNumbers left
SimpleHasIntNumbers (Simple.Perform callee args) = AllHaveIntNumbers args
SimpleHasIntNumbers (Simple.Free place pointer) = HasIntNumbers pointer

-- those of an initializer
abbrev pub InitializedHasIntNumbers : Initialized → Type 0
InitializedHasIntNumbers one = IfSome one.value HasIntNumbers

-- those of a declaration
abbrev pub LocalHasIntNumbers : Local → Type 0
LocalHasIntNumbers l = InitializedHasIntNumbers l.first × All InitializedHasIntNumbers l.others

-- those of what a `for` begins with
abbrev pub InitHasIntNumbers : ForInit → Type 0
InitHasIntNumbers ForInit.NoInit = Unit {0}
InitHasIntNumbers (ForInit.Locals l) = LocalHasIntNumbers l
InitHasIntNumbers (ForInit.Once s) = SimpleHasIntNumbers s

abbrev mutual
  -- those of a statement
  pub StmtHasIntNumbers : Stmt → Type 0
  StmtHasIntNumbers (Stmt.Block place body end) = StmtsHaveIntNumbers body
  StmtHasIntNumbers (Stmt.Empty place) = Unit {0}
  StmtHasIntNumbers (Stmt.Declare l) = LocalHasIntNumbers l
  StmtHasIntNumbers (Stmt.Do s) = SimpleHasIntNumbers s
  StmtHasIntNumbers (Stmt.If place e body) = HasIntNumbers e × StmtHasIntNumbers body
  StmtHasIntNumbers (Stmt.IfElse place e body other) = HasIntNumbers e × StmtHasIntNumbers body × StmtHasIntNumbers other
  StmtHasIntNumbers (Stmt.While place e body) = HasIntNumbers e × StmtHasIntNumbers body
  StmtHasIntNumbers (Stmt.DoWhile place body e) = StmtHasIntNumbers body × HasIntNumbers e
  StmtHasIntNumbers (Stmt.For place first e step body) =
      InitHasIntNumbers first × IfSome e HasIntNumbers × IfSome step SimpleHasIntNumbers × StmtHasIntNumbers body
  StmtHasIntNumbers (Stmt.Break place) = Unit {0}
  StmtHasIntNumbers (Stmt.Continue place) = Unit {0}
  StmtHasIntNumbers (Stmt.Return place value) = IfSome value HasIntNumbers

  -- those of statements
  pub StmtsHaveIntNumbers : Stmts → Type 0
  StmtsHaveIntNumbers Stmts.NoStmts = Unit {0}
  StmtsHaveIntNumbers (Stmts.Next first others) = StmtHasIntNumbers first × StmtsHaveIntNumbers others

-- those of a body, and how many parameters its procedure has
abbrev pub ItemHasIntNumbers : Item → Type 0
ItemHasIntNumbers (Item.Definition head place body end) = IsIntNumber (length (listed head.params)) × StmtsHaveIntNumbers body
ItemHasIntNumbers _ = Unit {0}

-- those of a file
abbrev pub FileHasIntNumbers : File → Type 0
FileHasIntNumbers file = All ItemHasIntNumbers file.items
