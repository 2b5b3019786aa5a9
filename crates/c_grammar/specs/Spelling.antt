-- The grammar of the C subset: which words each syntax tree spells. A rule says how words lead to the words behind a
-- tree; `◌⨾◌` is one rule behind another, so each clause reads as a line of the grammar.
use Rattle.std.specs.Prelude.{◌≡◌, ◌≢◌, ℕ, zero, suc, Bool, true, false, ◌+◌, ◌≤◌, ◌⊎◌, Option, Some, None, List, [], ◌∷◌}
use Rattle.std.specs.Str.Parse.{digits_value}
use Rattle.c_grammar.specs.declared.tokens.places.Place.{Place}
use Rattle.c_grammar.specs.Classes
use Rattle.c_grammar.specs.Words.{Word}
use Rattle.c_grammar.specs.Trees.{Name, Specifier, Declarator, Fields, Param, Params, Head, BinaryOp, PrefixOp, Expr, Links, Args, AssignOp}
use Rattle.c_grammar.specs.Trees.{StepOp, Simple, Initialized, Local, ForInit, Stmt, Stmts, Item, File}

abbrev pub Rule : Type 1
Rule = List Word → List Word → Type 0

infixr 30 ◌⨾◌
-- one rule behind another
abbrev pub ◌⨾◌ : Rule → Rule → Rule
one ⨾ other = λ from to. (mid : List Word) × one from mid × other mid to

-- no word
abbrev pub nothing : Rule
nothing from to = from ≡ to

-- a word of the class
abbrev pub word : ℕ → Rule
word class [] to = ⊥
word class (first ∷ others) to = (first.class ≡ class) × (others ≡ to)

-- a word of the class, at the place
abbrev pub word_at : Place → ℕ → Rule
word_at place class [] to = ⊥
word_at place class (first ∷ others) to = (first.class ≡ class) × (first.place ≡ place) × (others ≡ to)

-- `(`, whatever stands behind it
abbrev pub open_paren : Rule
open_paren from to = word Classes.OPEN from to ⊎ word Classes.CAST from to

-- a name
abbrev pub name : Name → Rule
name n [] to = ⊥
name n (first ∷ others) to = (first.class ≡ Classes.NAME) × (first.place ≡ n.place) × (first.text ≡ n.text) × (others ≡ to)

-- a number of this value
abbrev pub number : Place → ℕ → Rule
number place value [] to = ⊥
number place value (first ∷ others) to =
    (first.class ≡ Classes.NUMBER) × (first.place ≡ place) × (value ≡ digits_value 10 first.text) × (others ≡ to)

-- `{ rule }` of the grammar: the rule for each thing of a list
abbrev pub each : {A : Type 0} → (A → Rule) → List A → Rule
each rule [] = nothing
each rule (one ∷ others) = rule one ⨾ each rule others

-- `[ rule ]` of the grammar
abbrev pub maybe : {A : Type 0} → (A → Rule) → Option A → Rule
maybe rule None = nothing
maybe rule (Some one) = rule one

abbrev pub specifier : Specifier → Rule
specifier (Specifier.Int place) = word_at place Classes.INT
specifier (Specifier.Void place) = word_at place Classes.VOID
specifier (Specifier.Struct place tag) = word_at place Classes.STRUCT ⨾ name tag
specifier (Specifier.Alias alias) = name alias

-- so many stars
abbrev pub stars : ℕ → Rule
stars zero = nothing
stars (suc count) = word Classes.STAR ⨾ stars count

abbrev pub declarator : Declarator → Rule
declarator decl = stars decl.stars ⨾ name decl.name

abbrev pub fields : Fields → Rule
fields line =
    specifier line.specifier ⨾ declarator line.first ⨾ each (λ decl. word Classes.COMMA ⨾ declarator decl) line.others
    ⨾ word Classes.SEMICOLON

-- `{ .. }` of a structure
abbrev pub struct_body : List Fields → Rule
struct_body lines = word Classes.OPEN_BRACE ⨾ each fields lines ⨾ word Classes.CLOSE_BRACE

abbrev pub param : Param → Rule
param p = specifier p.specifier ⨾ stars p.stars ⨾ maybe name p.name

-- a type `void`, with no star and no name
abbrev pub is_void : Specifier → ℕ → Option Name → Bool
is_void (Specifier.Void place) zero None = true
is_void specifier stars n = false

-- a parameter `void` that stands alone says that there is none (C11 6.7.6.3)
abbrev pub is_void_alone : Param → List Param → Bool
is_void_alone first [] = is_void first.specifier first.stars first.name
is_void_alone first (other ∷ others) = false

abbrev pub params : Params → Rule
params Params.NoParams = nothing
params (Params.VoidParams place) = word_at place Classes.VOID
params (Params.Listed first others) = λ from to.
    (is_void_alone first others ≡ false) × (param first ⨾ each (λ p. word Classes.COMMA ⨾ param p) others) from to

abbrev pub head : Head → Rule
head h = specifier h.specifier ⨾ declarator h.declarator ⨾ open_paren ⨾ params h.params ⨾ word Classes.CLOSE

abbrev pub class_of_binary : BinaryOp → ℕ
class_of_binary BinaryOp.Or = Classes.OR
class_of_binary BinaryOp.And = Classes.AND
class_of_binary BinaryOp.Equal = Classes.EQUAL
class_of_binary BinaryOp.NotEqual = Classes.NOT_EQUAL
class_of_binary BinaryOp.Less = Classes.LESS
class_of_binary BinaryOp.LessEqual = Classes.LESS_EQUAL
class_of_binary BinaryOp.Greater = Classes.GREATER
class_of_binary BinaryOp.GreaterEqual = Classes.GREATER_EQUAL
class_of_binary BinaryOp.Add = Classes.PLUS
class_of_binary BinaryOp.Subtract = Classes.MINUS
class_of_binary BinaryOp.Multiply = Classes.STAR

-- how tightly an operator binds, from `||` to `*` (C11 6.5.5 to 6.5.14)
abbrev pub level_of : BinaryOp → ℕ
level_of BinaryOp.Or = 0
level_of BinaryOp.And = 1
level_of BinaryOp.Equal = 2
level_of BinaryOp.NotEqual = 2
level_of BinaryOp.Less = 3
level_of BinaryOp.LessEqual = 3
level_of BinaryOp.Greater = 3
level_of BinaryOp.GreaterEqual = 3
level_of BinaryOp.Add = 4
level_of BinaryOp.Subtract = 4
level_of BinaryOp.Multiply = 5

-- an expression with a prefix, one with members, and one that is closed in itself
abbrev pub UNARY : ℕ
UNARY = 6

abbrev pub POSTFIX : ℕ
POSTFIX = 7

abbrev pub PRIMARY : ℕ
PRIMARY = 8

abbrev pub class_of_prefix : PrefixOp → ℕ
class_of_prefix PrefixOp.Negate = Classes.MINUS
class_of_prefix PrefixOp.Not = Classes.NOT

-- `( TYPE * )`
abbrev pub cast : Place → Specifier → Rule
cast place as_type = word_at place Classes.CAST ⨾ specifier as_type ⨾ word Classes.STAR ⨾ word Classes.CLOSE

abbrev pub size_of : Specifier → Rule
size_of allocated = open_paren ⨾ word Classes.SIZEOF ⨾ open_paren ⨾ specifier allocated ⨾ word Classes.CLOSE ⨾ word Classes.CLOSE

abbrev pub malloc : Place → Option Specifier → Specifier → Rule
malloc place None allocated = word_at place Classes.MALLOC ⨾ size_of allocated
malloc place (Some as_type) allocated = cast place as_type ⨾ word Classes.MALLOC ⨾ size_of allocated

-- the rule, where the level is at least as tight as what is wanted
abbrev pub at_least : ℕ → ℕ → Rule → Rule
at_least wanted level rule = λ from to. (wanted ≤ level) × rule from to

abbrev mutual
  -- an expression that binds as tightly as the level, or tighter: an operand of an operator binds tighter than the
  -- operator (C11 6.5)
  pub expr_at : ℕ → Expr → Rule
  expr_at level (Expr.Chain first (Links.Link op second others)) =
      at_least level (level_of op)
      (expr_at (level_of op + 1) first ⨾ word (class_of_binary op) ⨾ expr_at (level_of op + 1) second ⨾ links_at (level_of op) others)
  expr_at level (Expr.Chain first Links.NoLinks) = λ from to. ⊥
  expr_at level (Expr.Prefix place op inner) = at_least level UNARY (word_at place (class_of_prefix op) ⨾ expr_at UNARY inner)
  expr_at level (Expr.Members base first others) =
      at_least level POSTFIX
      (expr_at PRIMARY base ⨾ word Classes.ARROW ⨾ name first ⨾ each (λ field. word Classes.ARROW ⨾ name field) others)
  expr_at level (Expr.Variable n) = name n
  expr_at level (Expr.Number place value) = number place value
  expr_at level (Expr.Null place) = word_at place Classes.NULL
  expr_at level (Expr.Paren place inner) = word_at place Classes.OPEN ⨾ expr_at 0 inner ⨾ word Classes.CLOSE
  expr_at level (Expr.Call callee args) = name callee ⨾ open_paren ⨾ call_args args ⨾ word Classes.CLOSE
  expr_at level (Expr.Malloc place as_type allocated) = malloc place as_type allocated

  -- the other operators of one level, with their operands
  pub links_at : ℕ → Links → Rule
  links_at level Links.NoLinks = nothing
  links_at level (Links.Link op operand others) = λ from to.
      (level_of op ≡ level) × (word (class_of_binary op) ⨾ expr_at (level + 1) operand ⨾ links_at level others) from to

  pub call_args : Args → Rule
  call_args Args.NoArgs = nothing
  call_args (Args.Arg first others) = expr_at 0 first ⨾ more_args others

  pub more_args : Args → Rule
  more_args Args.NoArgs = nothing
  more_args (Args.Arg first others) = word Classes.COMMA ⨾ expr_at 0 first ⨾ more_args others

abbrev pub class_of_assign : AssignOp → ℕ
class_of_assign AssignOp.Set = Classes.SET
class_of_assign AssignOp.AddTo = Classes.ADD_TO
class_of_assign AssignOp.SubtractFrom = Classes.SUBTRACT_FROM
class_of_assign AssignOp.MultiplyBy = Classes.MULTIPLY_BY

abbrev pub class_of_step : StepOp → ℕ
class_of_step StepOp.Increment = Classes.INCREMENT
class_of_step StepOp.Decrement = Classes.DECREMENT

abbrev pub simple : Simple → Rule
simple (Simple.Assign target op value) = expr_at POSTFIX target ⨾ word (class_of_assign op) ⨾ expr_at 0 value
simple (Simple.Step target op) = expr_at POSTFIX target ⨾ word (class_of_step op)
simple (Simple.Perform callee args) = name callee ⨾ open_paren ⨾ call_args args ⨾ word Classes.CLOSE
simple (Simple.Free place pointer) = word_at place Classes.FREE ⨾ open_paren ⨾ expr_at 0 pointer ⨾ word Classes.CLOSE

abbrev pub initialized : Initialized → Rule
initialized one = declarator one.declarator ⨾ maybe (λ value. word Classes.SET ⨾ expr_at 0 value) one.value

abbrev pub local : Local → Rule
local l = specifier l.specifier ⨾ initialized l.first ⨾ each (λ one. word Classes.COMMA ⨾ initialized one) l.others

abbrev pub for_init : ForInit → Rule
for_init ForInit.NoInit = nothing
for_init (ForInit.Locals l) = local l
for_init (ForInit.Once s) = simple s

-- the words don't begin with `else`
abbrev pub NoElse : List Word → Type 0
NoElse [] = Unit {0}
NoElse (first ∷ others) = first.class ≢ Classes.ELSE

abbrev mutual
  pub stmt : Stmt → Rule
  stmt (Stmt.Block place body end) = word_at place Classes.OPEN_BRACE ⨾ stmts body ⨾ word_at end Classes.CLOSE_BRACE
  stmt (Stmt.Empty place) = word_at place Classes.SEMICOLON
  stmt (Stmt.Declare l) = local l ⨾ word Classes.SEMICOLON
  stmt (Stmt.Do s) = simple s ⨾ word Classes.SEMICOLON
  -- an `else` goes with the nearest `if` (C11 6.8.4.1)
  stmt (Stmt.If place test body) = λ from to.
      NoElse to × (word_at place Classes.IF ⨾ open_paren ⨾ expr_at 0 test ⨾ word Classes.CLOSE ⨾ stmt body) from to
  stmt (Stmt.IfElse place test body other) =
      word_at place Classes.IF ⨾ open_paren ⨾ expr_at 0 test ⨾ word Classes.CLOSE ⨾ stmt body ⨾ word Classes.ELSE ⨾ stmt other
  stmt (Stmt.While place test body) = word_at place Classes.WHILE ⨾ open_paren ⨾ expr_at 0 test ⨾ word Classes.CLOSE ⨾ stmt body
  stmt (Stmt.DoWhile place body test) =
      word_at place Classes.DO ⨾ stmt body ⨾ word Classes.WHILE ⨾ open_paren ⨾ expr_at 0 test ⨾ word Classes.CLOSE ⨾ word Classes.SEMICOLON
  stmt (Stmt.For place init test step body) =
      word_at place Classes.FOR ⨾ open_paren ⨾ for_init init ⨾ word Classes.SEMICOLON ⨾ maybe (expr_at 0) test ⨾ word Classes.SEMICOLON
      ⨾ maybe simple step ⨾ word Classes.CLOSE ⨾ stmt body
  stmt (Stmt.Break place) = word_at place Classes.BREAK ⨾ word Classes.SEMICOLON
  stmt (Stmt.Continue place) = word_at place Classes.CONTINUE ⨾ word Classes.SEMICOLON
  stmt (Stmt.Return place value) = word_at place Classes.RETURN ⨾ maybe (expr_at 0) value ⨾ word Classes.SEMICOLON

  pub stmts : Stmts → Rule
  stmts Stmts.NoStmts = nothing
  stmts (Stmts.Next first others) = stmt first ⨾ stmts others

abbrev pub item : Item → Rule
item (Item.StructItem place tag lines) = word_at place Classes.STRUCT ⨾ name tag ⨾ struct_body lines ⨾ word Classes.SEMICOLON
item (Item.TypedefStruct place tag lines alias) =
    word_at place Classes.TYPEDEF ⨾ word Classes.STRUCT ⨾ maybe name tag ⨾ struct_body lines ⨾ name alias ⨾ word Classes.SEMICOLON
item (Item.TypedefAlias place tag alias) =
    word_at place Classes.TYPEDEF ⨾ word Classes.STRUCT ⨾ name tag ⨾ name alias ⨾ word Classes.SEMICOLON
item (Item.Prototype h) = head h ⨾ word Classes.SEMICOLON
item (Item.Definition h place body end) = head h ⨾ word_at place Classes.OPEN_BRACE ⨾ stmts body ⨾ word_at end Classes.CLOSE_BRACE

-- the file spells all of the words, of which the last is the end
abbrev pub Spells : File → List Word → Type 0
Spells file words = (each item file.items ⨾ word Classes.END) words []
