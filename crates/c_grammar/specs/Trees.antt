-- Syntax trees of the C subset (C11 6.5 to 6.9). A node has the place of its first word where that is not the place of
-- a node within it.
use Rattle.std.specs.Prelude.{ℕ, List, Option}
use Rattle.c_grammar.specs.declared.tokens.places.Place.{Place}

pub record Name : Type 0 where
  pub place : Place
  pub text : List ℕ

-- a type specifier (C11 6.7.2): `int`, `void`, a structure by its tag, or a name
pub data Specifier : Type 0 where
  Int : Place → Specifier
  Void : Place → Specifier
  Struct : Place → Name → Specifier
  Alias : Name → Specifier

-- stars and a name
pub record Declarator : Type 0 where
  pub stars : ℕ
  pub name : Name

-- the fields of one declaration
pub record Fields : Type 0 where
  pub specifier : Specifier
  pub first : Declarator
  pub others : List Declarator

pub record Param : Type 0 where
  pub specifier : Specifier
  pub stars : ℕ
  pub name : Option Name

pub data Params : Type 0 where
  -- nothing between the parentheses
  NoParams : Params
  -- `void`
  VoidParams : Place → Params
  Listed : Param → List Param → Params

-- what a procedure is called with, and what it answers
pub record Head : Type 0 where
  pub specifier : Specifier
  pub declarator : Declarator
  pub params : Params

pub data BinaryOp : Type 0 where
  Or And Equal NotEqual Less LessEqual Greater GreaterEqual Add Subtract Multiply : BinaryOp

pub data PrefixOp : Type 0 where
  Negate Not : PrefixOp

mutual
  pub data Expr : Type 0 where
    -- operands of one level and the operators between them, grouped from the left (C11 6.5.5 to 6.5.14)
    Chain : Expr → Links → Expr
    Prefix : Place → PrefixOp → Expr → Expr
    -- `->` and a field, once or more
    Members : Expr → Name → List Name → Expr
    Variable : Name → Expr
    Number : Place → ℕ → Expr
    Null : Place → Expr
    Paren : Place → Expr → Expr
    Call : Name → Args → Expr
    -- `malloc(sizeof(TYPE))`, with the cast before it, if any
    Malloc : Place → Option Specifier → Specifier → Expr

  pub data Links : Type 0 where
    NoLinks : Links
    Link : BinaryOp → Expr → Links → Links

  pub data Args : Type 0 where
    NoArgs : Args
    Arg : Expr → Args → Args

pub data AssignOp : Type 0 where
  Set AddTo SubtractFrom MultiplyBy : AssignOp

pub data StepOp : Type 0 where
  Increment Decrement : StepOp

-- a simple statement, without its semicolon
pub data Simple : Type 0 where
  Assign : Expr → AssignOp → Expr → Simple
  Step : Expr → StepOp → Simple
  Perform : Name → Args → Simple
  Free : Place → Expr → Simple

pub record Initialized : Type 0 where
  pub declarator : Declarator
  pub value : Option Expr

-- the locals of one declaration
pub record Local : Type 0 where
  pub specifier : Specifier
  pub first : Initialized
  pub others : List Initialized

pub data ForInit : Type 0 where
  NoInit : ForInit
  Locals : Local → ForInit
  Once : Simple → ForInit

mutual
  pub data Stmt : Type 0 where
    -- the places of the braces
    Block : Place → Stmts → Place → Stmt
    Empty : Place → Stmt
    Declare : Local → Stmt
    Do : Simple → Stmt
    If : Place → Expr → Stmt → Stmt
    IfElse : Place → Expr → Stmt → Stmt → Stmt
    While : Place → Expr → Stmt → Stmt
    DoWhile : Place → Stmt → Expr → Stmt
    For : Place → ForInit → Option Expr → Option Simple → Stmt → Stmt
    Break : Place → Stmt
    Continue : Place → Stmt
    Return : Place → Option Expr → Stmt

  pub data Stmts : Type 0 where
    NoStmts : Stmts
    Next : Stmt → Stmts → Stmts

pub data Item : Type 0 where
  StructItem : Place → Name → List Fields → Item
  -- the tag, if any, the fields and the name of the type
  TypedefStruct : Place → Option Name → List Fields → Name → Item
  -- the tag and the name of the type
  TypedefAlias : Place → Name → Name → Item
  Prototype : Head → Item
  -- the places of the body's braces
  Definition : Head → Place → Stmts → Place → Item

-- a file: a translation unit (C11 6.9)
pub record File : Type 0 where
  pub items : List Item
