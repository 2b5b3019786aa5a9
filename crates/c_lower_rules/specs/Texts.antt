-- What every file that was parsed has: the names of its structures, fields, procedures and parameters are C names, its lists of
-- parameters can be counted, and its lines are 32-bit numbers. Of lines only those of places that give nodes their line are asked for.
use Rattle.std.specs.Prelude.{◌<◌, IfSome, All}
use Rattle.shape_data.specs.Names.{IsCName}
use Rattle.shape_data.specs.WellFormed.{IsCountable}
use Rattle.c_grammar.specs.declared.tokens.places.Place.{Place}
use Rattle.c_grammar.specs.Trees.{Name, Head, Expr, Simple, Stmt, Stmts, Item, File}
use Rattle.c_grammar.specs.FirstPlaces.{place_of_expr, place_of_local, place_of_head}
use Rattle.c_types_rules.specs.Tables.{tag_or}
use Rattle.c_types_rules.specs.Items.{listed, param_names, field_names}
use Rattle.c_lower_rules.specs.Statements.{place_of_simple}

-- NAMES

-- the name is a C name
abbrev pub IsNamed : Name → Type 0
IsNamed n = IsCName n.text

-- the names of a procedure and of its parameters, which can be counted
pub record IsHeadNamed (head : Head) : Type 0 where
  pub name : IsNamed head.declarator.name
  pub params : All IsNamed (param_names (listed head.params))
  pub countable : IsCountable (listed head.params)

-- the names that an item gives to structures, fields and procedures
abbrev pub IsItemNamed : Item → Type 0
IsItemNamed (Item.StructItem place tag lines) = IsNamed tag × All IsNamed (field_names lines)
IsItemNamed (Item.TypedefStruct place tag lines alias) = IsNamed (tag_or tag alias) × All IsNamed (field_names lines)
IsItemNamed (Item.TypedefAlias place tag alias) = Unit {0}
IsItemNamed (Item.Prototype head) = IsHeadNamed head
IsItemNamed (Item.Definition head place body end) = IsHeadNamed head

-- LINES

-- the line is a 32-bit number
abbrev pub IsLine : Place → Type 0
IsLine place = place.line < 4294967296

-- so is the line of an expression
abbrev pub IsExprLine : Expr → Type 0
IsExprLine e = IsLine (place_of_expr e)

-- so is the line of a simple statement
abbrev pub IsSimpleLine : Simple → Type 0
IsSimpleLine s = IsLine (place_of_simple s)

abbrev mutual
  -- so are the lines that a statement gives to nodes
  pub AreStmtLines : Stmt → Type 0
  AreStmtLines (Stmt.Block place body end) = AreStmtsLines body
  AreStmtLines (Stmt.Empty place) = Unit {0}
  AreStmtLines (Stmt.Declare l) = IsLine (place_of_local l)
  AreStmtLines (Stmt.Do s) = IsSimpleLine s
  AreStmtLines (Stmt.If place e body) = IsExprLine e × AreStmtLines body
  AreStmtLines (Stmt.IfElse place e body other) = IsExprLine e × AreStmtLines body × AreStmtLines other
  AreStmtLines (Stmt.While place e body) = IsExprLine e × AreStmtLines body
  AreStmtLines (Stmt.DoWhile place body e) = AreStmtLines body × IsExprLine e
  AreStmtLines (Stmt.For place first e step body) = IsLine place × IfSome e IsExprLine × IfSome step IsSimpleLine × AreStmtLines body
  AreStmtLines (Stmt.Break place) = Unit {0}
  AreStmtLines (Stmt.Continue place) = Unit {0}
  AreStmtLines (Stmt.Return place value) = IsLine place

  -- so are those of statements
  pub AreStmtsLines : Stmts → Type 0
  AreStmtsLines Stmts.NoStmts = Unit {0}
  AreStmtsLines (Stmts.Next first others) = AreStmtLines first × AreStmtsLines others

-- so are those of an item
abbrev pub AreItemLines : Item → Type 0
AreItemLines (Item.Definition head place body end) = IsLine (place_of_head head) × AreStmtsLines body × IsLine end
AreItemLines _ = Unit {0}

-- FILES

-- what a file that was parsed has
pub record IsText (file : File) : Type 0 where
  pub names : All IsItemNamed file.items
  pub lines : All AreItemLines file.items
