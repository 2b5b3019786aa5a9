-- Which syntax tree of the grammar each value of the crate's types stands for.
use Rattle.std.specs.Prelude.{Option, Some, None, Box, List, [], ◌∷◌, map, option_map}
use Rattle.std.specs.Global.{Global}
use Rattle.c_grammar.specs.declared.tokens.places.Place.{Place}
use Rattle.c_grammar.specs.Trees as tree
use Rattle.c_tree.specs.declared.names.Ident.{Ident}
use Rattle.c_tree.specs.declared.names.TypeSpecifier.{TypeSpecifier}
use Rattle.c_tree.specs.declared.names.TypeSpecifier.TheVariants as specifier
use Rattle.c_tree.specs.declared.names.Declarator.{Declarator}
use Rattle.c_tree.specs.declared.names.FieldDecl.{FieldDecl}
use Rattle.c_tree.specs.declared.names.Param.{Param}
use Rattle.c_tree.specs.declared.names.Params.{Params}
use Rattle.c_tree.specs.declared.names.Params.TheVariants as params
use Rattle.c_tree.specs.declared.names.Head.{Head}
use Rattle.c_tree.specs.declared.exprs.BinaryOp.{BinaryOp}
use Rattle.c_tree.specs.declared.exprs.BinaryOp.TheVariants as binary
use Rattle.c_tree.specs.declared.exprs.PrefixOp.{PrefixOp}
use Rattle.c_tree.specs.declared.exprs.PrefixOp.TheVariants as prefix
use Rattle.c_tree.specs.declared.exprs.Expr.{Expr}
use Rattle.c_tree.specs.declared.exprs.Expr.TheOpen.{Expr-F, Link-F}
use Rattle.c_tree.specs.declared.exprs.Expr.TheFolds.{fold-Expr, fold-Link}
use Rattle.c_tree.specs.declared.exprs.Link.{Link}
use Rattle.c_tree.specs.declared.stmts.AssignOp.{AssignOp}
use Rattle.c_tree.specs.declared.stmts.AssignOp.TheVariants as assign
use Rattle.c_tree.specs.declared.stmts.StepOp.{StepOp}
use Rattle.c_tree.specs.declared.stmts.StepOp.TheVariants as step
use Rattle.c_tree.specs.declared.stmts.Simple.{Simple}
use Rattle.c_tree.specs.declared.stmts.Simple.TheVariants as simple
use Rattle.c_tree.specs.declared.stmts.Initialized.{Initialized}
use Rattle.c_tree.specs.declared.stmts.Local.{Local}
use Rattle.c_tree.specs.declared.stmts.ForInit.{ForInit}
use Rattle.c_tree.specs.declared.stmts.ForInit.TheVariants as init
use Rattle.c_tree.specs.declared.stmts.Stmt.{Stmt}
use Rattle.c_tree.specs.declared.stmts.Stmt.TheOpen.{Stmt-F, Block-F}
use Rattle.c_tree.specs.declared.stmts.Stmt.TheFolds.{fold-Stmt, fold-Block}
use Rattle.c_tree.specs.declared.stmts.Block.{Block}
use Rattle.c_tree.specs.declared.items.Item.{Item}
use Rattle.c_tree.specs.declared.items.Item.TheVariants as item
use Rattle.c_tree.specs.declared.items.Unit.{Unit}

abbrev pub ident_tree : Ident → tree.Name
ident_tree ident = record { place = ident.place; text = ident.text }

abbrev pub specifier_tree : TypeSpecifier → tree.Specifier
specifier_tree (specifier.Int place) = tree.Specifier.Int place
specifier_tree (specifier.Void place) = tree.Specifier.Void place
specifier_tree (specifier.Struct place tag) = tree.Specifier.Struct place (ident_tree tag)
specifier_tree (specifier.Alias alias) = tree.Specifier.Alias (ident_tree alias)

abbrev pub declarator_tree : Declarator → tree.Declarator
declarator_tree one = record { stars = one.stars; name = ident_tree one.name }

abbrev pub fields_tree : FieldDecl → tree.Fields
fields_tree line = record {
  specifier = specifier_tree line.specifier;
  first = declarator_tree line.declarators.first;
  others = map declarator_tree line.declarators.others.items;
}

abbrev pub param_tree : Param → tree.Param
param_tree one = record { specifier = specifier_tree one.specifier; stars = one.stars; name = option_map ident_tree one.name }

abbrev pub params_tree : Params → tree.Params
params_tree params.Empty = tree.Params.NoParams
params_tree (params.Void place) = tree.Params.VoidParams place
params_tree (params.Listed list) = tree.Params.Listed (param_tree list.first) (map param_tree list.others.items)

abbrev pub head_tree : Head → tree.Head
head_tree head = record {
  specifier = specifier_tree head.specifier;
  declarator = declarator_tree head.declarator;
  params = params_tree head.params;
}

abbrev pub binary_tree : BinaryOp → tree.BinaryOp
binary_tree binary.Or = tree.BinaryOp.Or
binary_tree binary.And = tree.BinaryOp.And
binary_tree binary.Equal = tree.BinaryOp.Equal
binary_tree binary.NotEqual = tree.BinaryOp.NotEqual
binary_tree binary.Less = tree.BinaryOp.Less
binary_tree binary.LessEqual = tree.BinaryOp.LessEqual
binary_tree binary.Greater = tree.BinaryOp.Greater
binary_tree binary.GreaterEqual = tree.BinaryOp.GreaterEqual
binary_tree binary.Add = tree.BinaryOp.Add
binary_tree binary.Subtract = tree.BinaryOp.Subtract
binary_tree binary.Multiply = tree.BinaryOp.Multiply

abbrev pub prefix_tree : PrefixOp → tree.PrefixOp
prefix_tree prefix.Negate = tree.PrefixOp.Negate
prefix_tree prefix.Not = tree.PrefixOp.Not

-- an operator of a chain and the tree of the operand behind it
pub record LinkTree : Type 0 where
  pub op : tree.BinaryOp
  pub operand : tree.Expr

abbrev pub links_of : List LinkTree → tree.Links
links_of [] = tree.Links.NoLinks
links_of (one ∷ others) = tree.Links.Link one.op one.operand (links_of others)

abbrev pub args_of : List tree.Expr → tree.Args
args_of [] = tree.Args.NoArgs
args_of (one ∷ others) = tree.Args.Arg one (args_of others)

-- one level of an expression, with the tree of each expression inside in its place
abbrev pub expr_level : Expr-F tree.Expr LinkTree → tree.Expr
expr_level (Expr-F.Chain first others) = tree.Expr.Chain first.value (links_of others.items)
expr_level (Expr-F.Prefix place op inner) = tree.Expr.Prefix place (prefix_tree op) inner.value
expr_level (Expr-F.Members base fields) = tree.Expr.Members base.value (ident_tree fields.first) (map ident_tree fields.others.items)
expr_level (Expr-F.Variable name) = tree.Expr.Variable (ident_tree name)
expr_level (Expr-F.Number place value) = tree.Expr.Number place value
expr_level (Expr-F.Null place) = tree.Expr.Null place
expr_level (Expr-F.Paren place inner) = tree.Expr.Paren place inner.value
expr_level (Expr-F.Call callee args) = tree.Expr.Call (ident_tree callee) (args_of args.items)
expr_level (Expr-F.Malloc place types) =
    tree.Expr.Malloc place (option_map specifier_tree types.value.cast) (specifier_tree types.value.allocated)

abbrev pub link_level : Link-F tree.Expr LinkTree → LinkTree
link_level link = record { op = binary_tree link.op; operand = link.operand }

abbrev pub expr_tree : Expr → tree.Expr
expr_tree = fold-Expr tree.Expr LinkTree expr_level link_level

abbrev pub link_tree : Link → LinkTree
link_tree = fold-Link tree.Expr LinkTree expr_level link_level

abbrev pub links_tree : List Link → tree.Links
links_tree links = links_of (map link_tree links)

abbrev pub args_tree : List Expr → tree.Args
args_tree args = args_of (map expr_tree args)

abbrev pub assign_tree : AssignOp → tree.AssignOp
assign_tree assign.Set = tree.AssignOp.Set
assign_tree assign.AddTo = tree.AssignOp.AddTo
assign_tree assign.SubtractFrom = tree.AssignOp.SubtractFrom
assign_tree assign.MultiplyBy = tree.AssignOp.MultiplyBy

abbrev pub step_tree : StepOp → tree.StepOp
step_tree step.Increment = tree.StepOp.Increment
step_tree step.Decrement = tree.StepOp.Decrement

abbrev pub simple_tree : Simple → tree.Simple
simple_tree (simple.Assign target op value) = tree.Simple.Assign (expr_tree target) (assign_tree op) (expr_tree value)
simple_tree (simple.Step target op) = tree.Simple.Step (expr_tree target) (step_tree op)
simple_tree (simple.Call callee args) = tree.Simple.Perform (ident_tree callee) (args_tree args.items)
simple_tree (simple.Free place pointer) = tree.Simple.Free place (expr_tree pointer)

abbrev pub initialized_tree : Initialized → tree.Initialized
initialized_tree one = record { declarator = declarator_tree one.declarator; value = option_map expr_tree one.value }

abbrev pub local_tree : Local → tree.Local
local_tree local = record {
  specifier = specifier_tree local.specifier;
  first = initialized_tree local.declarators.first;
  others = map initialized_tree local.declarators.others.items;
}

abbrev pub init_tree : ForInit → tree.ForInit
init_tree init.Empty = tree.ForInit.NoInit
init_tree (init.Local local) = tree.ForInit.Locals (local_tree local.value)
init_tree (init.Simple simple) = tree.ForInit.Once (simple_tree simple.value)

-- the step of a `for`
abbrev pub for_step_tree : Box Simple Global → tree.Simple
for_step_tree step = simple_tree step.value

-- the statements in braces, with the places of the braces
pub record BlockTree : Type 0 where
  pub place : Place
  pub body : tree.Stmts
  pub end : Place

abbrev pub stmts_of : List tree.Stmt → tree.Stmts
stmts_of [] = tree.Stmts.NoStmts
stmts_of (one ∷ others) = tree.Stmts.Next one (stmts_of others)

-- an `if`, with the statement behind its `else`, if it has one
abbrev pub if_of : Place → tree.Expr → tree.Stmt → Option tree.Stmt → tree.Stmt
if_of place test body None = tree.Stmt.If place test body
if_of place test body (Some other) = tree.Stmt.IfElse place test body other

-- one level of a statement, with the tree of each statement inside in its place
abbrev pub stmt_level : Stmt-F tree.Stmt BlockTree → tree.Stmt
stmt_level (Stmt-F.Block block) = tree.Stmt.Block block.place block.body block.end
stmt_level (Stmt-F.Empty place) = tree.Stmt.Empty place
stmt_level (Stmt-F.Local local) = tree.Stmt.Declare (local_tree local)
stmt_level (Stmt-F.Simple simple) = tree.Stmt.Do (simple_tree simple)
stmt_level (Stmt-F.If place test body other) = if_of place (expr_tree test) body.value (option_map (λ one. one.value) other)
stmt_level (Stmt-F.While place test body) = tree.Stmt.While place (expr_tree test) body.value
stmt_level (Stmt-F.DoWhile place body test) = tree.Stmt.DoWhile place body.value (expr_tree test)
stmt_level (Stmt-F.For place init test step body) =
    tree.Stmt.For place (init_tree init) (option_map expr_tree test) (option_map for_step_tree step) body.value
stmt_level (Stmt-F.Break place) = tree.Stmt.Break place
stmt_level (Stmt-F.Continue place) = tree.Stmt.Continue place
stmt_level (Stmt-F.Return place value) = tree.Stmt.Return place (option_map expr_tree value)

abbrev pub block_level : Block-F tree.Stmt BlockTree → BlockTree
block_level block = record { place = block.«open»; body = stmts_of block.stmts.items; end = block.close }

abbrev pub stmt_tree : Stmt → tree.Stmt
stmt_tree = fold-Stmt tree.Stmt BlockTree stmt_level block_level

-- the statement behind an `else`
abbrev pub else_tree : Box Stmt Global → tree.Stmt
else_tree other = stmt_tree other.value

abbrev pub block_tree : Block → BlockTree
block_tree = fold-Block tree.Stmt BlockTree stmt_level block_level

abbrev pub stmts_tree : List Stmt → tree.Stmts
stmts_tree stmts = stmts_of (map stmt_tree stmts)

-- a function with its body
abbrev pub definition_of : tree.Head → BlockTree → tree.Item
definition_of head body = tree.Item.Definition head body.place body.body body.end

abbrev pub item_tree : Item → tree.Item
item_tree (item.Struct place tag fields) = tree.Item.StructItem place (ident_tree tag) (map fields_tree fields.items)
item_tree (item.TypedefStruct place tag fields alias) =
    tree.Item.TypedefStruct place (option_map ident_tree tag) (map fields_tree fields.items) (ident_tree alias)
item_tree (item.TypedefAlias place tag alias) = tree.Item.TypedefAlias place (ident_tree tag) (ident_tree alias)
item_tree (item.Prototype head) = tree.Item.Prototype (head_tree head)
item_tree (item.Definition head body) = definition_of (head_tree head) (block_tree body)

-- the file that the unit stands for
abbrev pub unit_tree : Unit → tree.File
unit_tree unit = record { items = map item_tree unit.items.items }
