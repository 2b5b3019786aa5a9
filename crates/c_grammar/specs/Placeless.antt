-- A syntax tree without its places: each is 0:0. Two trees are equal up to places where these are equal.
use Rattle.std.specs.Prelude.{Option, Some, None, map}
use Rattle.c_grammar.specs.declared.tokens.places.Place.{Place}
use Rattle.c_grammar.specs.Trees.{Name, Specifier, Declarator, Fields, Param, Params, Head, Expr, Links, Args, Simple, Initialized, Local}
use Rattle.c_grammar.specs.Trees.{ForInit, Stmt, Stmts, Item, File}

abbrev pub nowhere : Place
nowhere = record { line = 0; column = 0 }

abbrev pub placeless_maybe : {A : Type 0} → (A → A) → Option A → Option A
placeless_maybe strip None = None
placeless_maybe strip (Some one) = Some (strip one)

abbrev pub placeless_name : Name → Name
placeless_name n = record { place = nowhere; text = n.text }

abbrev pub placeless_specifier : Specifier → Specifier
placeless_specifier (Specifier.Int place) = Specifier.Int nowhere
placeless_specifier (Specifier.Void place) = Specifier.Void nowhere
placeless_specifier (Specifier.Struct place tag) = Specifier.Struct nowhere (placeless_name tag)
placeless_specifier (Specifier.Alias alias) = Specifier.Alias (placeless_name alias)

abbrev pub placeless_declarator : Declarator → Declarator
placeless_declarator decl = record { stars = decl.stars; name = placeless_name decl.name }

abbrev pub placeless_fields : Fields → Fields
placeless_fields line = record {
  specifier = placeless_specifier line.specifier;
  first = placeless_declarator line.first;
  others = map placeless_declarator line.others;
}

abbrev pub placeless_param : Param → Param
placeless_param p = record { specifier = placeless_specifier p.specifier; stars = p.stars; name = placeless_maybe placeless_name p.name }

abbrev pub placeless_params : Params → Params
placeless_params Params.NoParams = Params.NoParams
placeless_params (Params.VoidParams place) = Params.VoidParams nowhere
placeless_params (Params.Listed first others) = Params.Listed (placeless_param first) (map placeless_param others)

abbrev pub placeless_head : Head → Head
placeless_head h = record {
  specifier = placeless_specifier h.specifier;
  declarator = placeless_declarator h.declarator;
  params = placeless_params h.params;
}

abbrev mutual
  pub placeless_expr : Expr → Expr
  placeless_expr (Expr.Chain first others) = Expr.Chain (placeless_expr first) (placeless_links others)
  placeless_expr (Expr.Prefix place op inner) = Expr.Prefix nowhere op (placeless_expr inner)
  placeless_expr (Expr.Members base first others) = Expr.Members (placeless_expr base) (placeless_name first) (map placeless_name others)
  placeless_expr (Expr.Variable n) = Expr.Variable (placeless_name n)
  placeless_expr (Expr.Number place value) = Expr.Number nowhere value
  placeless_expr (Expr.Null place) = Expr.Null nowhere
  placeless_expr (Expr.Paren place inner) = Expr.Paren nowhere (placeless_expr inner)
  placeless_expr (Expr.Call callee args) = Expr.Call (placeless_name callee) (placeless_args args)
  placeless_expr (Expr.Malloc place as_type allocated) =
      Expr.Malloc nowhere (placeless_maybe placeless_specifier as_type) (placeless_specifier allocated)

  pub placeless_links : Links → Links
  placeless_links Links.NoLinks = Links.NoLinks
  placeless_links (Links.Link op operand others) = Links.Link op (placeless_expr operand) (placeless_links others)

  pub placeless_args : Args → Args
  placeless_args Args.NoArgs = Args.NoArgs
  placeless_args (Args.Arg first others) = Args.Arg (placeless_expr first) (placeless_args others)

abbrev pub placeless_simple : Simple → Simple
placeless_simple (Simple.Assign target op value) = Simple.Assign (placeless_expr target) op (placeless_expr value)
placeless_simple (Simple.Step target op) = Simple.Step (placeless_expr target) op
placeless_simple (Simple.Perform callee args) = Simple.Perform (placeless_name callee) (placeless_args args)
placeless_simple (Simple.Free place pointer) = Simple.Free nowhere (placeless_expr pointer)

abbrev pub placeless_initialized : Initialized → Initialized
placeless_initialized one = record { declarator = placeless_declarator one.declarator; value = placeless_maybe placeless_expr one.value }

abbrev pub placeless_local : Local → Local
placeless_local l = record {
  specifier = placeless_specifier l.specifier;
  first = placeless_initialized l.first;
  others = map placeless_initialized l.others;
}

abbrev pub placeless_init : ForInit → ForInit
placeless_init ForInit.NoInit = ForInit.NoInit
placeless_init (ForInit.Locals l) = ForInit.Locals (placeless_local l)
placeless_init (ForInit.Once s) = ForInit.Once (placeless_simple s)

abbrev mutual
  pub placeless_stmt : Stmt → Stmt
  placeless_stmt (Stmt.Block place body end) = Stmt.Block nowhere (placeless_stmts body) nowhere
  placeless_stmt (Stmt.Empty place) = Stmt.Empty nowhere
  placeless_stmt (Stmt.Declare l) = Stmt.Declare (placeless_local l)
  placeless_stmt (Stmt.Do s) = Stmt.Do (placeless_simple s)
  placeless_stmt (Stmt.If place test body) = Stmt.If nowhere (placeless_expr test) (placeless_stmt body)
  placeless_stmt (Stmt.IfElse place test body other) =
      Stmt.IfElse nowhere (placeless_expr test) (placeless_stmt body) (placeless_stmt other)
  placeless_stmt (Stmt.While place test body) = Stmt.While nowhere (placeless_expr test) (placeless_stmt body)
  placeless_stmt (Stmt.DoWhile place body test) = Stmt.DoWhile nowhere (placeless_stmt body) (placeless_expr test)
  placeless_stmt (Stmt.For place init test step body) =
      Stmt.For nowhere (placeless_init init) (placeless_maybe placeless_expr test) (placeless_maybe placeless_simple step)
      (placeless_stmt body)
  placeless_stmt (Stmt.Break place) = Stmt.Break nowhere
  placeless_stmt (Stmt.Continue place) = Stmt.Continue nowhere
  placeless_stmt (Stmt.Return place value) = Stmt.Return nowhere (placeless_maybe placeless_expr value)

  pub placeless_stmts : Stmts → Stmts
  placeless_stmts Stmts.NoStmts = Stmts.NoStmts
  placeless_stmts (Stmts.Next first others) = Stmts.Next (placeless_stmt first) (placeless_stmts others)

abbrev pub placeless_item : Item → Item
placeless_item (Item.StructItem place tag lines) = Item.StructItem nowhere (placeless_name tag) (map placeless_fields lines)
placeless_item (Item.TypedefStruct place tag lines alias) =
    Item.TypedefStruct nowhere (placeless_maybe placeless_name tag) (map placeless_fields lines) (placeless_name alias)
placeless_item (Item.TypedefAlias place tag alias) = Item.TypedefAlias nowhere (placeless_name tag) (placeless_name alias)
placeless_item (Item.Prototype h) = Item.Prototype (placeless_head h)
placeless_item (Item.Definition h place body end) = Item.Definition (placeless_head h) nowhere (placeless_stmts body) nowhere

abbrev pub placeless : File → File
placeless file = record { items = map placeless_item file.items }
