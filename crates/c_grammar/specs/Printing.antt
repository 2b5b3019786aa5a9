-- The text that a syntax tree is printed as: its words, each with a space behind it. Each function puts the words of a tree
-- before what stands behind it.
use Rattle.std.specs.Prelude.{ℕ, zero, suc, Option, Some, None, List, [], ◌∷◌, ◌++◌, codes}
use Rattle.std.specs.Fmt.{decimal}
use Rattle.c_grammar.specs.Trees.{Name, Specifier, Declarator, Fields, Param, Params, Head, BinaryOp, PrefixOp, Expr, Links, Args, AssignOp}
use Rattle.c_grammar.specs.Trees.{StepOp, Simple, Initialized, Local, ForInit, Stmt, Stmts, Item, File}

abbrev pub Texts : Type 0
Texts = List (List ℕ)

abbrev pub print_each : {A : Type 0} → (A → Texts → Texts) → List A → Texts → Texts
print_each print [] behind = behind
print_each print (one ∷ others) behind = print one (print_each print others behind)

-- each behind a comma
abbrev pub print_more : {A : Type 0} → (A → Texts → Texts) → List A → Texts → Texts
print_more print all behind = print_each (λ one rest. codes "," ∷ print one rest) all behind

abbrev pub print_maybe : {A : Type 0} → (A → Texts → Texts) → Option A → Texts → Texts
print_maybe print None behind = behind
print_maybe print (Some one) behind = print one behind

abbrev pub print_name : Name → Texts → Texts
print_name n behind = n.text ∷ behind

abbrev pub print_specifier : Specifier → Texts → Texts
print_specifier (Specifier.Int place) behind = codes "int" ∷ behind
print_specifier (Specifier.Void place) behind = codes "void" ∷ behind
print_specifier (Specifier.Struct place tag) behind = codes "struct" ∷ print_name tag behind
print_specifier (Specifier.Alias alias) behind = print_name alias behind

abbrev pub print_stars : ℕ → Texts → Texts
print_stars zero behind = behind
print_stars (suc count) behind = codes "*" ∷ print_stars count behind

abbrev pub print_declarator : Declarator → Texts → Texts
print_declarator decl behind = print_stars decl.stars (print_name decl.name behind)

abbrev pub print_fields : Fields → Texts → Texts
print_fields line behind =
    print_specifier line.specifier (print_declarator line.first (print_more print_declarator line.others (codes ";" ∷ behind)))

abbrev pub print_struct_body : List Fields → Texts → Texts
print_struct_body lines behind = codes "{" ∷ print_each print_fields lines (codes "}" ∷ behind)

abbrev pub print_param : Param → Texts → Texts
print_param p behind = print_specifier p.specifier (print_stars p.stars (print_maybe print_name p.name behind))

abbrev pub print_params : Params → Texts → Texts
print_params Params.NoParams behind = behind
print_params (Params.VoidParams place) behind = codes "void" ∷ behind
print_params (Params.Listed first others) behind = print_param first (print_more print_param others behind)

abbrev pub print_head : Head → Texts → Texts
print_head h behind = print_specifier h.specifier (print_declarator h.declarator (codes "(" ∷ print_params h.params (codes ")" ∷ behind)))

abbrev pub text_of_binary : BinaryOp → List ℕ
text_of_binary BinaryOp.Or = codes "||"
text_of_binary BinaryOp.And = codes "&&"
text_of_binary BinaryOp.Equal = codes "=="
text_of_binary BinaryOp.NotEqual = codes "!="
text_of_binary BinaryOp.Less = codes "<"
text_of_binary BinaryOp.LessEqual = codes "<="
text_of_binary BinaryOp.Greater = codes ">"
text_of_binary BinaryOp.GreaterEqual = codes ">="
text_of_binary BinaryOp.Add = codes "+"
text_of_binary BinaryOp.Subtract = codes "-"
text_of_binary BinaryOp.Multiply = codes "*"

abbrev pub text_of_prefix : PrefixOp → List ℕ
text_of_prefix PrefixOp.Negate = codes "-"
text_of_prefix PrefixOp.Not = codes "!"

-- `( sizeof ( TYPE ) )`
abbrev pub print_size_of : Specifier → Texts → Texts
print_size_of allocated behind = codes "(" ∷ codes "sizeof" ∷ codes "(" ∷ print_specifier allocated (codes ")" ∷ codes ")" ∷ behind)

abbrev pub print_malloc : Option Specifier → Specifier → Texts → Texts
print_malloc None allocated behind = codes "malloc" ∷ print_size_of allocated behind
print_malloc (Some as_type) allocated behind =
    codes "(" ∷ print_specifier as_type (codes "*" ∷ codes ")" ∷ codes "malloc" ∷ print_size_of allocated behind)

abbrev mutual
  pub print_expr : Expr → Texts → Texts
  print_expr (Expr.Chain first others) behind = print_expr first (print_links others behind)
  print_expr (Expr.Prefix place op inner) behind = text_of_prefix op ∷ print_expr inner behind
  print_expr (Expr.Members base first others) behind =
      print_expr base (codes "->" ∷ print_name first (print_each (λ field rest. codes "->" ∷ print_name field rest) others behind))
  print_expr (Expr.Variable n) behind = print_name n behind
  print_expr (Expr.Number place value) behind = decimal value ∷ behind
  print_expr (Expr.Null place) behind = codes "NULL" ∷ behind
  print_expr (Expr.Paren place inner) behind = codes "(" ∷ print_expr inner (codes ")" ∷ behind)
  print_expr (Expr.Call callee args) behind = print_name callee (codes "(" ∷ print_args args (codes ")" ∷ behind))
  print_expr (Expr.Malloc place as_type allocated) behind = print_malloc as_type allocated behind

  pub print_links : Links → Texts → Texts
  print_links Links.NoLinks behind = behind
  print_links (Links.Link op operand others) behind = text_of_binary op ∷ print_expr operand (print_links others behind)

  pub print_args : Args → Texts → Texts
  print_args Args.NoArgs behind = behind
  print_args (Args.Arg first others) behind = print_expr first (print_more_args others behind)

  pub print_more_args : Args → Texts → Texts
  print_more_args Args.NoArgs behind = behind
  print_more_args (Args.Arg first others) behind = codes "," ∷ print_expr first (print_more_args others behind)

abbrev pub text_of_assign : AssignOp → List ℕ
text_of_assign AssignOp.Set = codes "="
text_of_assign AssignOp.AddTo = codes "+="
text_of_assign AssignOp.SubtractFrom = codes "-="
text_of_assign AssignOp.MultiplyBy = codes "*="

abbrev pub text_of_step : StepOp → List ℕ
text_of_step StepOp.Increment = codes "++"
text_of_step StepOp.Decrement = codes "--"

abbrev pub print_simple : Simple → Texts → Texts
print_simple (Simple.Assign target op value) behind = print_expr target (text_of_assign op ∷ print_expr value behind)
print_simple (Simple.Step target op) behind = print_expr target (text_of_step op ∷ behind)
print_simple (Simple.Perform callee args) behind = print_name callee (codes "(" ∷ print_args args (codes ")" ∷ behind))
print_simple (Simple.Free place pointer) behind = codes "free" ∷ codes "(" ∷ print_expr pointer (codes ")" ∷ behind)

abbrev pub print_initialized : Initialized → Texts → Texts
print_initialized one behind =
    print_declarator one.declarator (print_maybe (λ value rest. codes "=" ∷ print_expr value rest) one.value behind)

abbrev pub print_local : Local → Texts → Texts
print_local l behind = print_specifier l.specifier (print_initialized l.first (print_more print_initialized l.others behind))

abbrev pub print_init : ForInit → Texts → Texts
print_init ForInit.NoInit behind = behind
print_init (ForInit.Locals l) behind = print_local l behind
print_init (ForInit.Once s) behind = print_simple s behind

abbrev mutual
  pub print_stmt : Stmt → Texts → Texts
  print_stmt (Stmt.Block place body end) behind = codes "{" ∷ print_stmts body (codes "}" ∷ behind)
  print_stmt (Stmt.Empty place) behind = codes ";" ∷ behind
  print_stmt (Stmt.Declare l) behind = print_local l (codes ";" ∷ behind)
  print_stmt (Stmt.Do s) behind = print_simple s (codes ";" ∷ behind)
  print_stmt (Stmt.If place test body) behind = codes "if" ∷ codes "(" ∷ print_expr test (codes ")" ∷ print_stmt body behind)
  print_stmt (Stmt.IfElse place test body other) behind =
      codes "if" ∷ codes "(" ∷ print_expr test (codes ")" ∷ print_stmt body (codes "else" ∷ print_stmt other behind))
  print_stmt (Stmt.While place test body) behind = codes "while" ∷ codes "(" ∷ print_expr test (codes ")" ∷ print_stmt body behind)
  print_stmt (Stmt.DoWhile place body test) behind =
      codes "do" ∷ print_stmt body (codes "while" ∷ codes "(" ∷ print_expr test (codes ")" ∷ codes ";" ∷ behind))
  print_stmt (Stmt.For place init test step body) behind =
      codes "for" ∷ codes "("
      ∷ print_init init
      (codes ";" ∷ print_maybe print_expr test (codes ";" ∷ print_maybe print_simple step (codes ")" ∷ print_stmt body behind)))
  print_stmt (Stmt.Break place) behind = codes "break" ∷ codes ";" ∷ behind
  print_stmt (Stmt.Continue place) behind = codes "continue" ∷ codes ";" ∷ behind
  print_stmt (Stmt.Return place value) behind = codes "return" ∷ print_maybe print_expr value (codes ";" ∷ behind)

  pub print_stmts : Stmts → Texts → Texts
  print_stmts Stmts.NoStmts behind = behind
  print_stmts (Stmts.Next first others) behind = print_stmt first (print_stmts others behind)

abbrev pub print_item : Item → Texts → Texts
print_item (Item.StructItem place tag lines) behind = codes "struct" ∷ print_name tag (print_struct_body lines (codes ";" ∷ behind))
print_item (Item.TypedefStruct place tag lines alias) behind =
    codes "typedef" ∷ codes "struct" ∷ print_maybe print_name tag (print_struct_body lines (print_name alias (codes ";" ∷ behind)))
print_item (Item.TypedefAlias place tag alias) behind =
    codes "typedef" ∷ codes "struct" ∷ print_name tag (print_name alias (codes ";" ∷ behind))
print_item (Item.Prototype h) behind = print_head h (codes ";" ∷ behind)
print_item (Item.Definition h place body end) behind = print_head h (codes "{" ∷ print_stmts body (codes "}" ∷ behind))

-- the words of the file
abbrev pub printed : File → Texts
printed file = print_each print_item file.items []

-- the words, each with a space behind it
abbrev pub spaced_texts : Texts → List ℕ
spaced_texts [] = []
spaced_texts (text ∷ texts) = text ++ 32 ∷ spaced_texts texts

-- the text of the file
abbrev pub printed_text : File → List ℕ
printed_text file = spaced_texts (printed file)
