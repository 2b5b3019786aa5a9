-- What the parser computes: for each rule of the grammar the tree that words begin with, or where reading them stops. No
-- public contract cites it.
use Rattle.std.specs.Prelude.{ℕ, zero, suc, Bool, true, false, ◌==◌, ◌||◌, Option, Some, None, List, [], ◌∷◌, if◌then◌else◌, length, Result}
use Rattle.std.specs.Prelude.{Ok, Err}
use Rattle.std.specs.Str.Parse.{digits_value}
use Rattle.c_grammar.specs.declared.tokens.places.Place.{Place}
use Rattle.c_grammar.specs.declared.tokens.places.Refusal.{Refusal}
use Rattle.c_grammar.specs.declared.class.Class.{Class}
use Rattle.c_grammar.specs.declared.class.Class.TheVariants as class
use Rattle.c_grammar.specs.Classes.{number_of, numbered}
use Rattle.c_grammar.specs.Words.{Word}
use Rattle.c_grammar.specs.Trees.{Name, Specifier, Declarator, Fields, Param, Params, Head, BinaryOp, PrefixOp, Expr, Links, Args, AssignOp}
use Rattle.c_grammar.specs.Trees.{StepOp, Simple, Initialized, Local, ForInit, Stmt, Stmts, Item, File}
use Rattle.c_grammar.specs.Spelling.{is_void_alone}

-- where reading stops: at the first of these words, which cannot stand there, or else (deep) opens a level too many
pub record Halt : Type 0 where
  pub deep : Bool
  pub at : List Word

-- a thing that was read and the words behind it, or where reading stops
abbrev pub Got : Type 0 → Type 0
Got A = Result (A × List Word) Halt

infixl 10 ◌>>=◌
abbrev pub ◌>>=◌ : {A B : Type 0} → Result A Halt → (A → Result B Halt) → Result B Halt
(Ok a) >>= next = next a
(Err halt) >>= next = Err halt

-- a word that cannot stand there
abbrev pub wrong : {A : Type 0} → List Word → Result A Halt
wrong words = Err (record { deep = false; at = words })

-- a word that opens a level too many
abbrev pub too_deep : {A : Type 0} → List Word → Result A Halt
too_deep words = Err (record { deep = true; at = words })

-- the class of the first word
abbrev pub class_at : List Word → Class
class_at [] = class.OtherKey
class_at (first ∷ others) = numbered first.class

abbrev pub place_at : List Word → Place
place_at [] = record { line = 0; column = 0 }
place_at (first ∷ others) = first.place

abbrev pub text_at : List Word → List ℕ
text_at [] = []
text_at (first ∷ others) = first.text

-- the words behind the first
abbrev pub behind : List Word → List Word
behind [] = []
behind (first ∷ others) = others

abbrev pub is_class : Class → Class → Bool
is_class one other = number_of one == number_of other

-- the words behind a word of the class
abbrev pub take : Class → List Word → Result (List Word) Halt
take kind words = if is_class kind (class_at words) then Ok (behind words) else wrong words

-- the first word as a name
abbrev pub name_here : List Word → Name
name_here words = record { place = place_at words; text = text_at words }

abbrev pub read_name : List Word → Got Name
read_name words = if is_class class.Name (class_at words) then Ok (name_here words, behind words) else wrong words

-- `(`, whatever stands behind it
abbrev pub is_open : Class → Bool
is_open class.Open = true
is_open class.Cast = true
is_open _ = false

abbrev pub take_open : List Word → Result (List Word) Halt
take_open words = if is_open (class_at words) then Ok (behind words) else wrong words

-- things as long as one begins, and no more than so many
abbrev pub read_each : {A : Type 0} → ℕ → (Class → Bool) → (List Word → Got A) → List Word → Got (List A)
read_each zero begins read words = Ok ([], words)
read_each (suc times) begins read words =
    if begins (class_at words)
    then (read words >>= (λ one. read_each times begins read one.1 >>= (λ others. Ok (one.0 ∷ others.0, others.1))))
    else Ok ([], words)

-- things, each behind a comma, and no more than so many
abbrev pub read_more : {A : Type 0} → ℕ → (List Word → Got A) → List Word → Got (List A)
read_more times read words = read_each times (is_class class.Comma) (λ comma. read (behind comma)) words

-- a thing, if one begins
abbrev pub read_maybe : {A : Type 0} → (Class → Bool) → (List Word → Got A) → List Word → Got (Option A)
read_maybe begins read words =
    if begins (class_at words) then (read words >>= (λ one. Ok (Some one.0, one.1))) else Ok (None, words)

-- types, declarators, fields, parameters

abbrev pub specifier_by : Class → List Word → Got Specifier
specifier_by class.Int words = Ok (Specifier.Int (place_at words), behind words)
specifier_by class.Void words = Ok (Specifier.Void (place_at words), behind words)
specifier_by class.Struct words = read_name (behind words) >>= (λ tag. Ok (Specifier.Struct (place_at words) tag.0, tag.1))
specifier_by class.Name words = Ok (Specifier.Alias (name_here words), behind words)
specifier_by _ words = wrong words

unfoldable pub read_specifier : List Word → Got Specifier
read_specifier words = specifier_by (class_at words) words

abbrev pub begins_specifier : Class → Bool
begins_specifier class.Int = true
begins_specifier class.Void = true
begins_specifier class.Struct = true
begins_specifier class.Name = true
begins_specifier _ = false

-- how many stars the words begin with, and the words behind them
abbrev pub read_stars : ℕ → List Word → ℕ × List Word
read_stars zero words = (0, words)
read_stars (suc times) words =
    if is_class class.Star (class_at words) then (let more = read_stars times (behind words) in (suc more.0, more.1)) else (0, words)

unfoldable pub read_declarator : List Word → Got Declarator
read_declarator words =
    let stars = read_stars (length words) words in
    read_name stars.1 >>= (λ n. Ok (record { stars = stars.0; name = n.0 }, n.1))

unfoldable pub read_fields : List Word → Got Fields
read_fields words =
    read_specifier words >>= (λ s. read_declarator s.1 >>= (λ first. read_more (length first.1) read_declarator first.1 >>= (λ others.
    take class.Semicolon others.1 >>= (λ rest. Ok (record { specifier = s.0; first = first.0; others = others.0 }, rest)))))

unfoldable pub read_struct_body : List Word → Got (List Fields)
read_struct_body words =
    take class.OpenBrace words >>= (λ rest. read_each (length rest) begins_specifier read_fields rest >>= (λ lines.
    take class.CloseBrace lines.1 >>= (λ end. Ok (lines.0, end))))

unfoldable pub read_param : List Word → Got Param
read_param words =
    read_specifier words >>= (λ s.
    let stars = read_stars (length s.1) s.1 in
    read_maybe (is_class class.Name) read_name stars.1 >>= (λ n. Ok (record { specifier = s.0; stars = stars.0; name = n.0 }, n.1)))

-- where a type specifier begins
abbrev pub place_of_specifier : Specifier → Place
place_of_specifier (Specifier.Int place) = place
place_of_specifier (Specifier.Void place) = place
place_of_specifier (Specifier.Struct place tag) = place
place_of_specifier (Specifier.Alias alias) = alias.place

-- the parameters that were read: one `void` alone says that there is none
abbrev pub listed : Param → List Param → Bool → Params
listed first others true = Params.VoidParams (place_of_specifier first.specifier)
listed first others false = Params.Listed first others

unfoldable pub read_params : List Word → Got Params
read_params words =
    if begins_specifier (class_at words)
    then (read_param words >>= (λ first. read_more (length first.1) read_param first.1 >>= (λ others.
    Ok (listed first.0 others.0 (is_void_alone first.0 others.0), others.1))))
    else Ok (Params.NoParams, words)

-- expressions; what is one level deeper is read by a reader that is passed, if there is one

abbrev pub Below : Type 0
Below = Option (List Word → Got Expr)

abbrev pub begins_expr : Class → Bool
begins_expr class.Name = true
begins_expr class.Number = true
begins_expr class.Open = true
begins_expr class.Cast = true
begins_expr class.Null = true
begins_expr class.Malloc = true
begins_expr class.Minus = true
begins_expr class.Not = true
begins_expr _ = false

-- operands, each behind a comma, and no more than so many
abbrev pub read_more_args : ℕ → (List Word → Got Expr) → List Word → Got Args
read_more_args zero read words = Ok (Args.NoArgs, words)
read_more_args (suc times) read words =
    if is_class class.Comma (class_at words)
    then (read (behind words) >>= (λ one. read_more_args times read one.1 >>= (λ others. Ok (Args.Arg one.0 others.0, others.1))))
    else Ok (Args.NoArgs, words)

abbrev pub read_args : (List Word → Got Expr) → List Word → Got Args
read_args read words =
    if begins_expr (class_at words)
    then (read words >>= (λ one. read_more_args (length one.1) read one.1 >>= (λ others. Ok (Args.Arg one.0 others.0, others.1))))
    else Ok (Args.NoArgs, words)

-- the arguments of a call, from its `(` to its `)`
abbrev pub read_call : Below → List Word → Got Args
read_call None words = too_deep words
read_call (Some read) words =
    read_args read (behind words) >>= (λ args. take class.Close args.1 >>= (λ rest. Ok (args.0, rest)))

abbrev pub read_member : List Word → Got Name
read_member words = read_name (behind words)

-- `-> name`, once or more or not at all
abbrev pub read_members : List Word → Got (List Name)
read_members words = read_each (length words) (is_class class.Arrow) read_member words

-- an expression and the members that are taken of it
abbrev pub with_members : Expr → List Name → Expr
with_members base [] = base
with_members base (first ∷ others) = Expr.Members base first others

unfoldable pub read_size_of : List Word → Got Specifier
read_size_of words =
    take_open words >>= (λ a. take class.Sizeof a >>= (λ b. take_open b >>= (λ c. read_specifier c >>= (λ allocated.
    take class.Close allocated.1 >>= (λ d. take class.Close d >>= (λ rest. Ok (allocated.0, rest)))))))

-- `malloc(sizeof(TYPE))` without a cast
unfoldable pub read_malloc : List Word → Got Expr
read_malloc words = read_size_of (behind words) >>= (λ allocated. Ok (Expr.Malloc (place_at words) None allocated.0, allocated.1))

unfoldable pub read_cast : List Word → Got Expr
read_cast words =
    read_specifier (behind words)
    >>= (λ as_type. take class.Star as_type.1 >>= (λ a. take class.Close a >>= (λ b. take class.Malloc b >>= (λ c.
    read_size_of c >>= (λ allocated. Ok (Expr.Malloc (place_at words) (Some as_type.0) allocated.0, allocated.1))))))

abbrev pub read_paren : Below → List Word → Got Expr
read_paren None words = too_deep words
read_paren (Some read) words = read (behind words)
    >>= (λ inner. take class.Close inner.1 >>= (λ rest. Ok (Expr.Paren (place_at words) inner.0, rest)))

-- a primary expression that begins with no name
abbrev pub closed_by : Class → Below → List Word → Got Expr
closed_by class.Number below words = Ok (Expr.Number (place_at words) (digits_value 10 (text_at words)), behind words)
closed_by class.Null below words = Ok (Expr.Null (place_at words), behind words)
closed_by class.Open below words = read_paren below words
closed_by class.Cast below words = read_cast words
closed_by class.Malloc below words = read_malloc words
closed_by _ below words = wrong words

-- a variable or a call, by its name and the words behind it
abbrev pub named_by : Bool → Below → Name → List Word → Got Expr
named_by true below n words = read_call below words >>= (λ args. Ok (Expr.Call n args.0, args.1))
named_by false below n words = Ok (Expr.Variable n, words)

abbrev pub primary_by : Class → Below → List Word → Got Expr
primary_by class.Name below words = named_by (is_open (class_at (behind words))) below (name_here words) (behind words)
primary_by kind below words = closed_by kind below words

abbrev pub read_postfix : Below → List Word → Got Expr
read_postfix below words =
    primary_by (class_at words) below words >>= (λ base. read_members base.1 >>= (λ fields. Ok (with_members base.0 fields.0, fields.1)))

abbrev pub read_prefix : PrefixOp → Below → List Word → Got Expr
read_prefix op None words = too_deep words
read_prefix op (Some read) words = read (behind words) >>= (λ inner. Ok (Expr.Prefix (place_at words) op inner.0, inner.1))

-- an operand: with a prefix, whose operand is read by the first of the readers, or without
abbrev pub unary_by : Class → Below → Below → List Word → Got Expr
unary_by class.Minus unary expr words = read_prefix PrefixOp.Negate unary words
unary_by class.Not unary expr words = read_prefix PrefixOp.Not unary words
unary_by _ unary expr words = read_postfix expr words

-- the operator of a class, if it is one of the level, counted from `*`
abbrev pub op_at : ℕ → Class → Option BinaryOp
op_at zero class.Star = Some BinaryOp.Multiply
op_at (suc zero) class.Plus = Some BinaryOp.Add
op_at (suc zero) class.Minus = Some BinaryOp.Subtract
op_at (suc (suc zero)) class.Less = Some BinaryOp.Less
op_at (suc (suc zero)) class.LessEqual = Some BinaryOp.LessEqual
op_at (suc (suc zero)) class.Greater = Some BinaryOp.Greater
op_at (suc (suc zero)) class.GreaterEqual = Some BinaryOp.GreaterEqual
op_at (suc (suc (suc zero))) class.Equal = Some BinaryOp.Equal
op_at (suc (suc (suc zero))) class.NotEqual = Some BinaryOp.NotEqual
op_at (suc (suc (suc (suc zero)))) class.And = Some BinaryOp.And
op_at (suc (suc (suc (suc (suc more))))) class.Or = Some BinaryOp.Or
op_at _ _ = None

-- one more operator and its operand, if there is one
abbrev pub link_by : Option BinaryOp → (List Word → Got Expr) → (List Word → Got Links) → List Word → Got Links
link_by None read more words = Ok (Links.NoLinks, words)
link_by (Some op) read more words =
    read (behind words) >>= (λ one. more one.1 >>= (λ others. Ok (Links.Link op one.0 others.0, others.1)))

-- operators of a level and their operands, and no more than so many
abbrev pub read_links : ℕ → ℕ → (List Word → Got Expr) → List Word → Got Links
read_links zero levels read words = Ok (Links.NoLinks, words)
read_links (suc times) levels read words = link_by (op_at levels (class_at words)) read (read_links times levels read) words

abbrev pub chained : Expr → Links → Expr
chained first Links.NoLinks = first
chained first (Links.Link op operand others) = Expr.Chain first (Links.Link op operand others)

-- a chain of so many levels of operators
unfoldable pub read_chain : ℕ → (List Word → Got Expr) → List Word → Got Expr
read_chain zero read words = read words
read_chain (suc levels) read words =
    read_chain levels read words >>= (λ first. read_links (length first.1) levels (read_chain levels read) first.1 >>= (λ others.
    Ok (chained first.0 others.0, others.1)))

-- an operand, and an expression, within so many levels of nesting
unfoldable pub read_unary : ℕ → List Word → Got Expr
read_unary zero words = unary_by (class_at words) None None words
read_unary (suc n) words = unary_by (class_at words) (Some (read_unary n)) (Some (read_chain 6 (read_unary n))) words

abbrev pub read_expr : ℕ → List Word → Got Expr
read_expr n words = read_chain 6 (read_unary n) words

abbrev pub read_below : ℕ → Below
read_below zero = None
read_below (suc n) = Some (read_expr n)

-- simple statements

abbrev pub begins_assign : Class → Bool
begins_assign class.Set = true
begins_assign class.AddTo = true
begins_assign class.SubtractFrom = true
begins_assign class.MultiplyBy = true
begins_assign class.Increment = true
begins_assign class.Decrement = true
begins_assign _ = false

-- what is assigned, behind the operator
abbrev pub assign_with : AssignOp → ℕ → Expr → List Word → Got Simple
assign_with op n target words = read_expr n (behind words) >>= (λ value. Ok (Simple.Assign target op value.0, value.1))

-- what is done to a target
abbrev pub assign_by : Class → ℕ → Expr → List Word → Got Simple
assign_by class.Set n target words = assign_with AssignOp.Set n target words
assign_by class.AddTo n target words = assign_with AssignOp.AddTo n target words
assign_by class.SubtractFrom n target words = assign_with AssignOp.SubtractFrom n target words
assign_by class.MultiplyBy n target words = assign_with AssignOp.MultiplyBy n target words
assign_by class.Increment n target words = Ok (Simple.Step target StepOp.Increment, behind words)
assign_by class.Decrement n target words = Ok (Simple.Step target StepOp.Decrement, behind words)
assign_by _ n target words = wrong words

-- members of a base, and what is done to them
unfoldable pub read_target : ℕ → Expr → List Word → Got Simple
read_target n base words = read_members words >>= (λ fields. assign_by (class_at fields.1) n (with_members base fields.0) fields.1)

-- a simple statement behind a call
unfoldable pub read_called : ℕ → Name → Args → List Word → Got Simple
read_called n callee args words =
    if is_class class.Arrow (class_at words) || begins_assign (class_at words)
    then read_target n (Expr.Call callee args) words
    else Ok (Simple.Perform callee args, words)

-- a simple statement behind a name
unfoldable pub read_named : ℕ → Name → List Word → Got Simple
read_named n first words =
    if is_open (class_at words)
    then (read_call (read_below n) words >>= (λ args. read_called n first args.0 args.1))
    else read_target n (Expr.Variable first) words

-- a simple statement that begins with no name
abbrev pub other_by : Class → ℕ → List Word → Got Simple
other_by class.Free n words =
    take_open (behind words)
    >>= (λ a. read_expr n a >>= (λ pointer. take class.Close pointer.1 >>= (λ rest. Ok (Simple.Free (place_at words) pointer.0, rest))))
other_by kind n words = closed_by kind (read_below n) words >>= (λ base. read_target n base.0 base.1)

abbrev pub simple_by : Class → ℕ → List Word → Got Simple
simple_by class.Name n words = read_named n (name_here words) (behind words)
simple_by kind n words = other_by kind n words

unfoldable pub read_simple : ℕ → List Word → Got Simple
read_simple n words = simple_by (class_at words) n words

abbrev pub begins_simple : Class → Bool
begins_simple class.Name = true
begins_simple class.Number = true
begins_simple class.Open = true
begins_simple class.Cast = true
begins_simple class.Null = true
begins_simple class.Malloc = true
begins_simple class.Free = true
begins_simple _ = false

-- locals

-- `= value` behind a declarator
abbrev pub read_value : ℕ → List Word → Got Expr
read_value n words = read_expr n (behind words)

unfoldable pub read_initialized : ℕ → List Word → Got Initialized
read_initialized n words =
    read_declarator words >>= (λ decl. read_maybe (is_class class.Set) (read_value n) decl.1 >>= (λ value.
    Ok (record { declarator = decl.0; value = value.0 }, value.1)))

unfoldable pub read_locals : ℕ → Specifier → List Word → Got Local
read_locals n specifier words =
    read_initialized n words >>= (λ first. read_more (length first.1) (read_initialized n) first.1 >>= (λ others.
    Ok (record { specifier = specifier; first = first.0; others = others.0 }, others.1)))

-- locals, or a simple statement
pub data Clause : Type 0 where
  Declares : Local → Clause
  Does : Simple → Clause

abbrev pub read_typed : ℕ → List Word → Got Clause
read_typed n words = read_specifier words >>= (λ s. read_locals n s.0 s.1 >>= (λ l. Ok (Declares l.0, l.1)))

abbrev pub begins_declarator : Class → Bool
begins_declarator class.Star = true
begins_declarator class.Name = true
begins_declarator _ = false

-- locals of a type that has a name, or a simple statement, behind the name
abbrev pub clause_named : Bool → ℕ → Name → List Word → Got Clause
clause_named true n first words = read_locals n (Specifier.Alias first) words >>= (λ l. Ok (Declares l.0, l.1))
clause_named false n first words = read_named n first words >>= (λ s. Ok (Does s.0, s.1))

abbrev pub clause_by : Class → ℕ → List Word → Got Clause
clause_by class.Int n words = read_typed n words
clause_by class.Void n words = read_typed n words
clause_by class.Struct n words = read_typed n words
clause_by class.Name n words = clause_named (begins_declarator (class_at (behind words))) n (name_here words) (behind words)
clause_by kind n words = other_by kind n words >>= (λ s. Ok (Does s.0, s.1))

unfoldable pub read_clause : ℕ → List Word → Got Clause
read_clause n words = clause_by (class_at words) n words

abbrev pub begins_clause : Class → Bool
begins_clause class.Int = true
begins_clause class.Void = true
begins_clause class.Struct = true
begins_clause kind = begins_simple kind

-- statements

abbrev pub stmt_of : Clause → Stmt
stmt_of (Declares l) = Stmt.Declare l
stmt_of (Does s) = Stmt.Do s

abbrev pub init_of : Option Clause → ForInit
init_of None = ForInit.NoInit
init_of (Some (Declares l)) = ForInit.Locals l
init_of (Some (Does s)) = ForInit.Once s

-- the statements that open no level
abbrev pub flat_by : Class → ℕ → List Word → Got Stmt
flat_by class.Semicolon n words = Ok (Stmt.Empty (place_at words), behind words)
flat_by class.Break n words = take class.Semicolon (behind words) >>= (λ rest. Ok (Stmt.Break (place_at words), rest))
flat_by class.Continue n words = take class.Semicolon (behind words) >>= (λ rest. Ok (Stmt.Continue (place_at words), rest))
flat_by class.Return n words =
    read_maybe begins_expr (read_expr n) (behind words)
    >>= (λ value. take class.Semicolon value.1 >>= (λ rest. Ok (Stmt.Return (place_at words) value.0, rest)))
flat_by kind n words = clause_by kind n words >>= (λ c. take class.Semicolon c.1 >>= (λ rest. Ok (stmt_of c.0, rest)))

-- a test in parentheses
unfoldable pub read_test : ℕ → List Word → Got Expr
read_test n words = take_open words >>= (λ a. read_expr n a >>= (λ e. take class.Close e.1 >>= (λ rest. Ok (e.0, rest))))

abbrev pub begins_stmt : Class → Bool
begins_stmt class.OpenBrace = true
begins_stmt class.Semicolon = true
begins_stmt class.If = true
begins_stmt class.While = true
begins_stmt class.Do = true
begins_stmt class.For = true
begins_stmt class.Break = true
begins_stmt class.Continue = true
begins_stmt class.Return = true
begins_stmt kind = begins_clause kind

abbrev pub read_stmts : ℕ → (List Word → Got Stmt) → List Word → Got Stmts
read_stmts zero read words = Ok (Stmts.NoStmts, words)
read_stmts (suc times) read words =
    if begins_stmt (class_at words)
    then (read words >>= (λ one. read_stmts times read one.1 >>= (λ others. Ok (Stmts.Next one.0 others.0, others.1))))
    else Ok (Stmts.NoStmts, words)

-- a block behind its brace: its statements and the place of the other brace
pub record Body : Type 0 where
  pub stmts : Stmts
  pub end : Place

abbrev pub read_body : (List Word → Got Stmt) → List Word → Got Body
read_body read words =
    read_stmts (length words) read words
    >>= (λ body. take class.CloseBrace body.1 >>= (λ rest. Ok (record { stmts = body.0; end = place_at body.1 }, rest)))

-- `else` and its statement, if they follow
abbrev pub if_of : Place → Expr → Stmt → Option Stmt → Stmt
if_of place test body None = Stmt.If place test body
if_of place test body (Some other) = Stmt.IfElse place test body other

abbrev pub read_else : (List Word → Got Stmt) → List Word → Got Stmt
read_else read words = read (behind words)

abbrev pub read_if : ℕ → (List Word → Got Stmt) → List Word → Got Stmt
read_if n read words =
    read_test n (behind words) >>= (λ test. read test.1 >>= (λ body. read_maybe (is_class class.Else) (read_else read) body.1 >>= (λ other.
    Ok (if_of (place_at words) test.0 body.0 other.0, other.1))))

abbrev pub read_while : ℕ → (List Word → Got Stmt) → List Word → Got Stmt
read_while n read words = read_test n (behind words)
    >>= (λ test. read test.1 >>= (λ body. Ok (Stmt.While (place_at words) test.0 body.0, body.1)))

abbrev pub read_do : ℕ → (List Word → Got Stmt) → List Word → Got Stmt
read_do n read words =
    read (behind words) >>= (λ body. take class.While body.1 >>= (λ a. read_test n a >>= (λ test. take class.Semicolon test.1 >>= (λ rest.
    Ok (Stmt.DoWhile (place_at words) body.0 test.0, rest)))))

abbrev pub read_for : ℕ → (List Word → Got Stmt) → List Word → Got Stmt
read_for n read words =
    take_open (behind words) >>= (λ a. read_maybe begins_clause (read_clause n) a >>= (λ init. take class.Semicolon init.1 >>= (λ b.
    read_maybe begins_expr (read_expr n) b >>= (λ test. take class.Semicolon test.1 >>= (λ c.
    read_maybe begins_simple (read_simple n) c >>= (λ step. take class.Close step.1 >>= (λ d. read d >>= (λ body.
    Ok (Stmt.For (place_at words) (init_of init.0) test.0 step.0 body.0, body.1)))))))))

-- a statement that opens a level, by the readers within it
abbrev pub nested_by : Class → ℕ → (List Word → Got Stmt) → List Word → Got Stmt
nested_by class.OpenBrace n read words =
    read_body read (behind words) >>= (λ body. Ok (Stmt.Block (place_at words) body.0.stmts body.0.end, body.1))
nested_by class.If n read words = read_if n read words
nested_by class.While n read words = read_while n read words
nested_by class.Do n read words = read_do n read words
nested_by class.For n read words = read_for n read words
nested_by _ n read words = wrong words

abbrev pub opens_level : Class → Bool
opens_level class.OpenBrace = true
opens_level class.If = true
opens_level class.While = true
opens_level class.Do = true
opens_level class.For = true
opens_level _ = false

-- a statement within so many levels of nesting
unfoldable pub read_stmt : ℕ → List Word → Got Stmt
read_stmt zero words = if opens_level (class_at words) then too_deep words else flat_by (class_at words) zero words
read_stmt (suc n) words =
    if opens_level (class_at words) then nested_by (class_at words) n (read_stmt n) words else flat_by (class_at words) (suc n) words

-- items

abbrev pub head_of : Specifier → Declarator → Params → Head
head_of specifier declarator params = record { specifier = specifier; declarator = declarator; params = params }

-- the body of a definition, from its brace on
abbrev pub read_definition : ℕ → Head → List Word → Got Item
read_definition zero head words = too_deep words
read_definition (suc n) head words =
    read_body (read_stmt n) (behind words) >>= (λ body. Ok (Item.Definition head (place_at words) body.0.stmts body.0.end, body.1))

-- what stands behind a head
abbrev pub item_end_by : Class → ℕ → Head → List Word → Got Item
item_end_by class.Semicolon n head words = Ok (Item.Prototype head, behind words)
item_end_by class.OpenBrace n head words = read_definition n head words
item_end_by _ n head words = wrong words

-- an item behind its type
unfoldable pub read_headed : ℕ → Specifier → List Word → Got Item
read_headed n specifier words =
    read_declarator words >>= (λ decl. take_open decl.1 >>= (λ a. read_params a >>= (λ params. take class.Close params.1 >>= (λ rest.
    item_end_by (class_at rest) n (head_of specifier decl.0 params.0) rest))))

-- a structure behind its tag, or an item whose type is that structure
abbrev pub struct_by : Bool → ℕ → Place → Name → List Word → Got Item
struct_by true n place tag words =
    read_struct_body words >>= (λ lines. take class.Semicolon lines.1 >>= (λ rest. Ok (Item.StructItem place tag lines.0, rest)))
struct_by false n place tag words = read_headed n (Specifier.Struct place tag) words

-- a `typedef` with fields, from its `{` on
abbrev pub read_typedef_struct : Place → Option Name → List Word → Got Item
read_typedef_struct place tag words =
    read_struct_body words >>= (λ lines. read_name lines.1 >>= (λ alias. take class.Semicolon alias.1 >>= (λ rest.
    Ok (Item.TypedefStruct place tag lines.0 alias.0, rest))))

abbrev pub read_typedef_alias : Place → Name → List Word → Got Item
read_typedef_alias place tag words =
    read_name words >>= (λ alias. take class.Semicolon alias.1 >>= (λ rest. Ok (Item.TypedefAlias place tag alias.0, rest)))

unfoldable pub read_typedef : List Word → Got Item
read_typedef words =
    take class.Struct (behind words) >>= (λ a.
    if is_class class.OpenBrace (class_at a)
    then read_typedef_struct (place_at words) None a
    else (read_name a >>= (λ tag.
    if is_class class.OpenBrace (class_at tag.1)
    then read_typedef_struct (place_at words) (Some tag.0) tag.1
    else read_typedef_alias (place_at words) tag.0 tag.1)))

abbrev pub item_by : Class → ℕ → List Word → Got Item
item_by class.Struct n words =
    read_name (behind words) >>= (λ tag. struct_by (is_class class.OpenBrace (class_at tag.1)) n (place_at words) tag.0 tag.1)
item_by class.Typedef n words = read_typedef words
item_by class.Int n words = read_headed n (Specifier.Int (place_at words)) (behind words)
item_by class.Void n words = read_headed n (Specifier.Void (place_at words)) (behind words)
item_by class.Name n words = read_headed n (Specifier.Alias (name_here words)) (behind words)
item_by _ n words = wrong words

unfoldable pub read_item : ℕ → List Word → Got Item
read_item n words = item_by (class_at words) n words

abbrev pub begins_item : Class → Bool
begins_item class.Struct = true
begins_item class.Typedef = true
begins_item class.Int = true
begins_item class.Void = true
begins_item class.Name = true
begins_item _ = false

-- all of the words
unfoldable pub read_file : ℕ → List Word → Result File Halt
read_file n words =
    read_each (length words) begins_item (read_item n) words
    >>= (λ items. take class.End items.1 >>= (λ rest. Ok (record { items = items.0 })))

-- the refusal of a stop: at the first word that is left
abbrev pub refusal_of : Halt → Refusal
refusal_of halt = record { line = (place_at halt.at).line; column = (place_at halt.at).column; code = (if halt.deep then 112 else 111) }
