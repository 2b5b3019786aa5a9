-- The typing rules of statements: what is refused in them, and the types of their expressions in the order of the text.
use Rattle.std.specs.Prelude.{Bool, true, false, ◌&&◌, ◌||◌, not, Option, Some, None, List, [], ◌∷◌, ◌++◌, if◌then◌else◌}
use Rattle.shape_data.specs.declared.program.Ty.TheVariants.{Void}
use Rattle.c_grammar.specs.declared.tokens.places.Place.{Place}
use Rattle.c_grammar.specs.declared.tokens.places.Refusal.{Refusal}
use Rattle.c_grammar.specs.Trees.{Name, Specifier, Expr, Args, AssignOp, Simple, Initialized, Local, ForInit, Stmt, Stmts}
use Rattle.c_grammar.specs.Readers.{place_of_specifier}
use Rattle.c_grammar.specs.FirstPlaces.{place_of_expr}
use Rattle.c_types_rules.specs.Types.{Kind, may_be_int, unless, CLASH, SECOND, LEFT_OUT}
use Rattle.c_types_rules.specs.Tables.{object_kind, may_be_object, procedure_in}
use Rattle.c_types_rules.specs.Scopes.{Env, stands_here, with_variable, entered, is_hidden, specifier_refusals_in}
use Rattle.c_types_rules.specs.Expressions.{kind_of, kind_of_call, is_null, given_by, gives_int, gives_scalar, gives_pointer, fits}
use Rattle.c_types_rules.specs.Expressions.{expr_refusals, call_refusals, whole_refusals}
use Rattle.c_types_rules.specs.Kinds.{kinds, arg_kinds}

-- what is found in a part of a text: what is refused, and the types of its expressions
pub record Found : Type 0 where
  pub refusals : List Refusal
  pub kinds : List Kind

abbrev pub nothing_found : Found
nothing_found = record { refusals = []; kinds = [] }

abbrev pub refuses : List Refusal → Found
refuses refusals = record { refusals = refusals; kinds = [] }

infixr 20 ◌⊹◌
-- what is found in one part and then in the other
abbrev pub ◌⊹◌ : Found → Found → Found
one ⊹ other = record { refusals = one.refusals ++ other.refusals; kinds = one.kinds ++ other.kinds }

-- an expression where no call may stand
abbrev pub plain : Env → Expr → Found
plain env e = record { refusals = expr_refusals env e; kinds = kinds env e }

-- an expression that may be a call or `malloc` as a whole
abbrev pub whole : Env → Expr → Found
whole env e = record { refusals = whole_refusals env e; kinds = kinds env e }

-- a call that is a statement
abbrev pub called : Env → Name → Args → Found
called env callee args = record {
  refusals = call_refusals env callee args;
  kinds = kind_of_call env.tables (procedure_in env.tables.procedures callee.text) ∷ arg_kinds env args;
}

-- a variable or a member, parentheses aside (C11 6.5.16)
abbrev pub is_target : Expr → Bool
is_target (Expr.Variable n) = true
is_target (Expr.Members base first others) = true
is_target (Expr.Paren place inner) = is_target inner
is_target _ = false

abbrev pub target : Env → Expr → Found
target env e = plain env e ⊹ refuses (unless (is_target e) (place_of_expr e) LEFT_OUT)

-- `=` takes what fits its left side, the other operators ints (C11 6.5.16)
abbrev pub may_assign : Env → AssignOp → Expr → Expr → Bool
may_assign env AssignOp.Set left right = fits env (kind_of env left) right
may_assign env _ left right = may_be_int (kind_of env left) && gives_int (given_by env right)

-- what `free` takes (C11 7.22.3.3): a pointer, or a null pointer
abbrev pub may_be_freed : Env → Expr → Bool
may_be_freed env e = is_null e || gives_pointer (given_by env e)

abbrev pub simple : Env → Simple → Found
simple env (Simple.Assign left op right) =
    target env left ⊹ whole env right ⊹ refuses (unless (may_assign env op left right) (place_of_expr left) CLASH)
simple env (Simple.Step left op) = target env left ⊹ refuses (unless (may_be_int (kind_of env left)) (place_of_expr left) CLASH)
simple env (Simple.Perform callee args) = called env callee args
simple env (Simple.Free place pointer) = plain env pointer ⊹ refuses (unless (may_be_freed env pointer) place CLASH)

-- the type of a local
abbrev pub local_kind : Env → Specifier → Initialized → Kind
local_kind env specifier one = object_kind env.tables specifier one.declarator.stars

-- behind a declarator its variable stands (C11 6.2.1)
abbrev pub behind_local : Env → Specifier → Initialized → Env
behind_local env specifier one = with_variable env one.declarator.name.text (local_kind env specifier one)

abbrev pub behind_locals : Env → Specifier → List Initialized → Env
behind_locals env specifier [] = env
behind_locals env specifier (first ∷ others) = behind_locals (behind_local env specifier first) specifier others

abbrev pub behind_declaration : Env → Local → Env
behind_declaration env l = behind_locals env l.specifier (l.first ∷ l.others)

-- the value that a local begins with (C11 6.7.9), where its variable stands already
abbrev pub initializer : Env → Place → Kind → Option Expr → Found
initializer env place kind None = nothing_found
initializer env place kind (Some value) = whole env value ⊹ refuses (unless (fits env kind value) place CLASH)

-- a local; the place is that of its declaration
abbrev pub local : Env → Specifier → Initialized → Found
local env specifier one =
    refuses (unless (may_be_object specifier one.declarator.stars) (place_of_specifier specifier) LEFT_OUT)
    ⊹ refuses (unless (not (stands_here env one.declarator.name.text)) one.declarator.name.place SECOND)
    ⊹ initializer (behind_local env specifier one) (place_of_specifier specifier) (local_kind env specifier one) one.value

abbrev pub locals : Env → Specifier → List Initialized → Found
locals env specifier [] = nothing_found
locals env specifier (first ∷ others) = local env specifier first ⊹ locals (behind_local env specifier first) specifier others

-- the specifier is read before its variables stand; where it is no type, nothing else in the declaration is refused
abbrev pub declaration : Env → Local → Found
declaration env l =
    refuses (specifier_refusals_in env l.specifier)
    ⊹ (if is_hidden env l.specifier then nothing_found else locals env l.specifier (l.first ∷ l.others))

-- a condition (C11 6.8.4.1, 6.8.5): an int or a pointer
abbrev pub test : Env → Expr → Found
test env e = plain env e ⊹ refuses (unless (gives_scalar (given_by env e)) (place_of_expr e) CLASH)

abbrev pub maybe_test : Env → Option Expr → Found
maybe_test env None = nothing_found
maybe_test env (Some e) = test env e

abbrev pub maybe_simple : Env → Option Simple → Found
maybe_simple env None = nothing_found
maybe_simple env (Some s) = simple env s

abbrev pub init : Env → ForInit → Found
init env ForInit.NoInit = nothing_found
init env (ForInit.Locals l) = declaration env l
init env (ForInit.Once s) = simple env s

abbrev pub behind_init : Env → ForInit → Env
behind_init env (ForInit.Locals l) = behind_declaration env l
behind_init env _ = env

abbrev pub is_void : Kind → Bool
is_void (Some Void) = true
is_void _ = false

abbrev pub may_be_void : Kind → Bool
may_be_void None = true
may_be_void known = is_void known

-- a procedure that answers nothing returns nothing, and every other returns what fits its result (C11 6.8.6.4)
abbrev pub returned : Env → Kind → Place → Option Expr → Found
returned env result place None = refuses (unless (may_be_void result) place CLASH)
returned env result place (Some value) = whole env value ⊹ refuses (unless (not (is_void result) && fits env result value) place CLASH)

-- behind a statement of a block
abbrev pub behind_stmt : Env → Stmt → Env
behind_stmt env (Stmt.Declare l) = behind_declaration env l
behind_stmt env _ = env

abbrev mutual
  -- a statement of a procedure with this result, in a loop or not. A block, a `for`, and each statement of an `if` or a loop has
  -- a scope of its own (C11 6.8.2, 6.8.4, 6.8.5); `break` and `continue` stand in loops (C11 6.8.6.2, 6.8.6.3)
  pub stmt : Env → Kind → Bool → Stmt → Found
  stmt env result loops (Stmt.Block place body end) = stmts (entered env) result loops body
  stmt env result loops (Stmt.Empty place) = nothing_found
  stmt env result loops (Stmt.Declare l) = declaration env l
  stmt env result loops (Stmt.Do s) = simple env s
  stmt env result loops (Stmt.If place condition body) = test env condition ⊹ stmt (entered env) result loops body
  stmt env result loops (Stmt.IfElse place condition body other) =
      test env condition ⊹ stmt (entered env) result loops body ⊹ stmt (entered env) result loops other
  stmt env result loops (Stmt.While place condition body) = test env condition ⊹ stmt (entered env) result true body
  stmt env result loops (Stmt.DoWhile place body condition) = stmt (entered env) result true body ⊹ test env condition
  stmt env result loops (Stmt.For place first condition step body) =
      init (entered env) first
      ⊹ maybe_test (behind_init (entered env) first) condition
      ⊹ maybe_simple (behind_init (entered env) first) step
      ⊹ stmt (entered (behind_init (entered env) first)) result true body
  stmt env result loops (Stmt.Break place) = refuses (unless loops place LEFT_OUT)
  stmt env result loops (Stmt.Continue place) = refuses (unless loops place LEFT_OUT)
  stmt env result loops (Stmt.Return place value) = returned env result place value

  -- statements, each where those before it stand
  pub stmts : Env → Kind → Bool → Stmts → Found
  stmts env result loops Stmts.NoStmts = nothing_found
  stmts env result loops (Stmts.Next first others) = stmt env result loops first ⊹ stmts (behind_stmt env first) result loops others
