-- Where the tables and the variables are sound and nothing is refused in a statement, the types of the expressions in it are known.
use Rattle.std.proofs.Common.{◌≡◌, Bool, true, false, List, [], ◌∷◌}
use Rattle.std.specs.Prelude.{not, Option, Some, None, if◌then◌else◌}
use Rattle.c_grammar.specs.declared.tokens.places.Place.{Place}
use Rattle.c_grammar.specs.declared.tokens.places.Refusal.{Refusal}
use Rattle.c_grammar.specs.Readers.{place_of_specifier}
use Rattle.c_grammar.specs.Trees.{Specifier, Expr, Simple, Initialized, Local, ForInit, Stmt, Stmts}
use Rattle.c_types_rules.specs.Types.{Kind, IsKnown}
use Rattle.c_types_rules.specs.Tables.{specifier_refusals, procedure_in}
use Rattle.c_types_rules.specs.Scopes.{Env, entered, is_hidden}
use Rattle.c_types_rules.specs.Expressions.{kind_of_call}
use Rattle.c_types_rules.specs.Statements.{Found, nothing_found, refuses, ◌⊹◌, plain, whole, target, simple, local_kind, behind_local}
use Rattle.c_types_rules.specs.Statements.{behind_locals, behind_declaration, initializer, local, locals, declaration, test, maybe_test}
use Rattle.c_types_rules.specs.Statements.{maybe_simple, init, behind_init, returned, behind_stmt, stmt, stmts}
use Rattle.c_types_rules.proofs.KnownTables.{nil_left, nil_right, holds, all_append, known_of, object_sound}
use Rattle.c_types_rules.proofs.KnownExprs.{AreKnown, SoundEnv, kinds_known, plain_known, args_known, call_sound, whole_known}

-- where nothing is refused, all types that are found are known
abbrev pub Fine : Found → Type 0
Fine found = found.refusals ≡ [] → AreKnown found.kinds

-- the second part may rest on the first
behind : (one other : Found) → Fine one → (one.refusals ≡ [] → Fine other) → Fine (one ⊹ other)
behind one other f g e =
    let accepted = nil_left one.refusals other.refusals e in
    all_append IsKnown one.kinds other.kinds (f accepted) (g accepted (nil_right one.refusals other.refusals e))

both : (one other : Found) → Fine one → Fine other → Fine (one ⊹ other)
both one other f g = behind one other f (λ _. g)

checked : (one : Found) (all : List Refusal) → Fine one → Fine (one ⊹ refuses all)
checked one all f = both one (refuses all) f (λ _. tt)

plain_fine : (env : Env) → SoundEnv env → (e : Expr) → Fine (plain env e)
plain_fine env known e h = kinds_known env e (plain_known env known e h)

whole_fine : (env : Env) → SoundEnv env → (e : Expr) → Fine (whole env e)
whole_fine env known e h = kinds_known env e (whole_known env known e h)

target_fine : (env : Env) → SoundEnv env → (e : Expr) → Fine (target env e)
target_fine env known e = checked (plain env e) _ (plain_fine env known e)

simple_fine : (env : Env) → SoundEnv env → (s : Simple) → Fine (simple env s)
simple_fine env known (Simple.Assign left op right) =
    both (target env left) _ (target_fine env known left) (checked (whole env right) _ (whole_fine env known right))
simple_fine env known (Simple.Step left op) = checked (target env left) _ (target_fine env known left)
simple_fine env known (Simple.Perform callee args) = λ h. (
  known_of env.tables (kind_of_call env.tables (procedure_in env.tables.procedures callee.text))
      (call_sound env known callee args h),
  args_known env known args (nil_left _ _ h),
)
simple_fine env known (Simple.Free place pointer) = checked (plain env pointer) _ (plain_fine env known pointer)

-- DECLARATIONS

pub local_behind : (env : Env) → SoundEnv env → (s : Specifier) (one : Initialized) → specifier_refusals env.tables s ≡ []
    → (local env s one).refusals ≡ [] → SoundEnv (behind_local env s one)
local_behind env known s one e h = record {
  tables = known.tables;
  variables = (object_sound env.tables known.tables.aliases s one.declarator.stars e (holds _ _ _ (nil_left _ _ h)), known.variables);
}

initializer_fine : (env : Env) → SoundEnv env → (place : Place) (kind : Kind) (value : Option Expr)
    → Fine (initializer env place kind value)
initializer_fine env known place kind None = λ _. tt
initializer_fine env known place kind (Some value) = checked (whole env value) _ (whole_fine env known value)

local_fine : (env : Env) → SoundEnv env → (s : Specifier) (one : Initialized) → specifier_refusals env.tables s ≡ []
    → Fine (local env s one)
local_fine env known s one e h =
    initializer_fine (behind_local env s one) (local_behind env known s one e h) (place_of_specifier s) (local_kind env s one) one.value
    (nil_right _ _ (nil_right _ _ h))

locals_fine : (env : Env) → SoundEnv env → (s : Specifier) (all : List Initialized) → specifier_refusals env.tables s ≡ []
    → Fine (locals env s all)
locals_fine env known s [] e = λ _. tt
locals_fine env known s (first ∷ others) e =
    behind (local env s first) (locals (behind_local env s first) s others) (local_fine env known s first e)
    (λ h. locals_fine (behind_local env s first) (local_behind env known s first e h) s others e)

locals_behind : (env : Env) → SoundEnv env → (s : Specifier) (all : List Initialized) → specifier_refusals env.tables s ≡ []
    → (locals env s all).refusals ≡ [] → SoundEnv (behind_locals env s all)
locals_behind env known s [] e h = known
locals_behind env known s (first ∷ others) e h =
    locals_behind (behind_local env s first) (local_behind env known s first e (nil_left _ _ h)) s others e (nil_right _ _ h)

-- where nothing is refused in a declaration, its specifier is a type
pub accepted_specifier : (env : Env) (l : Local) → (declaration env l).refusals ≡ [] → specifier_refusals env.tables l.specifier ≡ []
accepted_specifier env l h = nil_left _ _ (nil_left _ _ h)

pub accepted_locals : (env : Env) (l : Local) → (declaration env l).refusals ≡ []
    → (locals env l.specifier (l.first ∷ l.others)).refusals ≡ []
accepted_locals env l h =
    by_test (is_hidden env l.specifier) (holds _ _ _ (nil_right (specifier_refusals env.tables l.specifier) _ (nil_left _ _ h)))
    (nil_right _ _ h)
  where
    found : Found
    found = locals env l.specifier (l.first ∷ l.others)

    by_test : (b : Bool) → not b ≡ true → (if b then nothing_found else found).refusals ≡ [] → found.refusals ≡ []
    by_test true n e = absurd (cc)
    by_test false n e = e

declaration_fine : (env : Env) → SoundEnv env → (l : Local) → Fine (declaration env l)
declaration_fine env known l h = by_test (is_hidden env l.specifier) (nil_right _ _ h)
  where
    found : Found
    found = locals env l.specifier (l.first ∷ l.others)

    by_test : (b : Bool) → (if b then nothing_found else found).refusals ≡ [] → AreKnown (if b then nothing_found else found).kinds
    by_test true e = tt
    by_test false e = locals_fine env known l.specifier (l.first ∷ l.others) (accepted_specifier env l h) e

declaration_behind : (env : Env) → SoundEnv env → (l : Local) → (declaration env l).refusals ≡ [] → SoundEnv (behind_declaration env l)
declaration_behind env known l h =
    locals_behind env known l.specifier (l.first ∷ l.others) (accepted_specifier env l h) (accepted_locals env l h)

-- STATEMENTS

pub entered_sound : (env : Env) → SoundEnv env → SoundEnv (entered env)
entered_sound env known = record { tables = known.tables; variables = known.variables }

test_fine : (env : Env) → SoundEnv env → (e : Expr) → Fine (test env e)
test_fine env known e = checked (plain env e) _ (plain_fine env known e)

maybe_test_fine : (env : Env) → SoundEnv env → (e : Option Expr) → Fine (maybe_test env e)
maybe_test_fine env known None = λ _. tt
maybe_test_fine env known (Some e) = test_fine env known e

maybe_simple_fine : (env : Env) → SoundEnv env → (s : Option Simple) → Fine (maybe_simple env s)
maybe_simple_fine env known None = λ _. tt
maybe_simple_fine env known (Some s) = simple_fine env known s

init_fine : (env : Env) → SoundEnv env → (first : ForInit) → Fine (init env first)
init_fine env known ForInit.NoInit = λ _. tt
init_fine env known (ForInit.Locals l) = declaration_fine env known l
init_fine env known (ForInit.Once s) = simple_fine env known s

init_behind : (env : Env) → SoundEnv env → (first : ForInit) → (init env first).refusals ≡ [] → SoundEnv (behind_init env first)
init_behind env known (ForInit.Locals l) h = declaration_behind env known l h
init_behind env known _ h = known

returned_fine : (env : Env) → SoundEnv env → (result : Kind) (place : Place) (value : Option Expr) → Fine (returned env result place value)
returned_fine env known result place None = λ _. tt
returned_fine env known result place (Some value) = checked (whole env value) _ (whole_fine env known value)

stmt_behind : (env : Env) → SoundEnv env → (result : Kind) (loops : Bool) (s : Stmt) → (stmt env result loops s).refusals ≡ []
    → SoundEnv (behind_stmt env s)
stmt_behind env known result loops (Stmt.Declare l) h = declaration_behind env known l h
stmt_behind env known result loops _ h = known

mutual
  stmt_fine : (env : Env) → SoundEnv env → (result : Kind) (loops : Bool) (s : Stmt) → Fine (stmt env result loops s)
  stmt_fine env known result loops (Stmt.Block place body end) = stmts_fine (entered env) (entered_sound env known) result loops body
  stmt_fine env known result loops (Stmt.Empty place) = λ _. tt
  stmt_fine env known result loops (Stmt.Declare l) = declaration_fine env known l
  stmt_fine env known result loops (Stmt.Do s) = simple_fine env known s
  stmt_fine env known result loops (Stmt.If place condition body) =
      both (test env condition) _ (test_fine env known condition) (stmt_fine (entered env) (entered_sound env known) result loops body)
  stmt_fine env known result loops (Stmt.IfElse place condition body other) =
      both (test env condition) _ (test_fine env known condition)
      (both (stmt (entered env) result loops body) _ (stmt_fine (entered env) (entered_sound env known) result loops body)
      (stmt_fine (entered env) (entered_sound env known) result loops other))
  stmt_fine env known result loops (Stmt.While place condition body) =
      both (test env condition) _ (test_fine env known condition) (stmt_fine (entered env) (entered_sound env known) result true body)
  stmt_fine env known result loops (Stmt.DoWhile place body condition) =
      both (stmt (entered env) result true body) _ (stmt_fine (entered env) (entered_sound env known) result true body)
      (test_fine env known condition)
  stmt_fine env known result loops (Stmt.For place first condition step body) =
      behind (init (entered env) first) _ (init_fine (entered env) (entered_sound env known) first) (λ h.
      let inner = init_behind (entered env) (entered_sound env known) first h in
      both (maybe_test (behind_init (entered env) first) condition) _ (maybe_test_fine (behind_init (entered env) first) inner condition)
      (both (maybe_simple (behind_init (entered env) first) step) _ (maybe_simple_fine (behind_init (entered env) first) inner step)
      (stmt_fine (entered (behind_init (entered env) first)) (entered_sound (behind_init (entered env) first) inner) result true body)))
  stmt_fine env known result loops (Stmt.Break place) = λ _. tt
  stmt_fine env known result loops (Stmt.Continue place) = λ _. tt
  stmt_fine env known result loops (Stmt.Return place value) = returned_fine env known result place value

  pub stmts_fine : (env : Env) → SoundEnv env → (result : Kind) (loops : Bool) (all : Stmts) → Fine (stmts env result loops all)
  stmts_fine env known result loops Stmts.NoStmts = λ _. tt
  stmts_fine env known result loops (Stmts.Next first others) =
      behind (stmt env result loops first) (stmts (behind_stmt env first) result loops others) (stmt_fine env known result loops first)
      (λ h. stmts_fine (behind_stmt env first) (stmt_behind env known result loops first h) result loops others)
