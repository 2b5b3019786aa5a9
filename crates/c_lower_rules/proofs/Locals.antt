-- The types of the locals of a body in which nothing is refused are types.
use Rattle.std.proofs.Common.{◌≡◌, Bool, true, List, [], ◌∷◌, subst}
use Rattle.std.specs.List.{AllByRecursion}
use Rattle.shape_data.specs.declared.program.Ty.{Ty}
use Rattle.shape_data.specs.WellFormed.{IsTy}
use Rattle.c_grammar.specs.Trees.{Specifier, Initialized, Local, ForInit, Stmt, Stmts}
use Rattle.c_types_rules.specs.Types.{Kind}
use Rattle.c_types_rules.specs.Tables.{Tables, specifier_refusals, object_kind}
use Rattle.c_types_rules.specs.Scopes.{Env, entered}
use Rattle.c_types_rules.specs.Statements as typing
use Rattle.c_types_rules.specs.Statements.{behind_local, behind_locals, behind_init, behind_stmt}
use Rattle.c_types_rules.specs.Programs.{known}
use Rattle.c_types_rules.proofs.KnownTables.{nil_left, nil_right, holds, all_append, IsSound, AreAliasesDefined, object_sound}
use Rattle.c_types_rules.proofs.KnownStmts.{accepted_specifier, accepted_locals}
use Rattle.c_lower_rules.specs.Statements.{kinds_of_locals, declared_kinds, init_kinds, stmt_kinds, stmts_kinds}

-- a sound type is one
abbrev pub GivesTypes : Tables → Type 0
GivesTypes tables = (kind : Kind) → IsSound tables kind → IsTy (known kind)

abbrev AreTypes : List Ty → Type 0
AreTypes kinds = AllByRecursion IsTy kinds

locals_types : (tables : Tables) → GivesTypes tables → AreAliasesDefined tables → (env : Env) → env.tables ≡ tables
    → (s : Specifier) (all : List Initialized) → specifier_refusals tables s ≡ []
    → (typing.locals env s all).refusals ≡ [] → AreTypes (kinds_of_locals tables s all)
locals_types tables gives aliases env eq s [] e f = tt
locals_types tables gives aliases env eq s (first ∷ others) e f = (
  gives (object_kind tables s first.declarator.stars)
      (object_sound tables aliases s first.declarator.stars e (holds _ _ _ (nil_left _ _ (nil_left _ _ f)))),
  locals_types tables gives aliases (behind_local env s first) eq s others e (nil_right _ _ f),
)

declaration_types : (tables : Tables) → GivesTypes tables → AreAliasesDefined tables → (env : Env) → env.tables ≡ tables → (l : Local)
    → (typing.declaration env l).refusals ≡ []
    → AreTypes (declared_kinds tables l)
declaration_types tables gives aliases env eq l e =
    locals_types tables gives aliases env eq l.specifier (l.first ∷ l.others)
    (subst (λ t. specifier_refusals t l.specifier ≡ []) eq (accepted_specifier env l e)) (accepted_locals env l e)

init_types : (tables : Tables) → GivesTypes tables → AreAliasesDefined tables → (env : Env) → env.tables ≡ tables → (first : ForInit)
    → (typing.init env first).refusals ≡ []
    → AreTypes (init_kinds tables first)
init_types tables gives aliases env eq ForInit.NoInit e = tt
init_types tables gives aliases env eq (ForInit.Locals l) e = declaration_types tables gives aliases env eq l e
init_types tables gives aliases env eq (ForInit.Once s) e = tt

locals_same : (tables : Tables) (env : Env) → env.tables ≡ tables → (s : Specifier) (all : List Initialized)
    → (behind_locals env s all).tables ≡ tables
locals_same tables env eq s [] = eq
locals_same tables env eq s (first ∷ others) = locals_same tables (behind_local env s first) eq s others

init_same : (tables : Tables) (env : Env) → env.tables ≡ tables → (first : ForInit) → (behind_init env first).tables ≡ tables
init_same tables env eq (ForInit.Locals l) = locals_same tables env eq l.specifier (l.first ∷ l.others)
init_same tables env eq ForInit.NoInit = eq
init_same tables env eq (ForInit.Once s) = eq

stmt_same : (tables : Tables) (env : Env) → env.tables ≡ tables → (s : Stmt) → (behind_stmt env s).tables ≡ tables
stmt_same tables env eq (Stmt.Declare l) = locals_same tables env eq l.specifier (l.first ∷ l.others)
stmt_same tables env eq other = eq

mutual
  stmt_types : (tables : Tables) → GivesTypes tables → AreAliasesDefined tables → (result : Kind) (loops : Bool) (s : Stmt) (env : Env)
      → env.tables ≡ tables
      → (typing.stmt env result loops s).refusals ≡ [] → AreTypes (stmt_kinds tables s)
  stmt_types tables gives aliases result loops (Stmt.Block place body end) env eq e =
      stmts_types tables gives aliases result loops body (entered env) eq e
  stmt_types tables gives aliases result loops (Stmt.Empty place) env eq e = tt
  stmt_types tables gives aliases result loops (Stmt.Declare l) env eq e = declaration_types tables gives aliases env eq l e
  stmt_types tables gives aliases result loops (Stmt.Do s) env eq e = tt
  stmt_types tables gives aliases result loops (Stmt.If place c body) env eq e =
      stmt_types tables gives aliases result loops body (entered env) eq (nil_right _ _ e)
  stmt_types tables gives aliases result loops (Stmt.IfElse place c body other) env eq e =
      all_append IsTy (stmt_kinds tables body) (stmt_kinds tables other)
      (stmt_types tables gives aliases result loops body (entered env) eq (nil_left _ _ (nil_right _ _ e)))
      (stmt_types tables gives aliases result loops other (entered env) eq
      (nil_right (typing.stmt (entered env) result loops body).refusals _ (nil_right (typing.test env c).refusals _ e)))
  stmt_types tables gives aliases result loops (Stmt.While place c body) env eq e =
      stmt_types tables gives aliases result true body (entered env) eq (nil_right _ _ e)
  stmt_types tables gives aliases result loops (Stmt.DoWhile place body c) env eq e =
      stmt_types tables gives aliases result true body (entered env) eq (nil_left _ _ e)
  stmt_types tables gives aliases result loops (Stmt.For place first c step body) env eq e =
      all_append IsTy (init_kinds tables first) (stmt_kinds tables body)
      (init_types tables gives aliases (entered env) eq first (nil_left _ _ e))
      (stmt_types tables gives aliases result true body (entered (behind_init (entered env) first))
      (init_same tables (entered env) eq first)
      (nil_right (typing.maybe_simple (behind_init (entered env) first) step).refusals _
      (nil_right (typing.maybe_test (behind_init (entered env) first) c).refusals _
      (nil_right (typing.init (entered env) first).refusals _ e))))
  stmt_types tables gives aliases result loops (Stmt.Break place) env eq e = tt
  stmt_types tables gives aliases result loops (Stmt.Continue place) env eq e = tt
  stmt_types tables gives aliases result loops (Stmt.Return place value) env eq e = tt

  pub stmts_types : (tables : Tables) → GivesTypes tables → AreAliasesDefined tables
      → (result : Kind) (loops : Bool) (all : Stmts) (env : Env) → env.tables ≡ tables
      → (typing.stmts env result loops all).refusals ≡ [] → AreTypes (stmts_kinds tables all)
  stmts_types tables gives aliases result loops Stmts.NoStmts env eq e = tt
  stmts_types tables gives aliases result loops (Stmts.Next first others) env eq e =
      all_append IsTy (stmt_kinds tables first) (stmts_kinds tables others)
      (stmt_types tables gives aliases result loops first env eq (nil_left _ _ e))
      (stmts_types tables gives aliases result loops others (behind_stmt env first) (stmt_same tables env eq first) (nil_right _ _ e))
