-- Statements leave the program and the scopes around as they were.
use Rattle.std.proofs.Common.{◌≡◌, ℕ, ◌≤◌, List, [], ◌∷◌, ◌++◌, length, length-append, refl, sym, ap, ◌∙◌, subst, arith}
use Rattle.c_grammar.specs.Trees.{Specifier, Initialized, Local, ForInit, Stmt, Stmts}
use Rattle.c_types_rules.specs.Tables.{Tables}
use Rattle.c_types_rules.specs.Scopes.{Variable, Env, entered}
use Rattle.c_types_rules.specs.Statements.{behind_local, behind_locals, behind_declaration, behind_init, behind_stmt}
use Rattle.c_types_stmts.specs.Behind.{behind_stmts}

-- the program and the scopes around are those of the other
pub record IsWithin (outer inner : Env) : Type 0 where
  pub tables : inner.tables ≡ outer.tables
  pub around : inner.scopes.around ≡ outer.scopes.around

same_scope : (env : Env) → IsWithin env env
same_scope env = record { tables = refl; around = refl }

locals_within : (env : Env) (specifier : Specifier) (ones : List Initialized) → IsWithin env (behind_locals env specifier ones)
locals_within env specifier [] = same_scope env
locals_within env specifier (first ∷ others) =
    let rest = locals_within (behind_local env specifier first) specifier others in
    record { tables = rest.tables; around = rest.around }

pub declaration_within : (env : Env) (one : Local) → IsWithin env (behind_declaration env one)
declaration_within env one = locals_within env one.specifier (one.first ∷ one.others)

pub init_within : (env : Env) (one : ForInit) → IsWithin env (behind_init env one)
init_within env ForInit.NoInit = same_scope env
init_within env (ForInit.Locals one) = declaration_within env one
init_within env (ForInit.Once one) = same_scope env

pub stmt_within : (env : Env) (one : Stmt) → IsWithin env (behind_stmt env one)
stmt_within env (Stmt.Declare one) = declaration_within env one
stmt_within env (Stmt.Block place body end) = same_scope env
stmt_within env (Stmt.Empty place) = same_scope env
stmt_within env (Stmt.Do one) = same_scope env
stmt_within env (Stmt.If place condition body) = same_scope env
stmt_within env (Stmt.IfElse place condition body other) = same_scope env
stmt_within env (Stmt.While place condition body) = same_scope env
stmt_within env (Stmt.DoWhile place body condition) = same_scope env
stmt_within env (Stmt.For place first condition step body) = same_scope env
stmt_within env (Stmt.Break place) = same_scope env
stmt_within env (Stmt.Continue place) = same_scope env
stmt_within env (Stmt.Return place value) = same_scope env

pub stmts_within : (env : Env) (ones : Stmts) → IsWithin env (behind_stmts env ones)
stmts_within env Stmts.NoStmts = same_scope env
stmts_within env (Stmts.Next first others) =
    let one = stmt_within env first in
    let rest = stmts_within (behind_stmt env first) others in
    record { tables = rest.tables ∙ one.tables; around = rest.around ∙ one.around }

-- what `leave` says
abbrev pub Leaves : Env → ℕ → Env → Type 0
Leaves before begin after =
    (here : List Variable) → (around : List Variable) → before.scopes.around ≡ here ++ around → length around ≡ begin
    → after ≡ record { tables = before.tables; scopes = record { here = here; around = around } }

-- behind a scope that was entered the variables stand as before
pub left : (outer within inner after : Env) (begin : ℕ) → within ≡ entered outer → IsWithin within inner
    → begin ≡ length outer.scopes.around
    → Leaves inner begin after → after ≡ outer
left outer within inner after begin entry kept is leaves =
    let around : inner.scopes.around ≡ outer.scopes.here ++ outer.scopes.around = kept.around ∙ ap (λ (e : Env). e.scopes.around) entry in
    leaves outer.scopes.here outer.scopes.around around (sym is)
    ∙ ap (λ (t : Tables). record { tables = t; scopes = outer.scopes }) (kept.tables ∙ ap (λ (e : Env). e.tables) entry)

-- a scope that was entered may be left
pub may_leave : (outer within inner : Env) (begin : ℕ) → within ≡ entered outer → IsWithin within inner → begin ≡ length outer.scopes.around
    → begin ≤ length inner.scopes.around
may_leave outer within inner begin entry kept is =
    let around : length inner.scopes.around ≡ length (outer.scopes.here ++ outer.scopes.around) =
    ap length (kept.around ∙ ap (λ (e : Env). e.scopes.around) entry) in
    omega (arith, length-append outer.scopes.here outer.scopes.around)

pub stmt_kept : (within inner : Env) (one : Stmt) → inner ≡ behind_stmt within one → IsWithin within inner
stmt_kept within inner one is = subst (λ e. IsWithin within e) (sym is) (stmt_within within one)

pub stmts_kept : (within inner : Env) (ones : Stmts) → inner ≡ behind_stmts within ones → IsWithin within inner
stmts_kept within inner ones is = subst (λ e. IsWithin within e) (sym is) (stmts_within within ones)

pub init_kept : (within inner : Env) (one : ForInit) → inner ≡ behind_init within one → IsWithin within inner
init_kept within inner one is = subst (λ e. IsWithin within e) (sym is) (init_within within one)

pub kept_again : (within inner after : Env) → after ≡ inner → IsWithin within inner → IsWithin within after
kept_again within inner after is kept = subst (λ e. IsWithin within e) (sym is) kept
