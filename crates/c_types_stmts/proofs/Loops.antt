-- What is found in statements, by their trees.
use Rattle.std.proofs.Common.{◌≡◌, Bool, true, Option, Result, OnOk, sym, ap, ◌∙◌}
use Rattle.c_grammar.specs.declared.tokens.places.Place.{Place}
use Rattle.c_grammar.specs.Trees.{Expr, Simple, ForInit, Stmt}
use Rattle.c_types_rules.specs.Types.{Kind}
use Rattle.c_types_rules.specs.Scopes.{Env, entered}
use Rattle.c_types_rules.specs.Statements.{◌⊹◌, init, behind_init, maybe_test, maybe_simple, stmt}
use Rattle.c_types_stmts.specs.declared.finding.Finding.{Finding}
use Rattle.c_types_stmts.specs.Adding.{Adds}
use Rattle.c_types_stmts.proofs.Adding.{then, same, ends_same}

pub for_found : (env within inner : Env) (result : Kind) (loops : Bool) (place : Place) (first : ForInit) (condition : Option Expr)
    (step : Option Simple) (body : Stmt)
    → {a b c d e : Finding} → within ≡ entered env → inner ≡ behind_init within first
    → Adds (init within first) a b → Adds (maybe_test inner condition) b c → Adds (maybe_simple inner step) c d
    → Adds (stmt (entered inner) result true body) d e
    → Adds (stmt env result loops (Stmt.For place first condition step body)) a e
for_found env within inner result loops place first condition step body entry is f t s b =
    same (then f (then t (then s b))) (stmt env result loops (Stmt.For place first condition step body))
    (ap (λ i. init within first ⊹ (maybe_test i condition ⊹ (maybe_simple i step ⊹ stmt (entered i) result true body))) is
    ∙ ap (λ w. init w first
    ⊹ (maybe_test (behind_init w first) condition
    ⊹ (maybe_simple (behind_init w first) step ⊹ stmt (entered (behind_init w first)) result true body))) entry)

-- the tree of what the code sees
pub tree_found : (env : Env) (result : Kind) (loops : Bool) (seen to : Stmt) → seen ≡ to → {a b : Finding}
    → Adds (stmt env result loops to) a b → Adds (stmt env result loops seen) a b
tree_found env result loops seen to is now = same now (stmt env result loops seen) (ap (stmt env result loops) (sym is))

pub tree_ends : {T E : Type 0} (r : Result T E) (env : Env) (result : Kind) (loops : Bool) (seen to : Stmt) (a b : Finding) → seen ≡ to
    → OnOk r (Adds (stmt env result loops to) a b) → OnOk r (Adds (stmt env result loops seen) a b)
tree_ends r env result loops seen to a b is now =
    ends_same r (stmt env result loops to) (stmt env result loops seen) a b now (ap (stmt env result loops) (sym is))
