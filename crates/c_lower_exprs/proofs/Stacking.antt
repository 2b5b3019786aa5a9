-- The variables in scope, the last one first.
use Rattle.std.proofs.Common.{◌≡◌, ℕ, ◌-◌, ◌≤◌, List, [], ◌∷◌, ◌++◌, length, map, take, drop, reverse, refl}
use Rattle.std.proofs.Common.{sym, ap, ◌∙◌, arith}
use Rattle.std.proofs.lemmas.List.{map-append, reverse-append, take-append-drop, length-reverse, length-map, length-append}
use Rattle.std.proofs.lemmas.List.{length-take-le, length-drop, drop_at}
use Rattle.c_types_rules.specs.Scopes as scopes
use Rattle.c_types_rules.specs.Scopes.{Env, with_variable}
use Rattle.c_types_rules.specs.Types.{Kind}
use Rattle.c_types_rules.specs.Tables.{Tables}
use Rattle.c_lower_rules.specs.Contexts.{Context, within_scope}
use Rattle.c_lower_rules.specs.Contexts as contexts
use Rattle.c_lower_exprs.specs.declared.slots.Bound.{Bound}
use Rattle.c_lower_exprs.specs.Seen.{bound_seen, stacked}
use Rattle.c_lower_exprs.specs.Contexts.{behind_variable, IsWithin}

pub stacked-append : (one other : List Bound) → stacked (one ++ other) ≡ stacked other ++ stacked one
unfolding stacked
stacked-append one other = ap reverse (map-append bound_seen one other) ∙ reverse-append (map bound_seen one) (map bound_seen other)

pub stacked-nil : stacked [] ≡ []
unfolding stacked
stacked-nil = refl

pub stacked-one : (b : Bound) → stacked (b ∷ []) ≡ bound_seen b ∷ []
unfolding stacked
stacked-one b = refl

pub stacked-push : (bound : List Bound) (b : Bound) → stacked (bound ++ b ∷ []) ≡ bound_seen b ∷ stacked bound
stacked-push bound b = stacked-append bound (b ∷ []) ∙ ap (λ xs. xs ++ stacked bound) (stacked-one b)

pub length-stacked : (bound : List Bound) → length (stacked bound) ≡ length bound
unfolding stacked
length-stacked bound = length-reverse (map bound_seen bound) ∙ length-map bound bound_seen

-- SCOPES

-- what stands behind a list of the same length
tail_same : {A : Type 0} (one other more outer : List A) → one ++ other ≡ more ++ outer → length other ≡ length outer → other ≡ outer
tail_same one other more outer is same =
    let front : length one ≡ length more = omega (arith, length-append one other, length-append more outer, ap length is, same) in
    sym (drop_at one other (length more) front) ∙ ap (drop (length more)) is ∙ drop_at more outer (length more) refl

-- the variables that are left are those outside
pub bound_left : (bound : List Bound) (n : ℕ) (more outer : List contexts.Bound) → stacked bound ≡ more ++ outer → n ≡ length outer
    → stacked (take n bound) ≡ outer
bound_left bound n more outer is same =
    let all = ap length is ∙ length-append more outer in
    let sizes = length-stacked bound in
    let fits : n ≤ length bound = omega (arith, all, sizes, same) in
    tail_same (stacked (drop n bound)) (stacked (take n bound)) more outer
    (sym (stacked-append (take n bound) (drop n bound)) ∙ ap stacked (take-append-drop n bound) ∙ is)
    (length-stacked (take n bound) ∙ length-take-le n bound fits ∙ same)

-- what `leave` of an environment says
abbrev pub EnvLeaves : Env → ℕ → Env → Type 0
EnvLeaves before begin after =
    (here around : List scopes.Variable) → before.scopes.around ≡ here ++ around → length around ≡ begin
    → after ≡ record { tables = before.tables; scopes = record { here = here; around = around } }

pub left_tables : (before after : Env) (begin : ℕ) → begin ≤ length before.scopes.around → EnvLeaves before begin after
    → after.tables ≡ before.tables
left_tables before after begin le leaves =
    let n = length before.scopes.around - begin in
    ap (λ (e : Env). e.tables)
    (leaves (take n before.scopes.around) (drop n before.scopes.around) (sym (take-append-drop n before.scopes.around))
    (length-drop n before.scopes.around ∙ omega (arith, le)))

pub context_left : (outer inner : Context) (env : Env) (bound : List Bound) (after : Env) (begin n : ℕ) → inner.env ≡ env
    → inner.bound ≡ stacked bound → EnvLeaves env begin after
    → IsWithin (within_scope outer) inner → begin ≡ length outer.env.scopes.around → n ≡ length outer.bound
    → record inner { env = after; bound = stacked (take n bound) } ≡ outer
context_left outer inner env bound after begin n env_is bound_is leaves h at same =
    let around : env.scopes.around ≡ outer.env.scopes.here ++ outer.env.scopes.around =
    ap (λ (e : Env). e.scopes.around) (sym env_is) ∙ h.around in
    let tables : env.tables ≡ outer.env.tables = ap (λ (e : Env). e.tables) (sym env_is) ∙ h.tables in
    let env' : after ≡ outer.env =
    leaves outer.env.scopes.here outer.env.scopes.around around (sym at)
    ∙ ap (λ (t : Tables). record { tables = t; scopes = outer.env.scopes }) tables in
    let bound' = bound_left bound n h.more outer.bound (sym bound_is ∙ h.bound) same in
    ap (λ e. record inner { env = e; bound = stacked (take n bound) }) env' ∙ ap (λ bs. record inner { env = outer.env; bound = bs }) bound'
    ∙ ap (λ x. record inner { env = outer.env; bound = outer.bound; first_local = x }) h.first_local
    ∙ ap (λ x. record inner { env = outer.env; bound = outer.bound; first_local = outer.first_local; first_temp = x }) h.first_temp
    ∙ ap (λ x. record inner {
      env = outer.env;
      bound = outer.bound;
      first_local = outer.first_local;
      first_temp = outer.first_temp;
      result = x;
    }) h.result
    ∙ ap (λ x. record inner {
      env = outer.env;
      bound = outer.bound;
      first_local = outer.first_local;
      first_temp = outer.first_temp;
      result = outer.result;
      first_line = x;
    }) h.first_line
    ∙ ap (λ x. record outer { line = x }) h.line

pub variable_added : (c : Context) (env : Env) (bound more : List Bound) (added : Env) (b : Bound) (kind : Kind) → c.env ≡ env
    → c.bound ≡ stacked bound
    → added ≡ with_variable env b.name.now kind → more ≡ bound ++ b ∷ []
    → record c { env = added; bound = stacked more } ≡ behind_variable c b.name.now kind b.slot
variable_added c env bound more added b kind env_is bound_is adds pushes =
    ap (λ e. record c { env = e; bound = stacked more }) (adds ∙ ap (λ e. with_variable e b.name.now kind) (sym env_is))
    ∙ ap (λ bs. record c { env = with_variable c.env b.name.now kind; bound = bs })
    (ap stacked pushes ∙ stacked-push bound b ∙ ap (λ bs. bound_seen b ∷ bs) (sym bound_is))
