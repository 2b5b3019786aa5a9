-- Where the body of a procedure begins.
use Rattle.std.proofs.Common.{◌≡◌, ℕ, ◌+◌, ◌<◌, min, List, [], length, ap, ◌∙◌, arith}
use Rattle.std.proofs.Math.Nat.{min-eq_left}
use Rattle.shape_data.specs.declared.program.Ty.{Ty}
use Rattle.c_grammar.specs.Trees.{Head}
use Rattle.c_grammar.specs.FirstPlaces.{place_of_head}
use Rattle.c_types_rules.specs.Tables.{Tables, kind_of_result}
use Rattle.c_types_rules.specs.Scopes.{Env}
use Rattle.c_types_rules.specs.Items.{listed}
use Rattle.c_types_rules.specs.Programs.{known}
use Rattle.c_types_names.specs.Behind.{behind_params}
use Rattle.c_lower_rules.specs.Programs.{bound_params, at_body, result_type}
use Rattle.c_lower_exprs.specs.declared.slots.Bound.{Bound}
use Rattle.c_lower_exprs.specs.Seen.{stacked}
use Rattle.c_lower_exprs.proofs.Stacking.{stacked-nil}

pub body_begun : (tables : Tables) (head : Head) (locals : ℕ) (cleared after : Env) (none bound : List Bound) (first temp line : ℕ)
    (result : Ty)
    → cleared ≡ record { tables = tables; scopes = record { here = []; around = [] } } → none ≡ []
    → after ≡ behind_params cleared (listed head.params)
    → (length (listed head.params) < 4294967296 → stacked bound ≡ bound_params 0 (listed head.params) (stacked none))
    → (length (listed head.params) < 4294967296 → first ≡ length (listed head.params)) → temp ≡ min (first + locals) 4294967295
    → result ≡ known (kind_of_result after.tables head) → line ≡ (place_of_head head).line
    → length (listed head.params) + locals < 4294967296
    → record { env = after; bound = stacked bound; first_local = first; first_temp = temp; result = result; first_line = line; line = 0 }
    ≡ at_body tables head locals
body_begun tables head locals cleared after none bound first temp line result clears nothing adds binds counts sat results at fits =
    let count = length (listed head.params) in
    let few : count < 4294967296 = omega (arith, fits) in
    let env : after ≡ (at_body tables head locals).env = adds ∙ ap (λ e. behind_params e (listed head.params)) clears in
    let begins = counts few in
    let temps : temp ≡ count + locals = sat ∙ ap (λ n. min (n + locals) 4294967295) begins ∙ min-eq_left (omega (arith, fits)) in
    let variables = binds few ∙ ap (λ xs. bound_params 0 (listed head.params) (stacked xs)) nothing
    ∙ ap (bound_params 0 (listed head.params)) stacked-nil in
    let kind : result ≡ result_type tables head = results ∙ ap (λ (e : Env). known (kind_of_result e.tables head)) env in
    ap (λ e. record {
      env = e;
      bound = stacked bound;
      first_local = first;
      first_temp = temp;
      result = result;
      first_line = line;
      line = 0;
    }) env
    ∙ ap (λ b. record
    (at_body tables head locals) { bound = b; first_local = first; first_temp = temp; result = result; first_line = line }) variables
    ∙ ap (λ n. record (at_body tables head locals) { first_local = n; first_temp = temp; result = result; first_line = line }) begins
    ∙ ap (λ n. record (at_body tables head locals) { first_temp = n; result = result; first_line = line }) temps
    ∙ ap (λ k. record (at_body tables head locals) { result = k; first_line = line }) kind
    ∙ ap (λ n. record (at_body tables head locals) { first_line = n }) at
