-- What is found in items.
use Rattle.std.proofs.Common.{◌≡◌, Result, Ok, Err, OnOk, List, [], ◌++◌, append_assoc, ap, ◌∙◌}
use Rattle.c_grammar.specs.declared.tokens.places.Refusal.{Refusal}
use Rattle.c_grammar.specs.Trees.{Head, Stmts}
use Rattle.c_types_rules.specs.Types.{Kind}
use Rattle.c_types_rules.specs.Scopes.{Env}
use Rattle.c_types_rules.specs.Statements.{Found, refuses, ◌⊹◌}
use Rattle.c_types_rules.specs.Items.{listed, param_variables}
use Rattle.c_types_names.specs.declared.first_refusal.FirstRefusal.{FirstRefusal}
use Rattle.c_types_names.specs.FirstRefusal.{with_refusals}
use Rattle.c_types_stmts.specs.declared.finding.Finding.{Finding}
use Rattle.c_types_stmts.specs.Adding.{Adds}
use Rattle.c_types_stmts.specs.Behind.{behind_stmts}
use Rattle.c_types_stmts.proofs.Adding.{refused, ends, ends_same}
use Rattle.c_types_stmts.proofs.Leaving.{stmts_within}
use Rattle.c_types_names.specs.Behind.{behind_params}

pub refused_on : {T E : Type 0} (r : Result T E) (all : List Refusal) (f : Finding) (first : FirstRefusal)
    → OnOk r (first ≡ with_refusals f.first all)
    → OnOk r (Adds (refuses all) f (record { first = first; kinds = f.kinds }))
refused_on (Ok x) all f first is = refused all f first is
refused_on (Err e) all f first is = tt

abbrev found_with : List Kind → List Refusal → Found
found_with kinds all = record { refusals = all; kinds = kinds }

-- the refusals of a definition's head, and what is found in its body
pub defined : {T E : Type 0} (r : Result T E) (one two three : List Refusal) (rest : Found) (f : Finding) (first : FirstRefusal)
    (after : Finding)
    → first ≡ with_refusals f.first ((one ++ two) ++ three) → OnOk r (Adds rest (record { first = first; kinds = f.kinds }) after)
    → OnOk r (Adds (refuses one ⊹ (refuses two ⊹ (refuses three ⊹ rest))) f after)
defined r one two three rest f first after is more =
    ends_same r (refuses ((one ++ two) ++ three) ⊹ rest) (refuses one ⊹ (refuses two ⊹ (refuses three ⊹ rest))) f after
    (ends r rest after (refused ((one ++ two) ++ three) f first is) more)
    (ap (found_with rest.kinds) (append_assoc (one ++ two) three rest.refusals ∙ append_assoc one two (three ++ rest.refusals)))

-- the body of a definition, where its parameters stand
module _ (env cleared within : Env) (head : Head) (statements : Stmts)
    (cleared_is : cleared ≡ record { tables = env.tables; scopes = record { here = []; around = [] } })
    (within_is : within ≡ behind_params cleared (listed head.params)) where
  entry : within
      ≡ record { tables = env.tables; scopes = record { here = param_variables env.tables (listed head.params) []; around = [] } }
  entry = within_is ∙ ap (λ (e : Env). behind_params e (listed head.params)) cleared_is

  pub same_tables : within.tables ≡ env.tables
  same_tables = ap (λ (e : Env). e.tables) entry

  pub tables_kept : (after : Env) (list : Stmts) → after ≡ behind_stmts within list → after.tables ≡ env.tables
  tables_kept after list is = ap (λ (e : Env). e.tables) is ∙ (stmts_within within list).tables ∙ same_tables

  pub tables_kept_on : {T E : Type 0} (r : Result T E) (after : Env) (list : Stmts) → OnOk r (after ≡ behind_stmts within list)
      → OnOk r (after.tables ≡ env.tables)
  tables_kept_on (Ok x) after list is = tables_kept after list is
  tables_kept_on (Err e) after list is = tt
