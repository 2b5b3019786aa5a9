-- What is found in a local, by what the code looked up.
use Rattle.std.proofs.Common.{◌≡◌, Bool, not, Result, OnOk, ap, ◌∙◌}
use Rattle.c_grammar.specs.declared.tokens.places.Place.{Place}
use Rattle.c_grammar.specs.Readers.{place_of_specifier}
use Rattle.c_grammar.specs.Trees.{Specifier, Initialized}
use Rattle.c_types_rules.specs.Types.{Kind, unless, SECOND, LEFT_OUT}
use Rattle.c_types_rules.specs.Tables.{Tables, object_kind, may_be_object}
use Rattle.c_types_rules.specs.Scopes.{Env, stands_here, with_variable}
use Rattle.c_types_rules.specs.Statements.{Found, refuses, ◌⊹◌, initializer, local, local_kind}
use Rattle.c_types_stmts.specs.declared.finding.Finding.{Finding}
use Rattle.c_types_stmts.specs.Adding.{Adds}
use Rattle.c_types_stmts.proofs.Adding.{ends, ends_same}

module _ {T E : Type 0} (r : Result T E) (env to : Env) (tables : Tables) (specifier : Specifier) (one : Initialized) (place : Place)
    (holds stands : Bool) (kind : Kind)
    (place_is : place ≡ place_of_specifier specifier) (holds_is : holds ≡ may_be_object specifier one.declarator.stars)
    (stands_is : stands ≡ stands_here env one.declarator.name.text)
    (tables_is : tables ≡ env.tables) (kind_is : kind ≡ object_kind tables specifier one.declarator.stars)
    (to_is : to ≡ with_variable env one.declarator.name.text kind) where
  abbrev parts : Place → Bool → Bool → Env → Kind → Found
  parts at allowed known inner given =
      refuses (unless allowed at LEFT_OUT)
      ⊹ (refuses (unless (not known) one.declarator.name.place SECOND) ⊹ initializer inner at given one.value)

  own : kind ≡ local_kind env specifier one
  own = kind_is ∙ ap (λ (t : Tables). object_kind t specifier one.declarator.stars) tables_is

  parts_are : parts place holds stands to kind ≡ local env specifier one
  parts_are =
      ap (λ p. parts p holds stands to kind) place_is
      ∙ ap (λ h. parts (place_of_specifier specifier) h stands to kind) holds_is
      ∙ ap (λ s. parts (place_of_specifier specifier) (may_be_object specifier one.declarator.stars) s to kind) stands_is
      ∙ ap (λ e. parts (place_of_specifier specifier) (may_be_object specifier one.declarator.stars)
      (stands_here env one.declarator.name.text) e kind) to_is
      ∙ ap (λ k. parts (place_of_specifier specifier) (may_be_object specifier one.declarator.stars)
      (stands_here env one.declarator.name.text) (with_variable env one.declarator.name.text k) k) own

  pub local_found : (a b c d : Finding) → Adds (refuses (unless holds place LEFT_OUT)) a b
      → Adds (refuses (unless (not stands) one.declarator.name.place SECOND)) b c
      → OnOk r (Adds (initializer to place kind one.value) c d) → OnOk r (Adds (local env specifier one) a d)
  local_found a b c d first second third =
      ends_same r (parts place holds stands to kind) (local env specifier one) a d
      (ends r (refuses (unless (not stands) one.declarator.name.place SECOND) ⊹ initializer to place kind one.value) d first
      (ends r (initializer to place kind one.value) d second third)) parts_are
