-- Which variables stand at a place of a procedure's body, and which names of types they hide there (C11 6.2.1).
use Rattle.std.specs.Prelude.{ℕ, Bool, true, false, ◌&&◌, not, Option, Some, None, List, [], ◌∷◌, ◌++◌, if◌then◌else◌}
use Rattle.std.specs.Str.{bytes_eq}
use Rattle.c_grammar.specs.declared.tokens.places.Refusal.{Refusal}
use Rattle.c_grammar.specs.Trees.{Specifier}
use Rattle.c_grammar.specs.Readers.{place_of_specifier}
use Rattle.c_types_rules.specs.Types.{Kind, unless, LEFT_OUT}
use Rattle.c_types_rules.specs.Tables.{Tables, is_alias, pointer_of, specifier_refusals}

pub record Variable : Type 0 where
  pub name : List ℕ
  pub kind : Kind

-- the variables of the innermost scope, the last declared first, and those of the scopes around it
pub record Scopes : Type 0 where
  pub here : List Variable
  pub around : List Variable

-- the program, and the variables that stand at a place
pub record Env : Type 0 where
  pub tables : Tables
  pub scopes : Scopes

abbrev pub variable_in : List Variable → List ℕ → Option Variable
variable_in [] n = None
variable_in (first ∷ others) n = if bytes_eq first.name n then Some first else variable_in others n

-- the variable of the name: the innermost one
abbrev pub variable : Env → List ℕ → Option Variable
variable env n = variable_in (env.scopes.here ++ env.scopes.around) n

-- the innermost scope has a variable of the name
abbrev pub stands_here : Env → List ℕ → Bool
stands_here env n = elim (variable_in env.scopes.here n) [ None ↦ false | Some found ↦ true ]

-- with one more variable in the innermost scope
abbrev pub with_variable : Env → List ℕ → Kind → Env
with_variable env n kind = record env { scopes = record env.scopes { here = record { name = n; kind = kind } ∷ env.scopes.here } }

-- within a scope of its own
abbrev pub entered : Env → Env
entered env = record env { scopes = record { here = []; around = env.scopes.here ++ env.scopes.around } }

-- a variable of the name stands there
abbrev pub stands : Env → List ℕ → Bool
stands env n = elim (variable env n) [ None ↦ false | Some found ↦ true ]

-- a name of a type that a variable hides: it is no type there
abbrev pub is_hidden : Env → Specifier → Bool
is_hidden env (Specifier.Alias n) = is_alias env.tables n.text && stands env n.text
is_hidden env _ = false

-- a name in a specifier is declared, and is a type at this place
abbrev pub specifier_refusals_in : Env → Specifier → List Refusal
specifier_refusals_in env specifier =
    specifier_refusals env.tables specifier ++ unless (not (is_hidden env specifier)) (place_of_specifier specifier) LEFT_OUT

-- a pointer to the structure that the specifier names at this place
abbrev pub pointer_in : Env → Specifier → Kind
pointer_in env specifier = if is_hidden env specifier then None else pointer_of env.tables specifier
