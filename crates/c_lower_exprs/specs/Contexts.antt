-- Places of a body, and the line of their nodes.
use Rattle.std.specs.Prelude.{◌≡◌, ℕ, ◌<◌, List, ◌∷◌, ◌++◌}
use Rattle.c_types_rules.specs.Tables.{Tables, field_place}
use Rattle.c_types_rules.specs.Scopes.{with_variable}
use Rattle.c_types_rules.specs.Types.{Kind}
use Rattle.c_lower_rules.specs.Contexts.{Context, Bound}

-- the places of fields are 32-bit numbers
abbrev pub FieldsFit : Tables → Type 0
FieldsFit tables = (tag n : List ℕ) → field_place tables tag n < 4294967296

-- nodes get the line
abbrev pub on_line : Context → ℕ → Context
on_line c line = record c { line = line }

-- with one more variable in the innermost scope, in the slot
abbrev pub behind_variable : Context → List ℕ → Kind → ℕ → Context
behind_variable c n kind slot = record c { env = with_variable c.env n kind; bound = record { name = n; slot = slot } ∷ c.bound }

-- another place of the same body, in the same scope or behind more variables of it
pub record IsWithin (outer inner : Context) : Type 0 where
  pub tables : inner.env.tables ≡ outer.env.tables
  pub around : inner.env.scopes.around ≡ outer.env.scopes.around
  pub more : List Bound
  pub bound : inner.bound ≡ more ++ outer.bound
  pub first_local : inner.first_local ≡ outer.first_local
  pub first_temp : inner.first_temp ≡ outer.first_temp
  pub result : inner.result ≡ outer.result
  pub first_line : inner.first_line ≡ outer.first_line
  pub line : inner.line ≡ outer.line
