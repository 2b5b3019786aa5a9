-- What names are bound to where variables are declared one after another.
use Rattle.std.specs.Prelude.{◌≡◌, ℕ, List, [], ◌∷◌, length, reverse, Option, None, Some, if◌then◌else◌}
use Rattle.std.specs.Str.{bytes_eq}
use Rattle.std.specs.Option.{option_flatten}
use Rattle.c_types_names.specs.NameMap.{named}
use Rattle.c_types_names.specs.declared.name_map.NameMap.{NameMap}
use Rattle.c_types_names.specs.declared.variables.Variable.{Variable}
use Rattle.c_types_names.specs.declared.variables.Binding.{Binding}
use Rattle.c_types_names.specs.declared.variables.Declared.{Declared}

abbrev pub variable_of : Declared → Variable
variable_of one = one.variable

-- the innermost variable of the name, the last one declared being the first of the list
abbrev pub binding_in : List Declared → List ℕ → Option Binding
binding_in [] n = None
binding_in (last ∷ before) n = if bytes_eq last.variable.name.now n then Some (record { variable = last.variable; place = length before })
    else binding_in before n

-- each variable says what its name was bound to before
abbrev pub AreLinked : List Declared → Type 0
AreLinked [] = Unit
AreLinked (last ∷ before) = (last.hidden ≡ binding_in before last.variable.name.now) × AreLinked before

-- what the map says of the name
abbrev pub bound_of : NameMap (Option Binding) → List ℕ → Option Binding
bound_of bindings n = option_flatten (named bindings n)

-- the map binds each name to the innermost variable of that name
pub record IsBound (all : List Declared) (bindings : NameMap (Option Binding)) : Type 0 where
  pub linked : AreLinked (reverse all)
  pub found : (n : List ℕ) → bound_of bindings n ≡ binding_in (reverse all) n
