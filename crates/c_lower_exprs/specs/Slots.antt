-- Which slot a name has where variables are declared one after another.
use Rattle.std.specs.Prelude.{◌≡◌, ℕ, List, [], ◌∷◌, map, reverse, Option, None, Some, if◌then◌else◌}
use Rattle.std.specs.Str.{bytes_eq}
use Rattle.std.specs.Option.{option_flatten}
use Rattle.c_types_names.specs.NameMap.{named}
use Rattle.c_types_names.specs.declared.name_map.NameMap.{NameMap}
use Rattle.c_lower_rules.specs.Contexts.{slot_of_bound}
use Rattle.c_lower_exprs.specs.declared.slots.Bound.{Bound}
use Rattle.c_lower_exprs.specs.declared.slots.Declared.{Declared}
use Rattle.c_lower_exprs.specs.Seen.{stacked}

abbrev pub bound_of : Declared → Bound
bound_of one = one.bound

-- the slot of the innermost variable of the name, the last one declared being the first of the list
abbrev pub slot_among : List Declared → List ℕ → Option ℕ
slot_among [] n = None
slot_among (last ∷ before) n = if bytes_eq last.bound.name.now n then Some last.bound.slot else slot_among before n

-- each variable says which slot its name had before
abbrev pub AreLinked : List Declared → Type 0
AreLinked [] = Unit
AreLinked (last ∷ before) = (last.hidden ≡ slot_among before last.bound.name.now) × AreLinked before

-- what the map says of the name
abbrev pub slot_found : NameMap (Option ℕ) → List ℕ → Option ℕ
slot_found slots n = option_flatten (named slots n)

-- the slots of the variables, the last one first
abbrev pub slots_of : List Declared → List ℕ
slots_of all = map slot_of_bound (stacked (map bound_of all))

-- the map has for each name the slot of the innermost variable of that name, and the list has the slots of all variables
pub record IsBound (all : List Declared) (slots : NameMap (Option ℕ)) (visible : List ℕ) : Type 0 where
  pub linked : AreLinked (reverse all)
  pub found : (n : List ℕ) → slot_found slots n ≡ slot_among (reverse all) n
  pub listed : visible ≡ slots_of all
