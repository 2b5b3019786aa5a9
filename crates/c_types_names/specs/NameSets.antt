-- Which names are in a set.
use Rattle.std.specs.Prelude.{ℕ, Bool, List, is_some}
use Rattle.c_types_names.specs.declared.name_set.NameSet.{NameSet}
use Rattle.c_types_names.specs.NameMap.{named}

abbrev pub has : NameSet → List ℕ → Bool
has set n = is_some (named set.names n)
