-- Types that are listed where a list of them is wanted.
use Rattle.std.specs.Prelude.{Option, Some, None, List, ◌++◌}
use Rattle.c_types_rules.specs.Types.{Kind}

-- the list with more types behind it; where none is wanted there is none
abbrev pub with_kinds : Option (List Kind) → List Kind → Option (List Kind)
with_kinds None more = None
with_kinds (Some listed) more = Some (listed ++ more)
