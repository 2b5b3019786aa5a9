-- What the values of the crate stand for among the definitions of lowering.
use Rattle.std.specs.Prelude.{List, map, reverse}
use Rattle.c_lower_rules.specs.Contexts as contexts
use Rattle.c_lower_exprs.specs.declared.slots.Bound.{Bound}

-- a variable in scope
abbrev pub bound_seen : Bound → contexts.Bound
bound_seen one = record { name = one.name.now; slot = one.slot }

-- the last one first
unfoldable pub stacked : List Bound → List contexts.Bound
stacked bound = reverse (map bound_seen bound)
