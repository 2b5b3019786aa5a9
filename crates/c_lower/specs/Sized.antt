-- What is refused in a procedure of so many nodes, parameters, locals and temporaries.
use Rattle.std.specs.Prelude.{◌+◌, nat_le, Bool, ◌&&◌, List, ◌++◌}
use Rattle.c_grammar.specs.declared.tokens.places.Place.{Place}
use Rattle.c_grammar.specs.declared.tokens.places.Refusal.{Refusal}
use Rattle.c_types_rules.specs.Types.{unless}
use Rattle.c_lower_rules.specs.Programs.{MOST_NODES, MOST_LOCALS, MOST_TEMPORARIES, MOST_PARAMETERS, NODES, SLOTS, PARAMETERS}
use Rattle.c_lower.specs.declared.sizes.Sizes.{Sizes}

-- what is refused in such a procedure, whose first token stands there
abbrev pub refusals_of : Sizes → Place → List Refusal
refusals_of sizes place =
    unless (nat_le sizes.nodes MOST_NODES) place NODES
    ++ unless (nat_le (sizes.params + sizes.locals) MOST_LOCALS) place SLOTS
    ++ unless (nat_le sizes.temps MOST_TEMPORARIES) place SLOTS
    ++ unless (nat_le sizes.params MOST_PARAMETERS) place PARAMETERS

-- none is too large
abbrev pub all_fit : Sizes → Bool
all_fit sizes =
    nat_le sizes.nodes MOST_NODES && nat_le (sizes.params + sizes.locals) MOST_LOCALS && nat_le sizes.temps MOST_TEMPORARIES
    && nat_le sizes.params MOST_PARAMETERS
