-- Where statements stand, and that the slots of their locals have numbers.
use Rattle.std.specs.Prelude.{ℕ, ◌+◌, ◌<◌}
use Rattle.c_lower_rules.specs.Contexts.{Context}
use Rattle.c_lower_rules.specs.Statements.{State}
use Rattle.c_lower_emit.specs.Emitting.{Out}

-- where a statement or a declaration stands
abbrev pub state : Context → ℕ → Out → State
state c locals out = record { temps = out.temps; locals = locals; context = c }

-- 32-bit numbers suffice for the slots of so many more locals
abbrev pub HasSlots : Context → ℕ → ℕ → Type 0
HasSlots c locals size = c.first_local + locals + size < 4294967296
