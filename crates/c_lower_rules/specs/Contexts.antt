-- Where in a procedure a piece of text stands: what its names mean, and which slots and line its nodes get.
use Rattle.std.specs.Prelude.{ℕ, ◌-◌, List, [], ◌∷◌, map, codes, if◌then◌else◌}
use Rattle.std.specs.Str.{bytes_eq}
use Rattle.shape_data.specs.declared.program.Ty.{Ty}
use Rattle.shape_data.specs.declared.program.Ty.TheVariants.{Ptr}
use Rattle.c_grammar.specs.declared.tokens.places.Place.{Place}
use Rattle.c_grammar.specs.Trees.{Name}
use Rattle.c_types_rules.specs.Scopes.{Env, entered}

-- a variable in scope, and its slot
pub record Bound : Type 0 where
  pub name : List ℕ
  pub slot : ℕ

-- what a place of a body is lowered with
pub record Context : Type 0 where
  -- what names mean to the typing rules
  pub env : Env
  -- the variables in scope, the innermost first, hidden ones included
  pub bound : List Bound
  -- where the slots of locals and of temporaries begin; those of parameters are the first
  pub first_local : ℕ
  pub first_temp : ℕ
  -- the type of the procedure's result
  pub result : Ty
  -- the line of the procedure's first token in its file, and of the nodes, counted from 0 at that line
  pub first_line : ℕ
  pub line : ℕ

-- the slot of the first of these variables that has the name
abbrev pub slot_in : List Bound → List ℕ → ℕ
slot_in [] n = 0
slot_in (first ∷ others) n = if bytes_eq first.name n then first.slot else slot_in others n

-- the slot of the variable of a name; that there is none never comes where nothing is refused
abbrev pub slot_of : Context → Name → ℕ
slot_of c n = slot_in c.bound n.text

-- the slot of a variable in scope
abbrev pub slot_of_bound : Bound → ℕ
slot_of_bound one = one.slot

-- the slots of the variables in scope
abbrev pub visible : Context → List ℕ
visible c = map slot_of_bound c.bound

-- nodes get the line of a place
abbrev pub at_place : Context → Place → Context
at_place c place = record c { line = place.line - c.first_line }

-- within a scope of its own
abbrev pub within_scope : Context → Context
within_scope c = record c { env = entered c.env }

-- the structure that a pointer points to; that it is no pointer never comes where nothing is refused, and any name stands there
abbrev pub tag_of : Ty → List ℕ
tag_of (Ptr tag) = tag
tag_of _ = codes "_"
