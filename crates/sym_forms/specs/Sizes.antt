-- Sizes of states, and the limits between which numbering brings them.
use Rattle.std.specs.Prelude.{ℕ, ◌+◌, ◌*◌, ◌<◌, ◌≤◌, nat_lt, IsTrue, List, [], ◌∷◌, length}
use Rattle.shape_data.specs.declared.symbolic.Atom.{Atom}
use Rattle.shape_data.specs.declared.symbolic.Atom.TheVariants.{Points, Seg, Junk}
use Rattle.shape_data.specs.declared.symbolic.SymState.{SymState}
use Rattle.shape_data.specs.WellFormed.{Limits, widest}

-- how many fields an atom has
abbrev pub fields_of : Atom → ℕ
fields_of (Points at kind fields) = length fields
fields_of (Seg kind link from to) = 0
fields_of Junk = 0

-- how many fields the cells have
abbrev pub fields_in : List Atom → ℕ
fields_in [] = 0
fields_in (atom ∷ atoms) = fields_of atom + fields_in atoms

-- a state has no more expressions than this: its locals, the fields of its cells, and two for each atom and each fact
abbrev pub most_exps : SymState → ℕ
most_exps state = length state.locals + (fields_in state.heap.spatial + 2 * (length state.heap.pure + length state.heap.spatial))

-- well-formedness, but that each number below a limit may be a variable
abbrev pub bounded : ℕ → Limits
bounded limit = record widest { variables = λ params variable. nat_lt variable limit }

-- numbering brings what is within the first limits within the second: these allow the logical variables that the first allow,
-- so many existential ones from the first one on, and as many parts
pub record Brings (from to : Limits) (params count : ℕ) : Type 0 where
  pub logical : (x : ℕ) → x < 65536 → IsTrue (from.variables params x) → IsTrue (to.variables params x)
  pub numbered : (place : ℕ) → place < count → IsTrue (to.variables params (65536 + place))
  pub parts : from.parts ≤ to.parts
