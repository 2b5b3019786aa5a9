-- How often variables stand in a list, as a map keeps it: up to three times.
use Rattle.std.specs.Prelude.{◌≡◌, ℕ, ◌+◌, min, Bool, true, false, not, ◌&&◌, ◌||◌, if◌then◌else◌, leb, ltb, nat_eq, unwrap_or, List}
use Rattle.std.specs.HashMap.{HashMap, get}
use Rattle.std.specs.declared.hash.BuildHasherDefault.{BuildHasherDefault}
use Rattle.std.specs.declared.hash.FoldHasher.{FoldHasher}
use Rattle.shape_data.specs.declared.symbolic.Atom.{Atom}
use Rattle.shape_data.specs.declared.symbolic.Atom.TheVariants.{Points, Seg, Junk}
use Rattle.shape_data.specs.declared.symbolic.Exp.{Exp}
use Rattle.shape_data.specs.declared.symbolic.Exp.TheVariants.{Var, Const}
use Rattle.shape_data.specs.declared.symbolic.Fact.{Fact}
use Rattle.shape_data.specs.declared.symbolic.Fact.TheVariants.{Eq, Ne}
use Rattle.abstraction_laws.specs.Occurrences.{times_in}
use Rattle.abstraction_laws.specs.Pairs.{is_further}

-- a map from variables to numbers
abbrev pub Times : Type 0
Times = HashMap ℕ ℕ (BuildHasherDefault FoldHasher)

-- how often the map says that a variable stands there
abbrev pub counted : Times → ℕ → ℕ
counted times x = unwrap_or (get nat_eq times x) 0

-- the map says of each variable how often it stands in the list, up to three times
abbrev pub Counts : Times → List Exp → Type 0
Counts times es = (x : ℕ) → counted times x ≡ min 3 (times_in (Var x) es)

-- a map with the expressions of a list counted beside what was counted before
pub record Adds (old new : Times) (es : List Exp) : Type 0 where
  pub adds : (x n : ℕ) → counted old x ≡ min 3 n → counted new x ≡ min 3 (n + times_in (Var x) es)

-- the expression is reached, by the map of what was seen: it is a constant, a logical variable, or counted
abbrev pub is_reached_by : Times → Exp → Bool
is_reached_by seen (Var x) = ltb x 65536 || leb 1 (counted seen x)
is_reached_by seen (Const n) = true

-- the atom's source is reached, by the map; Junk has none, and stays
abbrev pub is_kept_by : Times → Atom → Bool
is_kept_by seen (Points at kind fields) = is_reached_by seen at
is_kept_by seen (Seg kind link from to) = is_reached_by seen from
is_kept_by seen Junk = true

-- the expression is lost, by the map of what stands elsewhere: it is a variable from a number on that is not counted
abbrev pub is_lost_by : Times → ℕ → Exp → Bool
is_lost_by counts low (Var x) = leb low x && not (leb 1 (counted counts x))
is_lost_by counts low (Const n) = false

-- the fact is an equation of a variable that is neither a parameter nor counted
abbrev pub is_lost_equation_by : ℕ → Times → Fact → Bool
is_lost_equation_by params counts (Eq (Var x) right) = leb params x && not (leb 1 (counted counts x))
is_lost_equation_by params counts (Eq (Const n) right) = true
is_lost_equation_by params counts (Ne left right) = false

-- the expression, made existential where it is a further logical variable that is not counted
abbrev pub made_existential_by : ℕ → ℕ → Times → Exp → Exp
made_existential_by params first counts (Var x) = if is_further params x && not (leb 1 (counted counts x)) then Var (first + x) else Var x
made_existential_by params first counts (Const n) = Const n
