-- Well-formed pairs, cases and fits, with how many parts they have.
use Rattle.std.specs.Prelude.{ℕ, ◌+◌, ◌*◌, ◌<◌, ◌≤◌, List, length, All}
use Rattle.shape_data.specs.declared.program.StructDef.{StructDef}
use Rattle.shape_data.specs.WellFormed.{IsAtom, IsFact, IsState, Limits, widest}
use Rattle.sym_canon.specs.declared.parts.Pair.{Pair}
use Rattle.sym_matching.specs.Answers.{HasParts, IsBound}
use Rattle.exec_laws.specs.declared.parts.Case.{Case}
use Rattle.exec_laws.specs.declared.parts.Case.TheVariants.{On, Leaves, Drops}
use Rattle.exec_laws.specs.declared.parts.Mode.{Mode}
use Rattle.exec_laws.specs.declared.parts.Mode.TheVariants.{Strict, Search}
use Rattle.exec_laws.specs.Calling.{Fit, in_use}

-- well-formedness, with at most so many parts
abbrev pub with_parts : ℕ → Limits
with_parts count = record widest { parts = count }

-- a pair is well formed: its state has at most so many parts, and the missing heap's parts and the state's atoms together are at most
-- so many (each empty case of expose takes an atom, and may add a missing fact)
pub record IsPairWithin (structs : List StructDef) (params slots parts weight : ℕ) (pair : Pair) : Type 0 where
  pub state : IsState (with_parts parts) structs params slots pair.state
  pub facts : All (IsFact widest params) pair.missing.pure
  pub atoms : All (IsAtom widest structs params) pair.missing.spatial
  pub light : length pair.missing.pure + length pair.missing.spatial + length pair.state.heap.spatial ≤ weight

-- a case is well formed: it goes on at a node that is there, with one local for each slot, or leaves with one local
abbrev pub IsCaseWithin : List StructDef → ℕ → ℕ → ℕ → ℕ → ℕ → Case → Type 0
IsCaseWithin structs params slots nodes parts weight (On node pair) = (node < nodes) × IsPairWithin structs params slots parts weight pair
IsCaseWithin structs params slots nodes parts weight (Leaves pair) = IsPairWithin structs params 1 parts weight pair
IsCaseWithin structs params slots nodes parts weight (Drops cause) = Unit {0}

-- how many parts may be missing for a precondition of at most so many: in the search as many, with one for each field of its cells, of
-- which
-- a cell has at most 32,768; in strict execution none
abbrev pub may_miss : Mode → ℕ → ℕ
may_miss Strict most = 0
may_miss Search most = 32769 * most

-- what a spec that fits gives is well formed: what is left has at most so many parts, and the missing heap's parts and the atoms that are
-- left
-- together are at most so many; the variables in use, and those that the match bound, are so few that there is room for a post's
pub record IsFitWithin (structs : List StructDef) (params parts weight : ℕ) (pair : Pair) (fit : Fit) : Type 0 where
  pub missing : HasParts widest structs params fit.missing
  pub frame : HasParts widest structs params fit.frame
  pub few : length fit.frame.pure + length fit.frame.spatial ≤ parts
  pub light : length fit.missing.pure + length fit.missing.spatial + length fit.frame.spatial ≤ weight
  pub binding : All (IsBound widest params) fit.binding
  pub bindings : length fit.binding ≤ 268435456
  pub used : length (in_use pair fit) ≤ 1073741824
