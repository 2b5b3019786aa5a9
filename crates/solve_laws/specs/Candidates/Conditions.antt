-- Well-formed pairs of the search, and what its steps may be given.
use Rattle.std.specs.Prelude.{◌≡◌, ℕ, ◌<◌, false, length, All, IfSome}
use Rattle.shape_data.specs.declared.symbolic.SymHeap.{SymHeap}
use Rattle.shape_data.specs.WellFormed.{IsSymHeap}
use Rattle.sym_canon.specs.declared.parts.Pair.{Pair}
use Rattle.abstraction_laws.specs.Results.{IsPair}
use Rattle.abstraction_laws.specs.Rooms.{HaveFewFields, IsWithinRoom}
use Rattle.exec_laws.specs.declared.parts.Case.{Case}
use Rattle.exec_laws.specs.declared.parts.Case.TheVariants.{On, Leaves, Drops}
use Rattle.solve_laws.specs.Certificates.Coming.{Task}
use Rattle.solve_laws.specs.Certificates.Limits.{analysable}
use Rattle.solve_laws.specs.Candidates.Coming.{has_many_parts, pair_at_node}
use Rattle.solve_laws.specs.Candidates.Searching.{Search}

-- a well-formed pair of the procedure, with at most 96 parts in each of its heaps
abbrev pub IsTaskPair : Task → Pair → Type 0
IsTaskPair task pair = IsPair analysable task.structs (length task.flow.params) (length task.flow.slots) pair

-- a well-formed missing heap of the procedure, with at most 96 parts
abbrev pub IsTaskHeap : Task → SymHeap → Type 0
IsTaskHeap task missing = IsSymHeap analysable task.structs (length task.flow.params) missing

-- what abstraction needs of the sizes of a pair
pub record IsPairWithinRoom (pair : Pair) : Type 0 where
  pub missing : HaveFewFields pair.missing.spatial
  pub state : IsWithinRoom pair.state

-- a pair may come to a node: the node is there, the pair may be abstracted, and what comes of it is a well-formed pair, unless it has
-- over 96 parts in a heap
pub record MayCome (task : Task) (node : ℕ) (pair : Pair) : Type 0 where
  pub within : node < length task.flow.nodes
  pub room : IsPairWithinRoom pair
  pub gives : IfSome (pair_at_node task node pair) (λ made. has_many_parts made ≡ false → IsTaskPair task made)

-- a missing heap may become a candidate: it may be abstracted, and has at most 96 parts
pub record MayLeave (task : Task) (missing : SymHeap) : Type 0 where
  pub room : HaveFewFields missing.spatial
  pub fine : IsTaskHeap task missing

-- a case that an execution gives
abbrev pub IsGivenCase : Task → Case → Type 0
IsGivenCase task (On node pair) = MayCome task node pair
IsGivenCase task (Leaves pair) = MayLeave task pair.missing
IsGivenCase task (Drops cause) = Unit {0}

-- a well-formed pair that waits for its turn at a node that is there
abbrev pub IsWaiting : Task → ℕ × Pair → Type 0
IsWaiting task entry = (entry.0 < length task.flow.nodes) × IsTaskPair task entry.1

-- a search has a list for each node, and what is listed and what waits is well formed, and so are the candidates
pub record IsSearch (task : Task) (search : Search) : Type 0 where
  pub one_each : length search.nodes ≡ length task.flow.nodes
  pub nodes : All (All (IsTaskPair task)) search.nodes
  pub queue : All (IsWaiting task) search.queue
  pub pres : All (IsTaskHeap task) search.pres
