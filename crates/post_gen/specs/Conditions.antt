-- What is listed is well formed, with at most 96 parts in each heap.
use Rattle.std.specs.Prelude.{◌≡◌, ℕ, ◌<◌, List, length, All}
use Rattle.shape_data.specs.declared.symbolic.SymState.{SymState}
use Rattle.solve_laws.specs.Annotation.Listing.{Listing}
use Rattle.solve_laws.specs.Certificates.Coming.{Task}
use Rattle.solve_laws.specs.Certificates.Conditions.{IsGivenPost, IsGivenState}

-- states go on at nodes of the procedure
abbrev pub AreWithin : Task → List (ℕ × SymState) → Type 0
AreWithin task nexts = All (λ (next : ℕ × SymState). next.0 < length task.flow.nodes) nexts

-- a state that waits for its turn at a node of the procedure
abbrev pub IsWaiting : Task → ℕ × SymState → Type 0
IsWaiting task item = (item.0 < length task.flow.nodes) × IsGivenState task item.1

-- there is one list of states for each node, and all that is listed is well formed
pub record IsListing (task : Task) (listing : Listing) : Type 0 where
  pub one_each : length listing.nodes ≡ length task.flow.nodes
  pub nodes : All (λ (states : List SymState). All (IsGivenState task) states) listing.nodes
  pub exits : All (IsGivenPost task) listing.exits
  pub queue : All (IsWaiting task) listing.queue
