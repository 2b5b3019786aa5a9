-- What holds of all candidates: some heap meets each, they are well formed, and few.
use Rattle.std.specs.Prelude.{◌≡◌, ◌≤◌, true, length, All}
use Rattle.shape_data.specs.declared.symbolic.SymHeap.{SymHeap}
use Rattle.shape_data.specs.WellFormed.{IsSymHeap}
use Rattle.sym_samples.specs.Samples.{has_sample}
use Rattle.solve_laws.specs.Certificates.Coming.{Task}
use Rattle.solve_laws.specs.Certificates.Conditions.{IsTask}
use Rattle.solve_laws.specs.Certificates.Limits.{analysable}
use Rattle.solve_laws.specs.Candidates.Candidates.{candidates}
use Rattle.solve_laws.specs.Candidates.Searching.{MOST_CANDIDATES}

-- each candidate is normal, and its sources are pairwise distinct variables: so it has a sample, and no printed precondition is empty
abbrev pub CandidatesHaveSamples : Type 0
CandidatesHaveSamples = (task : Task) → length task.flow.params ≤ 65536
    → All (λ (pre : SymHeap). has_sample pre ≡ true) (candidates task).pres

-- each is well formed, with at most 96 parts
abbrev pub CandidatesAreWellFormed : Type 0
CandidatesAreWellFormed = (task : Task) → IsTask task
    → All (IsSymHeap analysable task.structs (length task.flow.params)) (candidates task).pres

-- there are at most eight
abbrev pub CandidatesAreFew : Type 0
CandidatesAreFew = (task : Task) → length (candidates task).pres ≤ MOST_CANDIDATES
