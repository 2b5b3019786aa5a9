-- What holds of every annotation: what it gives is inductive, well formed, and no larger than the limits.
use Rattle.std.specs.Prelude.{◌≡◌, ◌≤◌, List, length, All}
use Rattle.shape_data.specs.declared.symbolic.Cert.{Cert}
use Rattle.shape_data.specs.declared.symbolic.Post.{Post}
use Rattle.shape_data.specs.declared.symbolic.Spec.{Spec}
use Rattle.shape_data.specs.declared.symbolic.SymHeap.{SymHeap}
use Rattle.shape_data.specs.declared.symbolic.SymState.{SymState}
use Rattle.shape_data.specs.WellFormed.{IsSymHeap}
use Rattle.solve_laws.specs.Certificates.Coming.{Task}
use Rattle.solve_laws.specs.Certificates.Conditions.{IsTask, IsTaskCert, IsTaskSpec}
use Rattle.solve_laws.specs.Certificates.Inductive.{IsInductiveCert}
use Rattle.solve_laws.specs.Certificates.Limits.{analysable}
use Rattle.solve_laws.specs.declared.annotation.parts.Annotated.TheVariants.{Done}
use Rattle.solve_laws.specs.Annotation.Annotation.{annotate}
use Rattle.solve_laws.specs.Annotation.Listing.{MOST_STATES}

-- the spec of a precondition with its posts
abbrev pub spec_of : SymHeap → List Post → Spec
spec_of pre posts = record { pre = pre; posts = posts }

-- what is done is an inductive certificate of the precondition with the posts, under the table that was used, cut or not
abbrev pub DoneIsInductive : Type 0
DoneIsInductive =
    (task : Task) (pre : SymHeap) (posts : List Post) (cert : Cert) → IsTask task →
    IsSymHeap analysable task.structs (length task.flow.params) pre →
    annotate task pre ≡ Done posts cert → IsInductiveCert task (spec_of pre posts) cert

-- it is well formed, with at most 96 parts in each heap, where the precondition is
abbrev pub DoneIsWellFormed : Type 0
DoneIsWellFormed =
    (task : Task) (pre : SymHeap) (posts : List Post) (cert : Cert) → IsTask task →
    IsSymHeap analysable task.structs (length task.flow.params) pre →
    annotate task pre ≡ Done posts cert → IsTaskSpec task (spec_of pre posts) × IsTaskCert task cert

-- a certificate has at most sixteen states at each node, and at most sixteen exits
pub record IsSmallCert (cert : Cert) : Type 0 where
  pub nodes : All (λ (states : List SymState). length states ≤ MOST_STATES) cert.nodes
  pub exits : length cert.exits ≤ MOST_STATES

-- and so is what is done
abbrev pub DoneIsSmall : Type 0
DoneIsSmall = (task : Task) (pre : SymHeap) (posts : List Post) (cert : Cert) → annotate task pre ≡ Done posts cert →
    (length posts ≤ MOST_STATES) × IsSmallCert cert
