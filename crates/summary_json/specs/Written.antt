-- What can be written of states, certificates and summaries: heaps and variables are well formed within the limits of a store.
use Rattle.std.specs.Prelude.{ℕ, List, length, All, IsUtf8}
use Rattle.shape_data.specs.declared.program.StructDef.{StructDef}
use Rattle.shape_data.specs.declared.symbolic.Cert.{Cert}
use Rattle.shape_data.specs.declared.symbolic.SymState.{SymState}
use Rattle.shape_data.specs.declared.answer.ProcSummary.{ProcSummary}
use Rattle.shape_data.specs.WellFormed.{storable, IsExp, IsPost, IsSpec, IsSymHeap}

pub record StateIsText (structs : List StructDef) (params : List (List ℕ)) (state : SymState) : Type 0 where
  pub locals : All (IsExp storable (length params)) state.locals
  pub heap : IsSymHeap storable structs (length params) state.heap

pub record CertIsText (structs : List StructDef) (params : List (List ℕ)) (cert : Cert) : Type 0 where
  pub nodes : All (All (StateIsText structs params)) cert.nodes
  pub exits : All (IsPost storable structs (length params)) cert.exits

pub record SummaryIsText (structs : List StructDef) (params : List (List ℕ)) (summary : ProcSummary) : Type 0 where
  pub name : IsUtf8 summary.name
  pub specs : All (IsSpec storable structs (length params)) summary.specs
  pub certs : All (CertIsText structs params) summary.certs
