-- What is well formed of an answer can be written.
use Rattle.std.specs.Prelude.{◌≡◌, ℕ, ◌<◌, List, length, slice_index_or, All, IsUtf8}
use Rattle.std.proofs.Common.{sym, subst, arith}
use Rattle.std.proofs.lemmas.List.Elements.{All-weaker}
use Rattle.shape_data.specs.declared.program.Flow.{Flow}
use Rattle.shape_data.specs.declared.program.StructDef.{StructDef}
use Rattle.shape_data.specs.declared.symbolic.Cert.{Cert}
use Rattle.shape_data.specs.declared.symbolic.SymState.{SymState}
use Rattle.shape_data.specs.declared.answer.ProcSummary.{ProcSummary}
use Rattle.shape_data.specs.WellFormed.{storable, AreParams, AreStates, AreSummaries, IsCert, IsFlow, IsState, IsSummary}
use Rattle.flow_json.proofs.TextLaws.{name_is_text}
use Rattle.summary_json.specs.Written.{CertIsText, StateIsText, SummaryIsText}

state_is_text : (structs : List StructDef) (params : List (List ℕ)) (slots : ℕ) (state : SymState) →
    IsState storable structs (length params) slots state → StateIsText structs params state
state_is_text structs params slots state is = record { locals = is.locals; heap = is.heap }

cert_is_text : (structs : List StructDef) (flow : Flow) (cert : Cert) → IsCert storable structs flow cert →
    CertIsText structs flow.params cert
cert_is_text structs flow cert is = record {
  nodes = All-weaker (AreStates storable structs (length flow.params) (length flow.slots)) (All (StateIsText structs flow.params))
      (λ states are. All-weaker (IsState storable structs (length flow.params) (length flow.slots)) (StateIsText structs flow.params)
      (state_is_text structs flow.params (length flow.slots)) states are.each)
      cert.nodes is.nodes;
  exits = is.exits;
}

summary_of_flow : (structs : List StructDef) (flow : Flow) (summary : ProcSummary) → IsFlow structs flow →
    IsSummary storable structs flow summary → SummaryIsText structs flow.params summary
summary_of_flow structs flow summary formed is = record {
  name = subst IsUtf8 (sym is.name) (name_is_text flow.name formed.name);
  specs = is.specs;
  certs = All-weaker (IsCert storable structs flow) (CertIsText structs flow.params) (cert_is_text structs flow) summary.certs is.certs;
}

pub summary_is_text : (structs : List StructDef) (flows : List Flow) (summaries : List ProcSummary) (place : ℕ) (flow : Flow)
    (summary : ProcSummary) →
    All (IsFlow structs) flows → AreSummaries storable structs flows summaries → place < length flows →
    SummaryIsText structs (slice_index_or flows place flow).params (slice_index_or summaries place summary)
summary_is_text structs flows summaries place flow summary formed are within =
    summary_of_flow structs (slice_index_or flows place flow) (slice_index_or summaries place summary) (formed place flow within)
    (are.each place flow summary within)

pub flow_params : (structs : List StructDef) (flows : List Flow) (place : ℕ) (flow : Flow) → All (IsFlow structs) flows →
    place < length flows → AreParams (slice_index_or flows place flow).params
flow_params structs flows place flow formed within = (formed place flow within).params

-- the same of what stands at a place
pub summary_at : (structs : List StructDef) (flows : List Flow) (summaries : List ProcSummary) (place : ℕ) (flow : Flow)
    (summary : ProcSummary) (params : List (List ℕ)) →
    All (IsFlow structs) flows → AreSummaries storable structs flows summaries → place < length summaries →
    summary ≡ slice_index_or summaries place summary → params ≡ (slice_index_or flows place flow).params →
    SummaryIsText structs params summary
summary_at structs flows summaries place flow summary params formed are within summary_is params_is =
    let fits = summary_is_text structs flows summaries place flow summary formed are (let same = are.one_each in omega arith) in
    subst (λ one. SummaryIsText structs one summary) (sym params_is)
    (subst (λ one. SummaryIsText structs (slice_index_or flows place flow).params one) (sym summary_is) fits)
