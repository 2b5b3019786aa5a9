-- Summaries of procedures, one more at the end.
use Rattle.std.proofs.Common.{◌≡◌, ◌∙◌, ℕ, ◌+◌, ◌<◌, ◌≤◌, All, Option, List, [], ◌∷◌, ◌++◌, length, take, get_or, sym, ap, subst, arith}
use Rattle.std.proofs.Common.{⊎_elim}
use Rattle.std.proofs.lemmas.Bool.{cases_lt}
use Rattle.std.proofs.lemmas.List.Elements.{All-nil}
use Rattle.std.proofs.lemmas.List.{get_or_append_left, get_or_push, length_push, take_more}
use Rattle.shape_data.specs.declared.answer.ProcSummary.{ProcSummary}
use Rattle.shape_data.specs.declared.answer.Reason.{Reason}
use Rattle.shape_data.specs.declared.program.Flow.{Flow}
use Rattle.shape_data.specs.declared.program.StructDef.{StructDef}
use Rattle.shape_data.specs.declared.symbolic.Cert.{Cert}
use Rattle.shape_data.specs.declared.symbolic.Spec.{Spec}
use Rattle.shape_data.specs.WellFormed.{storable, AreSummaries, IsCert, IsSpec, IsSummary, Limits}

summaries_push : (limits : Limits) (structs : List StructDef) (flows : List Flow) (summaries : List ProcSummary) (flow : Flow)
    (summary : ProcSummary) → AreSummaries limits structs flows summaries →
    IsSummary limits structs flow summary → AreSummaries limits structs (flows ++ flow ∷ []) (summaries ++ summary ∷ [])
summaries_push limits structs flows summaries flow summary are is = record {
  one_each = length_push summaries summary ∙ ap (λ n. n + 1) are.one_each ∙ sym (length_push flows flow);
  each = λ place f s lt.
      ⊎_elim
      (λ less.
      subst (λ g. IsSummary limits structs g (get_or (summaries ++ summary ∷ []) place s))
      (sym (get_or_append_left flows (flow ∷ []) f place less))
      (subst (IsSummary limits structs (get_or flows place f))
      (sym (get_or_append_left summaries (summary ∷ []) s place (subst (λ n. place < n) (sym are.one_each) less)))
      (are.each place f s less)))
      (λ behind.
      let end : length flows ≡ place = let longer = length_push flows flow in omega (arith, lt, longer, behind) in
      subst (λ g. IsSummary limits structs g (get_or (summaries ++ summary ∷ []) place s)) (sym (get_or_push flows flow f place end))
      (subst (IsSummary limits structs flow) (sym (get_or_push summaries summary s place (are.one_each ∙ end))) is))
      (cases_lt place (length flows));
}

-- one place more of a list of procedures
pub summaries_more : (limits : Limits) (structs : List StructDef) (flows : List Flow) (i : ℕ) (flow : Flow) (summaries : List ProcSummary)
    (summary : ProcSummary) → i < length flows → flow ≡ get_or flows i flow →
    AreSummaries limits structs (take i flows) summaries → IsSummary limits structs flow summary →
    AreSummaries limits structs (take (i + 1) flows) (summaries ++ summary ∷ [])
summaries_more limits structs flows i flow summaries summary lt is before own =
    subst (λ l. AreSummaries limits structs l (summaries ++ summary ∷ []))
    (sym (take_more flows i flow lt ∙ ap (λ f. take i flows ++ f ∷ []) (sym is)))
    (summaries_push limits structs (take i flows) summaries flow summary before own)

-- a summary without specs
pub silent_is : (structs : List StructDef) (flow : Flow) (name : List ℕ) (specs : List Spec) (certs : List Cert) (reason : Option Reason) →
    name ≡ flow.name → specs ≡ [] → certs ≡ [] →
    IsSummary storable structs flow (record { name = name; specs = specs; certs = certs; reason = reason })
silent_is structs flow name specs certs reason named none nothing = record {
  name = named;
  few = subst (λ (l : List Spec). length l ≤ 8) (sym none) (omega arith);
  specs = subst (All (IsSpec storable structs (length flow.params))) (sym none) (All-nil (IsSpec storable structs (length flow.params)));
  one_each = ap length nothing ∙ sym (ap length none);
  certs = subst (All (IsCert storable structs flow)) (sym nothing) (All-nil (IsCert storable structs flow));
}
