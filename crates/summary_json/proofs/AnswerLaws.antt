-- Summaries and answers are read as they were written, and only so.
use Rattle.std.specs.Prelude.{◌≡◌, ℕ, true, codes, List, [], ◌∷◌, All, IfSome}
use Rattle.std.specs.declared.option.Option.{Option}
use Rattle.std.specs.declared.option.Option.TheVariants.{Some}
use Rattle.std.proofs.Common.{refl, sym, ap, ◌∙◌, subst}
use Rattle.std.proofs.lemmas.List.Elements.{All-head, All-tail}
use Rattle.serde_json.specs.Data.{Data, string}
use Rattle.shape_data.specs.declared.program.Flow.{Flow}
use Rattle.shape_data.specs.declared.program.StructDef.{StructDef}
use Rattle.shape_data.specs.declared.symbolic.Cert.{Cert}
use Rattle.shape_data.specs.declared.symbolic.Spec.{Spec}
use Rattle.shape_data.specs.declared.answer.Answer.{Answer}
use Rattle.shape_data.specs.declared.answer.Key.{Key}
use Rattle.shape_data.specs.declared.answer.ProcSummary.{ProcSummary}
use Rattle.shape_data.specs.declared.answer.Reason.{Reason}
use Rattle.shape_data.specs.WellFormed.{AreParams, AreStructs, IsFlow}
use Rattle.flow_json.specs.Forms.{as_list, go_on, list_data, option_data, read_list, read_name, read_option, tuple}
use Rattle.flow_json.specs.Laws.{IsInverse, IsName}
use Rattle.flow_json.proofs.FlowLaws.{at_some}
use Rattle.flow_json.proofs.InverseLemmas.{cons_is, go_on_is, go_on_some, list_back, list_only, name_inverse, some_is}
use Rattle.summary_json.specs.Answers.{answer_data, answer_members, cert_data, read_answer, read_cert, read_summaries, read_summary}
use Rattle.summary_json.specs.Answers.{summaries_data, summary_data, summary_members}
use Rattle.summary_json.specs.Fits.{ReasonFits}
use Rattle.summary_json.specs.Keys.{read_spec, spec_data}
use Rattle.summary_json.specs.Reasons.{read_reason, reason_data}
use Rattle.summary_json.proofs.ObjectLaws.{four_members, one_member, read_of_four, read_of_one}
use Rattle.summary_json.proofs.ReasonLaws.{reasons_inverse}
use Rattle.summary_json.proofs.ScopedLaws.{CertIsRead, SpecIsRead, certs_inverse, specs_inverse}

-- ---- summaries

-- what is read as a summary
pub record SummaryIsRead (structs : List StructDef) (params : List (List ℕ)) (summary : ProcSummary) : Type 0 where
  pub certs : All (CertIsRead structs params) summary.certs
  pub name : IsName summary.name
  pub reason : IfSome summary.reason ReasonFits
  pub specs : All (SpecIsRead structs params) summary.specs

abbrev summary_of : List Cert → List ℕ → Option Reason → List Spec → ProcSummary
summary_of certs name reason specs = record { name = name; specs = specs; certs = certs; reason = reason }

abbrev summary_object : Data → Data → Data → Data → Data
summary_object certs name reason specs = four_members (codes "certs") (codes "name") (codes "reason")
    (codes "specs") certs name reason specs

module _ (structs : List StructDef) (params : List (List ℕ)) (are_structs : AreStructs structs) (are_params : AreParams params) where
  summary_back : (summary : ProcSummary) → SummaryIsRead structs params summary →
      read_summary structs params (summary_data structs params summary) ≡ Some summary
  summary_back summary fits =
      go_on_is _ _ summary.certs _ (go_on_is _ _ (list_data (cert_data structs params) summary.certs) _ refl
      ((certs_inverse structs params are_structs are_params).back summary.certs fits.certs)) (
      go_on_is _ _ summary.name _ (go_on_is _ _ (string summary.name) _ refl (name_inverse.back summary.name fits.name)) (
      go_on_is _ _ summary.reason _ (go_on_is _ _ (option_data reason_data summary.reason) _ refl
      (reasons_inverse.back summary.reason fits.reason)) (
      go_on_is _ _ summary.specs _ (go_on_is _ _ (list_data (spec_data structs params) summary.specs) _ refl
      ((specs_inverse structs params are_structs are_params).back summary.specs fits.specs)) refl)))

  summary_only_of : (certs name reason specs : Data) (summary : ProcSummary) →
      summary_members structs params (summary_object certs name reason specs) ≡ Some summary →
      (summary_data structs params summary ≡ summary_object certs name reason specs) × SummaryIsRead structs params summary
  summary_only_of certs name reason specs summary is =
      let r0 = go_on_some (go_on (Some certs) (read_list (read_cert structs params)))
      (λ all. go_on (go_on (Some name) read_name) (λ word. go_on (go_on (Some reason) (read_option read_reason))
      (λ why. go_on (go_on (Some specs) (read_list (read_spec structs params)))
      (λ them. Some (summary_of all word why them))))) summary is in
      let e0 = (certs_inverse structs params are_structs are_params).only certs r0.0
      (at_some certs (read_list (read_cert structs params)) r0.0 r0.1) in
      let r1 = go_on_some (go_on (Some name) read_name) (λ word. go_on (go_on (Some reason) (read_option read_reason))
      (λ why. go_on (go_on (Some specs) (read_list (read_spec structs params)))
      (λ them. Some (summary_of r0.0 word why them)))) summary r0.2 in
      let e1 = name_inverse.only name r1.0 (at_some name read_name r1.0 r1.1) in
      let r2 = go_on_some (go_on (Some reason) (read_option read_reason))
      (λ why. go_on (go_on (Some specs) (read_list (read_spec structs params)))
      (λ them. Some (summary_of r0.0 r1.0 why them))) summary r1.2 in
      let e2 = reasons_inverse.only reason r2.0 (at_some reason (read_option read_reason) r2.0 r2.1) in
      let r3 = go_on_some (go_on (Some specs) (read_list (read_spec structs params)))
      (λ them. Some (summary_of r0.0 r1.0 r2.0 them)) summary r2.2 in
      let e3 = (specs_inverse structs params are_structs are_params).only specs r3.0
      (at_some specs (read_list (read_spec structs params)) r3.0 r3.1) in
      let same : summary_of r0.0 r1.0 r2.0 r3.0 ≡ summary = some_is (summary_of r0.0 r1.0 r2.0 r3.0) summary r3.2 in
      subst (λ one. (summary_data structs params one ≡ summary_object certs name reason specs) × SummaryIsRead structs params one) same
      (rw (e0.0, e1.0, e2.0, e3.0) refl, record { certs = e0.1; name = e1.1; reason = e2.1; specs = e3.1 })

  pub summary_inverse : IsInverse (SummaryIsRead structs params) (summary_data structs params) (read_summary structs params)
  summary_inverse = record { back = summary_back; only = only }
    where
      only : (d : Data) (summary : ProcSummary) → read_summary structs params d ≡ Some summary →
          (summary_data structs params summary ≡ d) × SummaryIsRead structs params summary
      only d summary is =
          let shape = read_of_four (codes "certs") (codes "name") (codes "reason") (codes "specs")
          (summary_members structs params) d summary is in
          let one = summary_only_of shape.0 shape.1 shape.2 shape.3 summary shape.5 in
          (one.0 ∙ sym shape.4, one.1)

-- ---- the summaries of procedures

-- there is one for each procedure, and each is read
abbrev pub AreRead : List StructDef → List Flow → List ProcSummary → Type 0
AreRead structs [] [] = Unit {0}
AreRead structs [] (summary ∷ summaries) = ⊥
AreRead structs (flow ∷ flows) [] = ⊥
AreRead structs (flow ∷ flows) (summary ∷ summaries) = SummaryIsRead structs flow.params summary × AreRead structs flows summaries

module _ (structs : List StructDef) (are_structs : AreStructs structs) where
  summaries_back : (flows : List Flow) (summaries : List ProcSummary) → All (IsFlow structs) flows → AreRead structs flows summaries →
      read_summaries structs flows (summaries_data structs flows summaries) ≡ Some summaries
  summaries_back [] [] formed fits = refl
  summaries_back [] (summary ∷ summaries) formed fits = absurd fits
  summaries_back (flow ∷ flows) [] formed fits = absurd fits
  summaries_back (flow ∷ flows) (summary ∷ summaries) formed fits =
      go_on_is _ _ summary _ ((summary_inverse structs flow.params are_structs
      (All-head (IsFlow structs) flow flows formed).params).back summary fits.0)
      (go_on_is _ _ summaries _ (summaries_back flows summaries (All-tail (IsFlow structs) flow flows formed) fits.1) refl)

  summaries_only : (flows : List Flow) (ds : List Data) (summaries : List ProcSummary) → All (IsFlow structs) flows →
      read_summaries structs flows ds ≡ Some summaries →
      (summaries_data structs flows summaries ≡ ds) × AreRead structs flows summaries
  summaries_only [] [] summaries formed is = subst (λ all. (summaries_data structs [] all ≡ []) × AreRead structs [] all)
      (some_is [] summaries is) (refl, tt)
  summaries_only [] (d ∷ ds) summaries formed is = cc
  summaries_only (flow ∷ flows) [] summaries formed is = cc
  summaries_only (flow ∷ flows) (d ∷ ds) summaries formed is =
      let one = go_on_some (read_summary structs flow.params d) (λ summary. go_on (read_summaries structs flows ds)
      (λ others. Some (summary ∷ others))) summaries is in
      let others = go_on_some (read_summaries structs flows ds) (λ others. Some (one.0 ∷ others)) summaries one.2 in
      let first = (summary_inverse structs flow.params are_structs (All-head
      (IsFlow structs) flow flows formed).params).only d one.0 one.1 in
      let later = summaries_only flows ds others.0 (All-tail (IsFlow structs) flow flows formed) others.1 in
      subst (λ all. (summaries_data structs (flow ∷ flows) all ≡ d ∷ ds) × AreRead structs (flow ∷ flows) all)
      (some_is (one.0 ∷ others.0) summaries others.2)
      (cons_is first.0 later.0, (first.1, later.1))

-- ---- answers

module _ (key : Key) (are_structs : AreStructs key.structs) (flows : All (IsFlow key.structs) key.procs) where
  pub answer_back : (answer : Answer) → AreRead key.structs key.procs answer.procs →
      read_answer key (answer_data key answer) ≡ Some (record { stored = true; procs = answer.procs })
  answer_back answer fits =
      let ds = summaries_data key.structs key.procs answer.procs in
      go_on_is _ _ ds _ (go_on_is _ _ (tuple ds) _ refl (list_back ds)) (
      go_on_is _ _ answer.procs _ (summaries_back key.structs are_structs key.procs answer.procs flows fits) refl)

  answer_only_of : (procs : Data) (answer : Answer) → answer_members key (one_member (codes "procs") procs) ≡ Some answer →
      (answer_data key answer ≡ one_member (codes "procs") procs) × (answer.stored ≡ true) × AreRead key.structs key.procs answer.procs
  answer_only_of procs answer is =
      let r0 = go_on_some (go_on (Some procs) as_list) (λ items. go_on (read_summaries key.structs key.procs items)
      (λ all. Some (record { stored = true; procs = all }))) answer is in
      let e0 = list_only procs r0.0 (at_some procs as_list r0.0 r0.1) in
      let r1 = go_on_some (read_summaries key.structs key.procs r0.0) (λ all. Some (record { stored = true; procs = all })) answer r0.2 in
      let e1 = summaries_only key.structs are_structs key.procs r0.0 r1.0 flows r1.1 in
      subst (λ (one : Answer). (answer_data key one ≡ one_member (codes "procs") procs) ×
      (one.stored ≡ true) × AreRead key.structs key.procs one.procs)
      (some_is (record { stored = true; procs = r1.0 }) answer r1.2)
      (ap (one_member (codes "procs")) (ap tuple e1.0 ∙ e0), refl, e1.1)

  pub answer_only : (d : Data) (answer : Answer) → read_answer key d ≡ Some answer →
      (answer_data key answer ≡ d) × (answer.stored ≡ true) × AreRead key.structs key.procs answer.procs
  answer_only d answer is =
      let shape = read_of_one (codes "procs") (answer_members key) d answer is in
      let one = answer_only_of shape.0 answer shape.2 in
      (one.0 ∙ sym shape.1, one.1, one.2)
