-- What is known of a program's procedures is true of them, where the answers of keys are right.
use Rattle.std.proofs.Common.{◌≡◌, ℕ, List, map, slice_get, Some, sym, ap, ◌∙◌, subst, option_map, option_and_then, All, Contains}
use Rattle.std.proofs.lemmas.Option.{slice_get-map}
use Rattle.shape_data.specs.declared.answer.Answer.{Answer}
use Rattle.shape_data.specs.declared.answer.Key.{Key}
use Rattle.shape_data.specs.declared.answer.ProcSummary.{ProcSummary}
use Rattle.shape_data.specs.declared.program.Flow.{Flow}
use Rattle.shape_data.specs.declared.program.Proc.{Proc}
use Rattle.shape_data.specs.declared.program.Program.{Program}
use Rattle.shape_data.specs.WellFormed.{HasReason, IsProgram}
use Rattle.sym_parts.proofs.ShapesLemmas.ContainingShapes.{summary-carries}
use Rattle.component_keys.specs.Keys.{Component, Outer, program_components, specs_in}
use Rattle.component_keys.proofs.Basics.{mapped_some, some_same}
use Rattle.claim_laws.proofs.Invariant.{all_at}
use Rattle.key_laws.proofs.Elements.{all_of, contained_at}
use Rattle.sound_laws.specs.Answers.{AreValidIn, StandAt}
use Rattle.sound_laws.specs.BottomUp.{IsAnswered, IsAnsweredBefore}
use Rattle.sound_laws.specs.Procedures.{HasFlow}
use Rattle.sound_laws.proofs.ProcedureLemmas.{has_own_flows, procedure_is_found}
use Rattle.solve_laws.specs.Certificates.Laws.{AllAreValid, AreInductive, IsInductiveAt}
use Rattle.solve_laws.specs.Certificates.Limits.{analysable}
use Rattle.claim_core.specs.Views.{Solution}
use Rattle.bottom_up.specs.BottomUp.{answers_in, callee_by, callee_from, known_by, summaries_for, summary_named}
use Rattle.bottom_up.specs.Laws.{AreReported, AreRight, IsReported}
use Rattle.bottom_up.proofs.Formed.{IsOutside, has_structs, is_outside, key_at, key_is}
use Rattle.bottom_up.proofs.ListPlaces.{mapped_at, mapped_length}
use Rattle.bottom_up.proofs.ProceduresByName.{IsSummarized, each_summarized, member_of, specs_are, summary_of}
use Rattle.bottom_up.proofs.Over.{answer_is, known_is, known_of_component}

module _ (all_valid : AllAreValid) (answer_of : Key → Answer) (right : AreRight answer_of) (program : Program)
    (formed : IsProgram program) where
  abbrev known : List Solution
  known = known_by answer_of program

  abbrev keys : List Key
  keys = map (λ (one : Solution). one.key) (known_by answer_of program)

  abbrev answers : List Answer
  answers = answers_in (known_by answer_of program)

  abbrev own_key : Component → Key
  own_key part = key_at analysable answer_of right.formed program formed part

  stand_at : (place : ℕ) (part : Component) → slice_get (program_components program) place ≡ Some part
      → StandAt keys answers place (own_key part) (answer_of (own_key part))
  stand_at place part at = (
    slice_get-map (λ (one : Solution). one.key) known place
        ∙ ap (option_map (λ (one : Solution). one.key)) (known_is answer_of program place part at),
    answer_is answer_of program place part at,
  )

  -- a procedure outside is answered before
  answered_before : (place : ℕ) (outer : Outer) → IsOutside program place outer
      → IsAnsweredBefore keys answers place (callee_from answers outer)
  answered_before place outer out =
      let key : Key = own_key out.part in
      let own = member_of program formed outer.component out.part out.member out.flow out.at out.flow_at in
      let one = summary_of analysable answer_of right.formed program formed outer.component out.part out.member own.0 own.1 own.2 in
      let named : one.0.name ≡ outer.name = one.1.is.name ∙ ap (λ (f : Flow). f.name) (sym own.3) ∙ out.name in
      let specs : specs_in (answer_of key) outer.name ≡ one.0.specs =
      ap (specs_in (answer_of key)) (sym named)
      ∙ specs_are analysable answer_of right.formed program formed outer.component out.part out.member own.0 own.1 one.0 one.1 in
      let answered : IsAnswered key (answer_of key) (callee_by outer (Some (answer_of key))) = record {
        flow = out.flow;
        summary = one.0;
        summarized = (out.member, (out.flow_at, one.1.at));
        name = out.name;
        params = out.params;
        specs =
            subst (All (Contains one.0.specs)) (sym specs)
            (all_of (Contains one.0.specs) one.0.specs (λ i spec at. contained_at one.0.specs i spec at));
      } in (
        outer.component,
        key,
        answer_of key,
        out.before,
        stand_at outer.component out.part out.at,
        subst (λ o. IsAnswered key (answer_of key) (callee_by outer o))
            (sym (answer_is answer_of program outer.component out.part out.at)) answered,
      )

  inductive_at : (place : ℕ) (part : Component) → slice_get (program_components program) place ≡ Some part
      → IsInductiveAt program keys answers place (own_key part) (answer_of (own_key part))
  inductive_at place part at = record {
    structs = has_structs analysable answer_of right.formed program formed part;
    flows = all_of (HasFlow program) part.flows
        (λ member flow flow_at.
        let own = member_of program formed place part member flow at flow_at in
        subst (HasFlow program) (sym own.3)
        (all_at (λ (proc : Proc). HasFlow program proc.flow) program.procs own.0 own.1
        (has_own_flows program formed.different) own.2.proc_at));
    inductive = right.inductive (own_key part) (key_is analysable answer_of right.formed program formed place part at);
    callees = all_of (IsAnsweredBefore keys answers place) (map (callee_from answers) part.outer)
        (λ k callee at_k.
        let from =
        mapped_some (callee_from answers) (slice_get part.outer k) callee
        (sym (slice_get-map (callee_from answers) part.outer k) ∙ at_k) in
        subst (IsAnsweredBefore keys answers place) (sym from.2)
        (answered_before place from.0 (is_outside program formed place part k from.0 at from.1)));
  }

  are_inductive : AreInductive program keys answers
  are_inductive place key answer stand =
      let one =
      mapped_some (λ (one : Solution). one.key) (slice_get known place) key
      (sym (slice_get-map (λ (one : Solution). one.key) known place) ∙ stand.0) in
      let of = known_of_component answer_of program place one.0 one.1 in
      let key_is : own_key of.0 ≡ key = sym (one.2 ∙ ap (λ (k : Solution). k.key) of.2) in
      let answer_is : answer_of (own_key of.0) ≡ answer = some_same (sym (answer_is answer_of program place of.0 of.1) ∙ stand.1) in
      subst (IsInductiveAt program keys answers place key) answer_is
      (subst (λ k. IsInductiveAt program keys answers place k (answer_of (own_key of.0))) key_is (inductive_at place of.0 of.1))

  valid_at : (place : ℕ) (part : Component) → slice_get (program_components program) place ≡ Some part
      → AreValidIn program (own_key part) (answer_of (own_key part))
  valid_at place part at =
      all_valid program keys answers are_inductive place (own_key part) (answer_of (own_key part)) (stand_at place part at)

  abbrev Summarized : ℕ → Proc → Type 0
  Summarized number proc = IsSummarized analysable answer_of right.formed program formed number proc

  summarized : (number : ℕ) (proc : Proc) → slice_get program.procs number ≡ Some proc → Summarized number proc
  summarized number proc at = each_summarized analysable answer_of right.formed program formed number proc at

  reported : (number : ℕ) (proc : Proc) → slice_get program.procs number ≡ Some proc → (own : Summarized number proc)
      → IsReported program number proc own.summary
  reported number proc at own = record {
    formed =
        summary-carries program.structs (own_key own.part).structs
        (has_structs analysable answer_of right.formed program formed own.part) analysable proc.flow own.summary own.is.is;
    reason = all_at HasReason (answer_of (own_key own.part)).procs own.member own.summary
        (right.reasons (own_key own.part)
        (key_is analysable answer_of right.formed program formed own.component own.part own.is.stands.at)) own.is.at;
    valid =
        valid_at own.component own.part own.is.stands.at proc.flow own.summary (own.member, (own.is.stands.flow_at, own.is.at)) number proc
        (procedure_is_found program number proc formed.different at);
  }

  pub are_reported : AreReported program (summaries_for known program.procs)
  are_reported = (
    mapped_length (λ (proc : Proc). summary_named known proc.flow.name) program.procs each,
    λ number proc summary at there.
        let own = summarized number proc at in
        let is : Some own.summary ≡ Some summary =
        sym own.found ∙ sym (ap (option_and_then (λ (one : Proc). summary_named known one.flow.name)) at) ∙
        sym (mapped_at (λ (one : Proc). summary_named known one.flow.name) program.procs each number) ∙ there in
        subst (IsReported program number proc) (some_same is) (reported number proc at own),
  )
    where
      each : (number : ℕ) (proc : Proc) → slice_get program.procs number ≡ Some proc
          → (summary : ProcSummary) × (summary_named known proc.flow.name ≡ Some summary)
      each number proc at = let own = summarized number proc at in (own.summary, own.found)
