-- What is known of the procedure of a name stands among what is known of the components that an aim at it reaches.
use Rattle.std.proofs.Common.{◌≡◌, ℕ, ◌+◌, ◌<◌, true, false, List, [], ◌∷◌, length, slice_get, Some, None, Option, refl, sym, ap, ◌∙◌}
use Rattle.std.proofs.Common.{subst}
use Rattle.std.proofs.Common.{filter, filter_map, flat_map, option_and_then, option_map, bytes_eq, is_some, arith}
use Rattle.std.specs.List.{position, range_with_len}
use Rattle.std.specs.Cmp.Lexicographic.{pointwise}
use Rattle.std.specs.Prelude.{nat_eq}
use Rattle.std.proofs.lemmas.Option.{slice_get-map, slice_get_within}
use Rattle.shape_data.specs.declared.answer.Answer.{Answer}
use Rattle.shape_data.specs.declared.answer.Key.{Key}
use Rattle.shape_data.specs.declared.answer.ProcSummary.{ProcSummary}
use Rattle.shape_data.specs.declared.program.Flow.{Flow}
use Rattle.shape_data.specs.declared.program.Proc.{Proc}
use Rattle.shape_data.specs.declared.program.Program.{Program}
use Rattle.shape_data.specs.WellFormed.{IsAnswer, IsKey, IsProgram}
use Rattle.solve_laws.specs.Certificates.Limits.{analysable}
use Rattle.component_keys.specs.Keys.{Component, program_components}
use Rattle.component_keys.proofs.Basics.{mapped_some, some_same}
use Rattle.component_keys.proofs.Ordered.{some_passes}
use Rattle.component_keys.proofs.Reach.{any_passes, holds_at, range_at}
use Rattle.component_keys.proofs.Whole.{from_filter_map, in_filter, in_filter_map, reached_keeps}
use Rattle.summary_book.specs.declared.aims.Aim.TheVariants.{One}
use Rattle.summary_book.specs.Aims.{aimed, component_calls, component_with, has_name, reaches_from}
use Rattle.summary_book.proofs.Lists.{position_found, position_missing}
use Rattle.claim_core.specs.Views.{Solution}
use Rattle.loaded_answers.specs.Lookup.{lookup}
use Rattle.session_replies.specs.PlainAnswers.Solving.{solve}
use Rattle.bottom_up.specs.BottomUp.{answers_in, known_by, program_summaries, summary_named}
use Rattle.bottom_up.specs.Placed.{summary_among}
use Rattle.bottom_up.proofs.ListPlaces.{from_flat, in_flat, mapped_at, mapped_same, only_found}
use Rattle.bottom_up.proofs.ProceduresByName.{each_summarized, found_in_all, is_member, member_of, names_exact, own_key, summary_is}
use Rattle.bottom_up.proofs.ProceduresByName.{summary_of}
use Rattle.bottom_up.proofs.Over.{answer_is, known_of_component}
use Rattle.settled_laws.specs.Laws.{aimed_answers}
use Rattle.settled_laws.proofs.Whole.{given_mapped}
use Rattle.session_replies.specs.Known.{named_summary}
use Rattle.session_replies.specs.Texts.{is_named}

module _ (loaded : List Solution) (fit : (key : Key) → IsKey analysable key → IsAnswer analysable key (lookup solve loaded key))
    (program : Program) (formed : IsProgram program) where
  abbrev answer_of : Key → Answer
  answer_of = lookup solve loaded

  abbrev known : List Solution
  known = known_by (lookup solve loaded) program

  abbrev answers : List Answer
  answers = answers_in (known_by (lookup solve loaded) program)

  abbrev its_procs : Answer → List ProcSummary
  its_procs answer = answer.procs

  -- what is known of a name among all components
  record IsKnown (name : List ℕ) (summary : ProcSummary) : Type 0 where
    its_name : summary.name ≡ name
    found : summary_named known name ≡ Some summary

  -- a summary at a place of a known answer is the one of its name
  summary_known : (component : ℕ) (answer : Answer) (k : ℕ) (summary : ProcSummary) → slice_get answers component ≡ Some answer →
      slice_get answer.procs k ≡ Some summary →
      summary_named known summary.name ≡ Some summary
  summary_known component answer k summary at here =
      let one = mapped_some (λ (it : Solution). it.answer) (slice_get known component) answer (sym (slice_get_mapped component) ∙ at) in
      let of = known_of_component answer_of program component one.0 one.1 in
      let there : slice_get (answer_of (own_key analysable answer_of fit program formed of.0)).procs k ≡ Some summary =
      subst (λ (it : Solution). slice_get it.answer.procs k ≡ Some summary) of.2
      (subst (λ (a : Answer). slice_get a.procs k ≡ Some summary) one.2 here) in
      let own = summary_is analysable answer_of fit program formed component of.0 k summary of.1 there in
      found_in_all analysable answer_of fit program formed component of.0 k own.0 own.1 summary own.2
    where
      slice_get_mapped : (i : ℕ) → slice_get answers i ≡ option_map (λ (it : Solution). it.answer) (slice_get known i)
      slice_get_mapped i = slice_get-map (λ (it : Solution). it.answer) known i

  -- the component that an aim at the name begins with, and the summary of the name there
  record IsBegun (name : List ℕ) : Type 0 where
    component : ℕ
    with_name : component_with program name ≡ Some component
    within : component < length (program_components program)
    answer : Answer
    at : slice_get answers component ≡ Some answer
    k : ℕ
    summary : ProcSummary
    here : slice_get answer.procs k ≡ Some summary
    its_name : summary.name ≡ name

  begun_at : (name : List ℕ) (component : ℕ) → component_with program name ≡ Some component → IsBegun name
  begun_at name component is =
      let there = position_found (λ (part : Component). has_name name part.flows) (program_components program) component is in
      let flow = some_passes (λ (one : Flow). pointwise nat_eq one.name name) there.0.flows there.2 in
      let own = member_of program formed component there.0 flow.0 flow.1 there.1 flow.2 in
      let one = summary_of analysable answer_of fit program formed component there.0 flow.0 own.0 own.1 own.2 in
      record {
        component = component;
        with_name = is;
        within = slice_get_within (program_components program) component there.0 there.1;
        answer = answer_of (own_key analysable answer_of fit program formed there.0);
        at = answer_is answer_of program component there.0 there.1;
        k = flow.0;
        summary = one.0;
        here = one.1.at;
        its_name = one.1.is.name ∙ ap (λ (f : Flow). f.name) (sym own.3) ∙ (names_exact flow.1.name name).0 flow.3;
      }

  begins : (number : ℕ) (proc : Proc) → slice_get program.procs number ≡ Some proc → IsBegun proc.flow.name
  begins number proc at = by_place (component_with program proc.flow.name) refl
    where
      by_place : (o : Option ℕ) → component_with program proc.flow.name ≡ o → IsBegun proc.flow.name
      by_place None none =
          let own = is_member program formed number proc at in
          let fails =
          position_missing (λ (part : Component). has_name proc.flow.name part.flows)
          (program_components program) none own.0 own.1 own.3.at in
          let passes : has_name proc.flow.name own.1.flows ≡ true =
          any_passes (λ (one : Flow). pointwise nat_eq one.name proc.flow.name) own.1.flows own.2 proc.flow own.3.flow_at
          ((names_exact proc.flow.name proc.flow.name).1 refl) in
          let clash : true ≡ false = sym passes ∙ fails in
          absurd cc
      by_place (Some component) is = begun_at proc.flow.name component is

  -- the summary is found among the answers that the aim reaches, and it is the one of the name
  module _ (name : List ℕ) (begun : IsBegun name) where
    abbrev count : ℕ
    count = length (program_components program)

    abbrev places : List ℕ
    places = filter (aimed program (One name)) (range_with_len 0 count)

    reaches_itself : aimed program (One name) begun.component ≡ true
    reaches_itself =
        ap (λ o. reaches_from program o begun.component) begun.with_name ∙
        reached_keeps (length (component_calls program)) (component_calls program) (begun.component ∷ []) begun.component
        (holds_at (begun.component ∷ []) 0 begun.component refl)

    its_place : (j : ℕ) × (slice_get places j ≡ Some begun.component)
    its_place =
        let same : 0 + begun.component ≡ begun.component = omega arith in
        in_filter (aimed program (One name)) (range_with_len 0 count) begun.component begun.component
        (range_at 0 count begun.component begun.within ∙ ap (λ n. Some n) same) reaches_itself

    known_so : summary_named known name ≡ Some begun.summary
    known_so =
        ap (summary_named known) (sym begun.its_name) ∙ summary_known begun.component begun.answer begun.k begun.summary begun.at begun.here

    -- the answers of the components that are reached
    abbrev reached_answers : List Answer
    reached_answers = filter_map (slice_get answers) places

    are_reached : aimed_answers answer_of program (One name) ≡ reached_answers
    are_reached =
        given_mapped (λ (one : Solution). one.answer) (slice_get known) places ∙
        mapped_same (λ place. option_map (λ (one : Solution). one.answer) (slice_get known place)) (slice_get answers) places places refl
        (λ i place other at at_other. sym (slice_get-map (λ (one : Solution). one.answer) known place)
        ∙ ap (slice_get answers) (some_same (sym at ∙ at_other)))

    among_reached : summary_among reached_answers name ≡ Some begun.summary
    among_reached =
        let it = in_filter_map (slice_get answers) places its_place.0 begun.component begun.answer its_place.1 begun.at in
        let there = in_flat its_procs reached_answers it.0 begun.answer begun.k begun.summary it.1 begun.here in
        only_found (λ (one : ProcSummary). bytes_eq one.name name) (flat_map its_procs reached_answers) there.0 begun.summary there.1
        ((names_exact begun.summary.name name).1 begun.its_name)
        (λ j other at passes.
        let from = from_flat its_procs reached_answers j other at in
        let place = from_filter_map (slice_get answers) places from.i from.x from.at in
        let named : other.name ≡ name = (names_exact other.name name).0 passes in
        some_same (sym (ap (summary_named known) (sym named) ∙ summary_known place.1 from.x from.k other place.3 from.here) ∙ known_so))

    among : summary_among (aimed_answers answer_of program (One name)) name ≡ Some begun.summary
    among = ap (λ all. summary_among all name) are_reached ∙ among_reached

  -- what is known of the procedure at a number
  known_at : (number : ℕ) (proc : Proc) → slice_get program.procs number ≡ Some proc →
      slice_get (program_summaries loaded program) number ≡ summary_named known proc.flow.name
  known_at number proc at =
      mapped_at (λ (one : Proc). summary_named known one.flow.name) program.procs
      (λ i one at_i. let own = each_summarized analysable answer_of fit program formed i one at_i in (own.summary, own.found)) number ∙
      ap (option_and_then (λ (one : Proc). summary_named known one.flow.name)) at

  -- THE SUMMARY OF A NAME
  pub record IsShown (name : List ℕ) : Type 0 where
    pub summary : ProcSummary
    pub among : summary_among (aimed_answers answer_of program (One name)) name ≡ Some summary
    pub known : named_summary loaded program name ≡ Some summary

  pub shown : (name : List ℕ) → is_some (position (is_named name) program.procs) ≡ true → IsShown name
  shown name defined = by_place (position (is_named name) program.procs) refl defined
    where
      by_place : (o : Option ℕ) → position (is_named name) program.procs ≡ o → is_some o ≡ true → IsShown name
      by_place None none some = let clash : false ≡ true = some in absurd cc
      by_place (Some number) is some =
          let there = position_found (is_named name) program.procs number is in
          let named : there.0.flow.name ≡ name = (names_exact there.0.flow.name name).0 there.2 in
          let begun : IsBegun name = subst IsBegun named (begins number there.0 there.1) in
          record {
            summary = begun.summary;
            among = among name begun;
            known = ap (option_and_then (slice_get (program_summaries loaded program))) is ∙ known_at number there.0 there.1
                ∙ ap (summary_named known) named ∙ known_so name begun;
          }
