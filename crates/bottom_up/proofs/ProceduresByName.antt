-- Each procedure of a program stands at one place of one component, and its summary is found there by its name.
use Rattle.std.proofs.Common.{◌≡◌, ◌≢◌, ℕ, ◌<◌, true, List, [], length, slice_get, get_or, filter_map, Some, refl, sym, ap, ◌∙◌, subst}
use Rattle.std.proofs.Common.{find, option_map, unwrap_or, bytes_eq, arith}
use Rattle.std.proofs.lemmas.Option.{slice_get-map, get_or_from_slice_get, slice_get_within}
use Rattle.shape_data.specs.Exact.{IsExactTest, number_same, row_same}
use Rattle.shape_data.specs.declared.answer.Answer.{Answer}
use Rattle.shape_data.specs.declared.answer.Key.{Key}
use Rattle.shape_data.specs.declared.answer.ProcSummary.{ProcSummary}
use Rattle.shape_data.specs.declared.program.Flow.{Flow}
use Rattle.shape_data.specs.declared.program.Proc.{Proc}
use Rattle.shape_data.specs.declared.program.Program.{Program}
use Rattle.shape_data.specs.WellFormed.{IsAnswer, IsKey, IsProgram, IsSummary, Limits}
use Rattle.component_keys.specs.Components.{by_name, class_of, components, holds, names_at}
use Rattle.component_keys.specs.Keys.{Component, calls_in, flows_of, names_of, program_components, specs_in}
use Rattle.component_keys.proofs.Apart.{components_apart}
use Rattle.component_keys.proofs.Basics.{some_same}
use Rattle.component_keys.proofs.Whole.{class_in, components_whole, same_class}
use Rattle.call_components.proofs.Graphs.{differ_at}
use Rattle.composed_keys.proofs.Calls.{program_graph}
use Rattle.key_laws.proofs.Elements.{pairs_weaker}
use Rattle.key_laws.proofs.Members.{component_at, component_of_class, listed_are, member_from, member_in, members_rise, names_length}
use Rattle.key_laws.proofs.Members.{proc_at, same_number}
use Rattle.key_laws.proofs.Rising.{IsBelow, below_differ}
use Rattle.claim_core.specs.Views.{Solution}
use Rattle.bottom_up.specs.BottomUp.{all_summaries, answered, known_by, summary_named}
use Rattle.bottom_up.proofs.Formed.{key_at, key_is}
use Rattle.bottom_up.proofs.ListPlaces.{from_flat, in_flat, only_found, within_at}
use Rattle.bottom_up.proofs.Over.{known_is, known_of_component}

pub names_exact : IsExactTest bytes_eq
names_exact = row_same number_same

-- ---- procedures

module _ (program : Program) (formed : IsProgram program) where
  abbrev pub names : List (List ℕ)
  names = names_of (flows_of program)

  abbrev pub calls : List (List ℕ)
  calls = calls_in (flows_of program)

  -- a class that holds a procedure is the procedure's
  class_is : (number i : ℕ) (class : List ℕ) → slice_get (components names calls) i ≡ Some class → holds class number ≡ true →
      class ≡ class_of calls (by_name names (length names)) number
  class_is number i class at held =
      let is = listed_are program formed i class at in
      let in_it = class_in names calls (program_graph program formed) is.member number (subst (λ c. holds c number ≡ true) is.is held) in
      is.is ∙ same_class names calls (program_graph program formed) is.member number in_it.0

  -- classes that hold one procedure stand at one place
  classes_same : (number i j : ℕ) (one other : List ℕ) → slice_get (components names calls) i ≡ Some one →
      slice_get (components names calls) j ≡ Some other →
      holds one number ≡ true → holds other number ≡ true → i ≡ j
  classes_same number i j one other at at' held held' =
      components_apart names calls i j one other at at'
      (ap (names_at names) (class_is number i one at held ∙ sym (class_is number j other at' held')))

  pub flow_of_proc : (number : ℕ) (proc : Proc) → slice_get program.procs number ≡ Some proc →
      slice_get (flows_of program) number ≡ Some proc.flow
  flow_of_proc number proc at = slice_get-map (λ (one : Proc). one.flow) program.procs number
      ∙ ap (option_map (λ (one : Proc). one.flow)) at

  -- the procedure stands at this place of the component's members
  pub record IsMemberAt (component : ℕ) (part : Component) (member number : ℕ) (proc : Proc) : Type 0 where
    pub at : slice_get (program_components program) component ≡ Some part
    pub flow_at : slice_get part.flows member ≡ Some proc.flow
    pub proc_at : slice_get program.procs number ≡ Some proc
    pub class : List ℕ
    pub class_at : slice_get (components names calls) component ≡ Some class
    pub held : holds class number ≡ true

  -- whoever stands in a component is a procedure of the program
  pub member_of : (component : ℕ) (part : Component) (member : ℕ) (flow : Flow) →
      slice_get (program_components program) component ≡ Some part → slice_get part.flows member ≡ Some flow →
      (number : ℕ) × (proc : Proc) × IsMemberAt component part member number proc × (flow ≡ proc.flow)
  member_of component part member flow at flow_at =
      let own = component_at program formed component part at in
      let from =
      member_from program formed own.class member flow (ap (λ (c : Component). slice_get c.flows member) (sym own.is) ∙ flow_at) in
      let there = proc_at program from.0 flow from.2 in (
        from.0,
        there.0,
        record {
          at = at;
          flow_at = flow_at ∙ ap (λ f. Some f) there.2;
          proc_at = there.1;
          class = own.class;
          class_at = own.at;
          held = from.1;
        },
        there.2,
      )

  -- each procedure stands in a component
  pub is_member : (number : ℕ) (proc : Proc) → slice_get program.procs number ≡ Some proc →
      (component : ℕ) × (part : Component) × (member : ℕ) × IsMemberAt component part member number proc
  is_member number proc at =
      let flow_at = flow_of_proc number proc at in
      let lt : number < length (flows_of program) = slice_get_within (flows_of program) number proc.flow flow_at in
      let graph = program_graph program formed in
      let same : length names ≡ length (flows_of program) = names_length program formed in
      let lengths : length names ≡ length calls = graph.lengths in
      let whole = components_whole names calls graph number (omega (arith, lt, same, lengths)) in
      let there = member_in program formed whole.1 number proc.flow whole.3 flow_at in (
        whole.0,
        _,
        there.0,
        record {
          at = component_of_class program formed whole.0 whole.1 whole.2;
          flow_at = there.1;
          proc_at = at;
          class = whole.1;
          class_at = whole.2;
          held = whole.3;
        },
      )

  -- members of a component have different names
  places_same : (component : ℕ) (part : Component) → slice_get (program_components program) component ≡ Some part →
      (i j : ℕ) (one other : Flow) → slice_get part.flows i ≡ Some one →
      slice_get part.flows j ≡ Some other → one.name ≡ other.name → i ≡ j
  places_same component part at i j one other at_i at_j same =
      let own = component_at program formed component part at in
      let flows : List Flow = filter_map (slice_get (flows_of program)) own.class in
      let same_flows : part.flows ≡ flows = ap (λ (c : Component). c.flows) own.is in
      differ_at (λ (flow : Flow). flow.name) flows
      (pairs_weaker (λ (a b : Flow). IsBelow a.name b.name) (λ (a b : Flow). a.name ≢ b.name)
      (λ a b less. below_differ a.name b.name less) flows
      (members_rise program formed own.class (listed_are program formed component own.class own.at)))
      i j one other (ap (λ fs. slice_get fs i) (sym same_flows) ∙ at_i) (ap (λ fs. slice_get fs j) (sym same_flows) ∙ at_j) same

  -- a name stands at one place of one component
  pub record IsOnePlace (component member number component' member' number' : ℕ) : Type 0 where
    pub numbers_are : number ≡ number'
    pub components_are : component ≡ component'
    pub members_are : member ≡ member'

  pub one_place : (c : ℕ) (part : Component) (k number : ℕ) (proc : Proc) (c' : ℕ) (part' : Component) (k' number' : ℕ) (proc' : Proc) →
      IsMemberAt c part k number proc → IsMemberAt c' part' k' number' proc' → proc.flow.name ≡ proc'.flow.name →
      IsOnePlace c k number c' k' number'
  one_place c part k number proc c' part' k' number' proc' one other same =
      let numbers : number
      ≡ number' =
      same_number program formed number number' proc.flow proc'.flow (flow_of_proc number proc one.proc_at)
      (flow_of_proc number' proc' other.proc_at) same in
      let places : c
      ≡ c' =
      classes_same number c c' one.class other.class one.class_at other.class_at one.held
      (subst (λ n. holds other.class n ≡ true) (sym numbers) other.held) in
      let there : slice_get (program_components program) c ≡ Some part' = ap (slice_get (program_components program)) places ∙ other.at in
      let parts : part' ≡ part = some_same (sym there ∙ one.at) in
      record {
        numbers_are = numbers;
        components_are = places;
        members_are =
            places_same c part one.at k k' proc.flow proc'.flow one.flow_at
            (subst (λ (p : Component). slice_get p.flows k' ≡ Some proc'.flow) parts other.flow_at) same;
      }

-- ---- summaries

module _ (limits : Limits) (answer_of : Key → Answer) (answers_fit : (key : Key) → IsKey limits key → IsAnswer limits key (answer_of key))
    (program : Program) (formed : IsProgram program) where
  abbrev pub known : List Solution
  known = known_by answer_of program

  -- a component's key, and the summaries of its answer
  abbrev pub own_key : Component → Key
  own_key part = key_at limits answer_of answers_fit program formed part

  abbrev pub own_procs : Component → List ProcSummary
  own_procs part = (answer_of (own_key part)).procs

  -- the summary of a procedure stands in its component's answer, at its place
  pub record IsSummaryAt (component : ℕ) (part : Component) (member number : ℕ) (proc : Proc) (summary : ProcSummary) : Type 0 where
    pub stands : IsMemberAt program formed component part member number proc
    pub at : slice_get (own_procs part) member ≡ Some summary
    pub is : IsSummary limits (own_key part).structs proc.flow summary

  -- there is one for each
  summarized : (component : ℕ) (part : Component) (member : ℕ) (flow : Flow) (summary : ProcSummary) →
      slice_get (program_components program) component ≡ Some part → slice_get part.flows member ≡ Some flow →
      slice_get (own_procs part) member ≡ Some summary → IsSummary limits (own_key part).structs flow summary
  summarized component part member flow summary at flow_at there =
      let is_answer : IsAnswer limits (own_key part) (answer_of (own_key part)) =
      answers_fit (own_key part) (key_is limits answer_of answers_fit program formed component part at) in
      subst (λ f. IsSummary limits (own_key part).structs f summary) (get_or_from_slice_get part.flows member flow flow flow_at)
      (subst (IsSummary limits (own_key part).structs (get_or part.flows member flow))
      (get_or_from_slice_get (own_procs part) member summary summary there)
      (is_answer.each member flow summary (slice_get_within part.flows member flow flow_at)))

  as_many : (component : ℕ) (part : Component) → slice_get (program_components program) component ≡ Some part →
      length (own_procs part) ≡ length part.flows
  as_many component part at = (answers_fit (own_key part) (key_is limits answer_of answers_fit program formed component part at)).one_each

  -- each procedure has a summary
  pub summary_of : (component : ℕ) (part : Component) (member number : ℕ) (proc : Proc) →
      IsMemberAt program formed component part member number proc →
      (summary : ProcSummary) × IsSummaryAt component part member number proc summary
  summary_of component part member number proc stands =
      let lt : member < length part.flows = slice_get_within part.flows member proc.flow stands.flow_at in
      let many = as_many component part stands.at in
      let there = within_at (own_procs part) member (omega (arith, lt, many)) in (
        there.0,
        record {
          stands = stands;
          at = there.1;
          is = summarized component part member proc.flow there.0 stands.at stands.flow_at there.1;
        },
      )

  -- and each summary is that of a procedure
  pub summary_is : (component : ℕ) (part : Component) (member : ℕ) (summary : ProcSummary) →
      slice_get (program_components program) component ≡ Some part → slice_get (own_procs part) member ≡ Some summary →
      (number : ℕ) × (proc : Proc) × IsSummaryAt component part member number proc summary
  summary_is component part member summary at there =
      let within : member < length (own_procs part) = slice_get_within (own_procs part) member summary there in
      let many = as_many component part at in
      let flow = within_at part.flows member (omega (arith, within, many)) in
      let own = member_of program formed component part member flow.0 at flow.1 in (
        own.0,
        own.1,
        record {
          stands = own.2;
          at = there;
          is =
              subst (λ f. IsSummary limits (own_key part).structs f summary) own.3
              (summarized component part member flow.0 summary at flow.1 there);
        },
      )

  -- of one name there is one summary
  one_summary : (c : ℕ) (part : Component) (k number : ℕ) (proc : Proc) (summary : ProcSummary) (c' : ℕ) (part' : Component)
      (k' number' : ℕ) (proc' : Proc) (summary' : ProcSummary) →
      IsSummaryAt c part k number proc summary → IsSummaryAt c' part' k' number' proc' summary' → summary'.name ≡ summary.name →
      summary' ≡ summary
  one_summary c part k number proc summary c' part' k' number' proc' summary' one other same =
      let place =
      one_place program formed c part k number proc c' part' k' number' proc' one.stands other.stands
      (sym one.is.name ∙ sym same ∙ other.is.name) in
      let there : slice_get (program_components program) c ≡ Some part' =
      ap (slice_get (program_components program)) place.components_are ∙ other.stands.at in
      let parts : part' ≡ part = some_same (sym there ∙ one.stands.at) in
      let here : slice_get (own_procs part) k ≡ Some summary' =
      ap (slice_get (own_procs part)) place.members_are ∙ subst (λ p. slice_get (own_procs p) k' ≡ Some summary') parts other.at in
      some_same (sym here ∙ one.at)

  -- the summary is found by its name, in its component's answer
  pub found_in_answer : (component : ℕ) (part : Component) (member number : ℕ) (proc : Proc) (summary : ProcSummary) →
      IsSummaryAt component part member number proc summary →
      find (λ (one : ProcSummary). bytes_eq one.name summary.name) (own_procs part) ≡ Some summary
  found_in_answer component part member number proc summary is =
      only_found (λ (one : ProcSummary). bytes_eq one.name summary.name) (own_procs part) member summary is.at
      ((names_exact summary.name summary.name).1 refl)
      (λ j other at passes.
      let own = summary_is component part j other is.stands.at at in
      one_summary component part member number proc summary component part j own.0 own.1 other is own.2
      ((names_exact other.name summary.name).0 passes))

  -- so are its specs
  pub specs_are : (component : ℕ) (part : Component) (member number : ℕ) (proc : Proc) (summary : ProcSummary) →
      IsSummaryAt component part member number proc summary →
      specs_in (answer_of (own_key part)) summary.name ≡ summary.specs
  specs_are component part member number proc summary is =
      ap (λ o. unwrap_or (option_map (λ (one : ProcSummary). one.specs) o) [])
      (found_in_answer component part member number proc summary is)

  -- and among the summaries of all components
  pub found_in_all : (component : ℕ) (part : Component) (member number : ℕ) (proc : Proc) (summary : ProcSummary) →
      IsSummaryAt component part member number proc summary →
      summary_named known summary.name ≡ Some summary
  found_in_all component part member number proc summary is =
      let procs_of : Solution → List ProcSummary = λ one. one.answer.procs in
      let there =
      in_flat procs_of known component (answered answer_of (own_key part)) member summary
      (known_is answer_of program component part is.stands.at) is.at in
      only_found (λ (one : ProcSummary). bytes_eq one.name summary.name) (all_summaries known) there.0 summary there.1
      ((names_exact summary.name summary.name).1 refl)
      (λ j other at passes.
      let from = from_flat procs_of known j other at in
      let of = known_of_component answer_of program from.i from.x from.at in
      let own =
      summary_is from.i of.0 from.k other of.1
      (subst (λ (one : Solution). slice_get one.answer.procs from.k ≡ Some other) of.2 from.here) in
      one_summary component part member number proc summary from.i of.0 from.k own.0 own.1 other is own.2
      ((names_exact other.name summary.name).0 passes))

  -- each procedure's summary, found by the procedure's name
  pub record IsSummarized (number : ℕ) (proc : Proc) : Type 0 where
    pub component : ℕ
    pub part : Component
    pub member : ℕ
    pub summary : ProcSummary
    pub is : IsSummaryAt component part member number proc summary
    pub found : summary_named known proc.flow.name ≡ Some summary

  pub each_summarized : (number : ℕ) (proc : Proc) → slice_get program.procs number ≡ Some proc → IsSummarized number proc
  each_summarized number proc at =
      let own = is_member program formed number proc at in
      let one = summary_of own.0 own.1 own.2 number proc own.3 in
      record {
        component = own.0;
        part = own.1;
        member = own.2;
        summary = one.0;
        is = one.1;
        found = ap (summary_named known) (sym one.1.is.name) ∙ found_in_all own.0 own.1 own.2 number proc one.0 one.1;
      }
