-- What certificates claim that support each other is valid: by induction on the number of choices, all claims at once.
use Rattle.std.specs.Prelude.{◌≡◌, ◌⊎◌, ℕ, zero, suc, ◌+◌, ◌-◌, ◌<◌, ◌≤◌, ℤ, pos, List, [], ◌∷◌, ◌++◌, length, map, replicate, slice_get}
use Rattle.std.specs.Prelude.{slice_index_or, All}
use Rattle.std.specs.declared.option.Option.{Option}
use Rattle.std.specs.declared.option.Option.TheVariants.{None, Some}
use Rattle.std.proofs.Common.{refl, sym, ap, ◌∙◌, arith, inl, inr}
use Rattle.std.proofs.lemmas.List.{length-append}
use Rattle.std.proofs.lemmas.List.Elements.{All-contains, Contains-get_or}
use Rattle.shape_data.specs.declared.answer.Callee.{Callee}
use Rattle.shape_data.specs.declared.machine.Cell.{Cell}
use Rattle.shape_data.specs.declared.machine.Choice.{Choice}
use Rattle.shape_data.specs.declared.machine.Config.{Config}
use Rattle.shape_data.specs.declared.machine.Outcome.{Outcome}
use Rattle.shape_data.specs.declared.machine.Outcome.TheVariants as outcome
use Rattle.shape_data.specs.declared.machine.Stepped.{Stepped}
use Rattle.shape_data.specs.declared.machine.Stepped.TheVariants as stepped
use Rattle.shape_data.specs.declared.program.Cmd.{Cmd}
use Rattle.shape_data.specs.declared.program.Cmd.TheVariants as cmd
use Rattle.shape_data.specs.declared.program.Flow.{Flow}
use Rattle.shape_data.specs.declared.program.Node.{Node}
use Rattle.shape_data.specs.declared.program.Operand.{Operand}
use Rattle.shape_data.specs.declared.program.Proc.{Proc}
use Rattle.shape_data.specs.declared.program.Program.{Program}
use Rattle.shape_data.specs.declared.program.StructDef.{StructDef}
use Rattle.shape_data.specs.declared.symbolic.Cert.{Cert}
use Rattle.shape_data.specs.declared.symbolic.Exp.{Exp}
use Rattle.shape_data.specs.declared.symbolic.Exp.TheVariants.{Const}
use Rattle.shape_data.specs.declared.symbolic.Post.{Post}
use Rattle.shape_data.specs.declared.symbolic.Spec.{Spec}
use Rattle.shape_data.specs.declared.symbolic.SymHeap.{SymHeap}
use Rattle.shape_data.specs.declared.symbolic.SymState.{SymState}
use Rattle.shape_data.specs.Heap.{IsSum}
use Rattle.shape_data.specs.Machine.{called, new_frame, operand_value, proc_named_from, received, run, run_after, run_from, start, step_at}
use Rattle.shape_data.specs.Machine.{step_cmd}
use Rattle.shape_data.specs.Meaning.{Meets, MeetsOne, MeetsState, value}
use Rattle.shape_data.specs.Valid.{Satisfies, Valid, ValidFor, values_from}
use Rattle.sym_parts.specs.Shapes.Frame.{SatisfiesAlone, ValidAlone}
use Rattle.sym_parts.proofs.ShapesLemmas.FrameRuns.{frame_rule, safe_beside_frame}
use Rattle.sound_laws.specs.Certificates.{variables_from, start_state, states_at, GoesOn, IsInductive, IsInductiveFor, IsSupported}
use Rattle.sound_laws.specs.Certificates.{SupportEachOther, IsClaimed, ClaimsAreValid}
use Rattle.sound_laws.specs.Commands.{alone, received_locals, CallFits, Does, Lands, NodeAssertion, ResultAssertion}
use Rattle.sound_laws.specs.Leading.{MeetsNext, MeetsSome, NextIsMet, PostIsMet, PostLeads, StateLeads}
use Rattle.sound_laws.specs.Stacks.{config_over, CarriesOver}
use Rattle.sound_laws.proofs.LeadingLemmas.{Does-weaker, MeetsNext-is, MeetsOne-is, MeetsSome-is}
use Rattle.sound_laws.proofs.ProcedureLemmas.{found_as, found_stands}
use Rattle.sound_laws.proofs.StackLemmas.{run_over_caller}

-- ---- the start

values_map : {A : Type 0} (s t : ℕ → ℤ) (k : ℕ) (params : List A) → ((x : ℕ) → x < k + length params → t x ≡ s x) →
    values_from s k params ≡ map (value t) (variables_from k params)
values_map s t k [] agrees = refl
values_map s t k (param ∷ params) agrees =
    let here : k < k + length (param ∷ params) = omega arith in
    let count : k + length (param ∷ params) ≡ k + 1 + length params = omega arith in
    rw (agrees k here, values_map s t (k + 1) params (λ x below. agrees x (rw count below))) refl

zeros_map : (t : ℕ → ℤ) (count : ℕ) → replicate count (pos 0) ≡ map (value t) (replicate count (Const (pos 0)))
zeros_map t zero = refl
zeros_map t (suc count) = ap (λ rest. pos 0 ∷ rest) (zeros_map t count)

-- arguments with the expressions' values, and zeros behind them
locals_map : (t : ℕ → ℤ) (args : List ℤ) (exps : List Exp) (count : ℕ) → args ≡ map (value t) exps →
    args ++ replicate count (pos 0) ≡ map (value t) (exps ++ replicate count (Const (pos 0)))
locals_map t args (e ∷ exps) count same = rw same (ap (λ rest. value t e ∷ rest) (locals_map t (map (value t) exps) exps count refl))
locals_map t args [] count same = rw same (zeros_map t count)

length-values : {A : Type 0} (s : ℕ → ℤ) (k : ℕ) (params : List A) → length (values_from s k params) ≡ length params
length-values s k [] = refl
length-values s k (param ∷ params) = ap (λ n. suc n) (length-values s (k + 1) params)

-- a new frame over what meets the precondition meets the start state
pub start_meets : (structs : List StructDef) (flow : Flow) (pre : SymHeap) (number : ℕ) → length flow.params < 65536 →
    (s : ℕ → ℤ) (heap : List Cell) → Meets structs s heap pre →
    MeetsState structs s (new_frame number flow (values_from s 0 flow.params) None).locals heap (start_state flow pre)
start_meets structs flow pre number few s heap meets = (
  meets.0,
  meets.1,
  rw (length-values s 0 flow.params)
      (locals_map meets.0 (values_from s 0 flow.params) (variables_from 0 flow.params) (length flow.slots - length flow.params)
      (values_map s meets.0 0 flow.params (λ x below. let logical : x < 65536 = omega arith in meets.1 x logical))),
  meets.2,
)

-- ---- one state of a certificate

module _ (program : Program) (callees : List Callee) (cert : Cert) (posts : List Post)
    (left : All (λ exit. PostLeads program.structs exit posts) cert.exits) (s : ℕ → ℤ) where
  -- locals and a heap at a node meet a state of the certificate; a result and a heap meet a post
  abbrev At : NodeAssertion
  At node locals heap = MeetsSome program.structs s locals heap (states_at cert node)

  abbrev Ends : ResultAssertion
  Ends value heap = MeetsOne program.structs s value heap posts

  pub goes_on : (command : Cmd) (state : SymState) → GoesOn program callees cert command state → (locals : List ℤ) (heap : List Cell) →
      MeetsState program.structs s locals heap state → Does program callees At Ends locals heap command
  goes_on command state goes locals heap meets =
      Does-weaker (NextIsMet program.structs s goes.nexts) At (PostIsMet program.structs s goes.exits) Ends at_node at_end
      program callees locals heap command (goes.executed s locals heap meets)
    where
      at_node : (node : ℕ) (locals : List ℤ) (heap : List Cell) → MeetsNext program.structs s node locals heap goes.nexts →
          At node locals heap
      at_node node locals heap meets =
          let one = MeetsNext-is program.structs s node locals heap goes.nexts meets in
          rw one.2 at
          (All-contains
          (λ (next : ℕ × SymState). StateLeads program.structs next.1
          (states_at cert next.0)) goes.nexts one.0 goes.covered one.1 s locals heap one.3)

      at_end : (value : ℤ) (heap : List Cell) → MeetsOne program.structs s value heap goes.exits → Ends value heap
      at_end value heap meets =
          let exit = MeetsOne-is program.structs s value heap goes.exits meets in
          let kept =
          All-contains (λ exit. PostLeads program.structs exit cert.exits) goes.exits exit.0 goes.left exit.1 s value heap exit.2 in
          let one = MeetsOne-is program.structs s value heap cert.exits kept in
          All-contains (λ exit. PostLeads program.structs exit posts) cert.exits one.0 left one.1 s value heap one.2

  pub some_goes_on : (command : Cmd) (states : List SymState) → All (GoesOn program callees cert command) states →
      (locals : List ℤ) (heap : List Cell) →
      MeetsSome program.structs s locals heap states → Does program callees At Ends locals heap command
  some_goes_on command states each locals heap meets =
      let one = MeetsSome-is program.structs s locals heap states meets in
      goes_on command one.0 (All-contains (GoesOn program callees cert command) states one.0 each one.1) locals heap one.2

-- ---- the induction

received_alone : (to : Option ℕ) (value : ℤ) (number node : ℕ) (locals : List ℤ) →
    received to value (alone number node locals) ≡ alone number node (received_locals to value locals)
received_alone None value number node locals = refl
received_alone (Some slot) value number node locals = refl

module _ (program : Program) (callees : List Callee) (Claimed : ℕ → Spec → Cert → Type 0)
    (supported : SupportEachOther program callees Claimed) where
  -- runs over at most so many choices, from what meets a state of a claimed certificate, satisfy the posts
  abbrev AreSafe : ℕ → Type 0
  AreSafe count =
      (number : ℕ) (spec : Spec) (cert : Cert) → Claimed number spec cert →
      (s : ℕ → ℤ) (at : ℕ) (locals : List ℤ) (heap : List Cell) → MeetsSome program.structs s locals heap (states_at cert at) →
      (choices : List Choice) → length choices ≤ count → (index : ℕ) →
      SatisfiesAlone program.structs s spec.posts
      (run_from program (record { stack = alone number at locals ∷ []; heap = heap }) choices index)

  -- ---- after one step, where runs over the other choices are safe

  module _ (count : ℕ) (safe : AreSafe count) (number : ℕ) (spec : Spec) (cert : Cert) (claimed : Claimed number spec cert)
      (s : ℕ → ℤ) (choices : List Choice) (few : length choices ≤ count) (index : ℕ) where
    abbrev Here : NodeAssertion
    Here node locals heap = MeetsSome program.structs s locals heap (states_at cert node)

    abbrev Gone : ResultAssertion
    Gone value heap = MeetsOne program.structs s value heap spec.posts

    abbrev go_on : Config → Outcome
    go_on next = run_from program next choices (index + 1)

    -- a step that lands
    landed : (to : Stepped) → Lands Here Gone number to → SatisfiesAlone program.structs s spec.posts (run_after index go_on to)
    landed (stepped.On config) lands =
        rw lands.2 (safe number spec cert claimed s lands.0 lands.1 config.heap lands.3 choices few (index + 1))
    landed (stepped.Returned value heap) lands = lands
    landed (stepped.Fault line cause) lands = absurd lands
    landed stepped.BadChoice lands = tt

    -- the run of a callee from what is lent, beside what is kept: by its spec where that is valid, else by its own claim
    callee_safe : (other : ℕ) (callee : Proc) → slice_get program.procs other ≡ Some callee → (used : Spec) →
        Valid program other used ⊎ ((cert : Cert) × Claimed other used cert) →
        (t : ℕ → ℤ) (lent kept heap : List Cell) → IsSum program.structs heap lent kept → Meets program.structs t lent used.pre →
        Satisfies program.structs t kept used.posts
        (run program (start callee.flow other (values_from t 0 callee.flow.params) heap) choices)
    callee_safe other callee is_callee used (inl valid) t lent kept heap sum pre =
        let of_callee : ValidFor program other callee used = rw is_callee at valid in
        of_callee t lent kept heap pre sum choices
    callee_safe other callee is_callee used (inr known) t lent kept heap sum pre =
        let own : IsInductiveFor program callees other used known.0 = supported.claims other used known.0 known.1 in
        let same : Some own.proc ≡ Some callee = sym own.is_proc ∙ is_callee in
        let alike : own.proc ≡ callee = cc in
        let entered : MeetsSome program.structs t (new_frame other own.proc.flow (values_from t 0 own.proc.flow.params) None).locals lent
        (states_at known.0 0) =
        own.inductive.entry t (new_frame other own.proc.flow (values_from t 0 own.proc.flow.params) None).locals lent
        (start_meets program.structs own.proc.flow used.pre other own.logical t lent pre) in
        let begun = start callee.flow other (values_from t 0 callee.flow.params) lent in
        safe_beside_frame program begun kept heap choices t used.posts sum
        (safe other used known.0 known.1 t 0 (new_frame other callee.flow (values_from t 0 callee.flow.params) None).locals lent
        (rw alike at entered) choices few 0)

    -- a call that fits
    module _ (locals : List ℤ) (heap : List Cell) (to : Option ℕ) (name : List ℕ) (args : List Operand) (next : ℕ)
        (fits : CallFits program.structs callees (Here next) locals heap to name args) where
      returned_safe : (small large : Outcome) → Satisfies program.structs fits.s fits.kept fits.spec.posts small →
          CarriesOver program [] (alone number next locals) to choices small large → SatisfiesAlone program.structs s spec.posts large
      returned_safe (outcome.Running config) large satisfies carries = rw carries tt
      returned_safe (outcome.Returned value whole) large satisfies carries =
          let counted : length choices ≡ length carries.0 + length carries.1 = ap length carries.3 ∙ length-append carries.0 carries.1 in
          let fewer : length carries.1 ≤ count = omega arith in
          rw (carries.4, received_alone to value number next locals)
          (safe number spec cert claimed s next (received_locals to value locals) whole
          (fits.back value satisfies.0 whole satisfies.1 satisfies.2) carries.1 fewer carries.2)
      returned_safe (outcome.Fault line cause) large satisfies carries = absurd satisfies
      returned_safe (outcome.BadChoice at) large satisfies carries = rw carries.1 tt

      called_safe : (at line : ℕ) → SatisfiesAlone program.structs s spec.posts
          (run_after index go_on
          (called [] (alone number at locals) heap line to (map (operand_value locals) args) next (proc_named_from 0 program.procs name)))
      called_safe at line =
          let of_callee : IsSupported program Claimed fits.callee =
          All-contains (IsSupported program Claimed) callees fits.callee supported.callees_supported fits.is_callee in
          let proc = of_callee.proc in
          let is_callee : slice_get program.procs of_callee.number ≡ Some proc =
          found_stands program fits.callee.name of_callee.number proc of_callee.found in
          let used = All-contains (λ spec. Valid program of_callee.number spec ⊎ ((cert : Cert) × Claimed of_callee.number spec cert))
          fits.callee.specs fits.spec of_callee.specs fits.is_spec in
          let same : values_from fits.s 0 proc.flow.params ≡ map (operand_value locals) args =
          ap (λ params. values_from fits.s 0 params) of_callee.params ∙ sym fits.arguments in
          let satisfied : Satisfies program.structs fits.s fits.kept fits.spec.posts
          (run program (start proc.flow of_callee.number (map (operand_value locals) args) heap) choices) =
          rw same at (callee_safe of_callee.number proc is_callee fits.spec used fits.s fits.lent fits.kept heap fits.sum fits.pre) in
          let begun = start proc.flow of_callee.number (map (operand_value locals) args) heap in
          rw (found_as program fits.callee.name name of_callee.number proc fits.is_named of_callee.found)
          (returned_safe (run_from program begun choices 0)
          (run_from program (config_over [] (alone number next locals) to begun) choices (index + 1)) satisfied
          (run_over_caller program [] (alone number next locals) to begun choices 0 (index + 1)))

    -- one command
    module _ (choice : Choice) (at : ℕ) (locals : List ℤ) (heap : List Cell) where
      landed_cmd : (line : ℕ) (command : Cmd) →
          Lands Here Gone number (step_cmd program [] (alone number at locals) heap choice line command) →
          SatisfiesAlone program.structs s spec.posts
          (run_after index go_on (step_cmd program [] (alone number at locals) heap choice line command))
      landed_cmd line command lands = landed (step_cmd program [] (alone number at locals) heap choice line command) lands

      cmd_safe : (line : ℕ) (command : Cmd) → Does program callees Here Gone locals heap command →
          SatisfiesAlone program.structs s spec.posts
          (run_after index go_on (step_cmd program [] (alone number at locals) heap choice line command))
      cmd_safe line (cmd.Copy to from next) does = landed_cmd line (cmd.Copy to from next) (does number at line choice)
      cmd_safe line (cmd.Arith to op left right next) does = landed_cmd line (cmd.Arith to op left right next) (does number at line choice)
      cmd_safe line (cmd.Any to ty next) does = landed_cmd line (cmd.Any to ty next) (does number at line choice)
      cmd_safe line (cmd.Load to base kind field next) does =
          landed_cmd line (cmd.Load to base kind field next) (does number at line choice)
      cmd_safe line (cmd.Store base kind field from next) does =
          landed_cmd line (cmd.Store base kind field from next) (does number at line choice)
      cmd_safe line (cmd.New to kind next) does = landed_cmd line (cmd.New to kind next) (does number at line choice)
      cmd_safe line (cmd.Free base kind next) does = landed_cmd line (cmd.Free base kind next) (does number at line choice)
      cmd_safe line (cmd.Call to name args next) does = called_safe locals heap to name args next does at line
      cmd_safe line (cmd.Branch op pointers left right on_true on_false) does =
          landed_cmd line (cmd.Branch op pointers left right on_true on_false) (does number at line choice)
      cmd_safe line (cmd.Return value) does = landed_cmd line (cmd.Return value) (does number at line choice)

      node_safe : (proc : Proc) → IsInductive program callees proc.flow spec cert → (node : Option Node) →
          slice_get proc.flow.nodes at ≡ node →
          Here at locals heap →
          SatisfiesAlone program.structs s spec.posts
          (run_after index go_on (step_at program [] (alone number at locals) heap choice proc node))
      node_safe proc inductive None is meets = tt
      node_safe proc inductive (Some node) is meets =
          cmd_safe (proc.line + node.line) node.cmd
          (some_goes_on program callees cert spec.posts inductive.posts s node.cmd (states_at cert at)
          (inductive.states at node is) locals heap meets)

  all_safe : (count : ℕ) → AreSafe count
  all_safe count number spec cert claimed s at locals heap meets [] few index = tt
  all_safe zero number spec cert claimed s at locals heap meets (choice ∷ choices) few index = absurd (omega arith)
  all_safe (suc count) number spec cert claimed s at locals heap meets (choice ∷ choices) few index =
      let fewer : length choices ≤ count = omega arith in
      let own : IsInductiveFor program callees number spec cert = supported.claims number spec cert claimed in
      rw own.is_proc
      (node_safe count (all_safe count) number spec cert claimed s choices fewer index choice at locals heap
      own.proc own.inductive (slice_get own.proc.flow.nodes at) refl meets)

  claimed_alone : (number : ℕ) (spec : Spec) (cert : Cert) → Claimed number spec cert → (proc : Proc) →
      slice_get program.procs number ≡ Some proc →
      length proc.flow.params < 65536 → IsInductive program callees proc.flow spec cert → ValidAlone program number proc spec
  claimed_alone number spec cert claimed proc is_proc few inductive s own meets is_heap choices =
      let all : length choices ≤ length choices = omega arith in
      let locals = (new_frame number proc.flow (values_from s 0 proc.flow.params) None).locals in
      all_safe (length choices) number spec cert claimed s 0 locals own
      (inductive.entry s locals own (start_meets program.structs proc.flow spec.pre number few s own meets)) choices all 0

  pub claimed_is_valid : (number : ℕ) (spec : Spec) (cert : Cert) → Claimed number spec cert → Valid program number spec
  claimed_is_valid number spec cert claimed =
      let own : IsInductiveFor program callees number spec cert = supported.claims number spec cert claimed in
      rw own.is_proc
      (frame_rule program number own.proc spec (claimed_alone number spec cert claimed own.proc own.is_proc own.logical own.inductive))

pub claims_are_valid : ClaimsAreValid
claims_are_valid program callees claims supported =
    λ place other within.
    let claim = slice_index_or claims place other in
    claimed_is_valid program callees (IsClaimed claims) supported claim.number claim.spec claim.cert
    (Contains-get_or claims place other within)
