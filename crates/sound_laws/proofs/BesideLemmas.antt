-- Execution beside a frame, from execution alone: by the frame law of a step, and for calls by sums of three heaps.
use Rattle.std.specs.Prelude.{◌≡◌, ℕ, ◌+◌, ℤ, List, [], ◌∷◌, ◌++◌, map, slice_get, All}
use Rattle.std.specs.declared.option.Option.{Option}
use Rattle.std.specs.declared.option.Option.TheVariants.{Some}
use Rattle.std.proofs.Common.{refl, sym, ap, ◌∙◌, inl, inr}
use Rattle.std.proofs.lemmas.List.Elements.{All-contains}
use Rattle.shape_data.specs.declared.answer.Callee.{Callee}
use Rattle.shape_data.specs.declared.machine.Cell.{Cell}
use Rattle.shape_data.specs.declared.machine.Choice.{Choice}
use Rattle.shape_data.specs.declared.machine.Config.{Config}
use Rattle.shape_data.specs.declared.machine.Frame.{Frame}
use Rattle.shape_data.specs.declared.machine.Outcome.{Outcome}
use Rattle.shape_data.specs.declared.machine.Outcome.TheVariants as outcome
use Rattle.shape_data.specs.declared.machine.Stepped.{Stepped}
use Rattle.shape_data.specs.declared.machine.Stepped.TheVariants as stepped
use Rattle.shape_data.specs.declared.program.Cmd.{Cmd}
use Rattle.shape_data.specs.declared.program.Cmd.TheVariants as cmd
use Rattle.shape_data.specs.declared.program.Node.{Node}
use Rattle.shape_data.specs.declared.program.Operand.{Operand}
use Rattle.shape_data.specs.declared.program.Proc.{Proc}
use Rattle.shape_data.specs.declared.program.Program.{Program}
use Rattle.shape_data.specs.Heap.{IsSum, union}
use Rattle.shape_data.specs.Machine.{operand_value, run, step, step_cmd}
use Rattle.shape_data.specs.Valid.{Satisfies, Valid, ValidFor, values_from}
use Rattle.sym_parts.proofs.ShapesLemmas.FrameSteps.{CarriesStep, CarriesOrRefuses, step_carries}
use Rattle.sym_parts.proofs.ShapesLemmas.Sums.{IsSum-assoc, IsSum-left, IsSum-to_right}
use Rattle.sound_laws.specs.Beside.{callee_at_start, config_at, DoesBeside, DoesBesideFrame, DoesOnAnyStack, DoesOnTop, LandsBeside}
use Rattle.sound_laws.specs.Beside.{ReturnsBeside}
use Rattle.sound_laws.specs.Commands.{alone, CallFits, Does, Lands, NodeAssertion, ResultAssertion}
use Rattle.sound_laws.specs.Leading.{NextIsMet, PostIsMet}
use Rattle.sound_laws.specs.Procedures.{Finds, IsValidCallee}
use Rattle.sound_laws.specs.Stacks.{config_over, step_over}
use Rattle.sound_laws.proofs.ProcedureLemmas.{found_as, found_stands}
use Rattle.sound_laws.proofs.StackLemmas.{run_over_caller, step_over_caller}

-- ---- beside a frame

module _ (program : Program) (callees : List Callee) (At : NodeAssertion) (Ends : ResultAssertion)
    (valid : All (IsValidCallee program) callees)
    (number at : ℕ) (node : Node) (proc : Proc) (is_proc : slice_get program.procs number ≡ Some proc)
    (is_node : slice_get proc.flow.nodes at ≡ Some node)
    (locals : List ℤ) (own frame whole : List Cell) (sum : IsSum program.structs whole own frame) where
  carried : (small large : Stepped) → CarriesStep program.structs frame small large → Lands At Ends number small →
      LandsBeside program.structs At Ends number frame large
  carried (stepped.On config) large carries lands = rw carries.1 (config.heap, lands.0, lands.1, lands.2, carries.2, lands.3)
  carried (stepped.Returned value heap) large carries lands = rw carries.1 (heap, carries.2, lands)
  carried (stepped.Fault line cause) large carries lands = absurd lands
  carried stepped.BadChoice large carries lands = rw carries tt

  step_is : (choice : Choice) →
      step program (config_at number at locals own) choice
      ≡ step_cmd program [] (alone number at locals) own choice (proc.line + node.line) node.cmd
  step_is choice = rw (is_proc, is_node) refl

  -- each step of the node's command lands
  abbrev StepsLand : Type 0
  StepsLand = (choice : Choice) →
      Lands At Ends number (step_cmd program [] (alone number at locals) own choice (proc.line + node.line) node.cmd)

  lands_beside : StepsLand → (choice : Choice) →
      LandsBeside program.structs At Ends number frame (step program (config_at number at locals whole) choice)
  lands_beside lands choice =
      by_carried (step program (config_at number at locals own) choice) (step program (config_at number at locals whole) choice)
      (step_carries program (config_at number at locals own) frame whole choice sum) (rw (step_is choice) (lands choice))
    where
      by_carried : (small large : Stepped) → CarriesOrRefuses program.structs frame choice small large → Lands At Ends number small →
          LandsBeside program.structs At Ends number frame large
      by_carried small large (inl carries) lands = carried small large carries lands
      by_carried small large (inr refused) lands = rw refused.1 tt

  module _ (to : Option ℕ) (next : ℕ) (name : List ℕ) (args : List Operand)
      (fits : CallFits program.structs callees (At next) locals own to name args) where
    returned_beside : (rest : List Cell) → IsSum program.structs rest fits.kept frame → (result : Outcome) →
        Satisfies program.structs fits.s rest fits.spec.posts result → ReturnsBeside program.structs (At next) locals to frame result
    returned_beside rest parts (outcome.Running config) satisfies = tt
    returned_beside rest parts (outcome.Returned value heap) satisfies =
        let back = union satisfies.0 fits.kept in
        (back, IsSum-assoc satisfies.1 parts, fits.back value satisfies.0 back (IsSum-left satisfies.1 parts) satisfies.2)
    returned_beside rest parts (outcome.Fault line cause) satisfies = satisfies
    returned_beside rest parts (outcome.BadChoice index) satisfies = tt

    called_beside : (other : ℕ) × (called : Proc) × Finds program name other called ×
        ((choices : List Choice) →
        ReturnsBeside program.structs (At next) locals to frame (run program (callee_at_start called other locals args whole) choices))
    called_beside =
        let of_callee : IsValidCallee program fits.callee = All-contains (IsValidCallee program) callees fits.callee valid fits.is_callee in
        let other = of_callee.number in
        let called = of_callee.proc in
        let three = IsSum-to_right sum fits.sum in
        let is_valid : Valid program other fits.spec =
        All-contains (Valid program other) fits.callee.specs fits.spec of_callee.valid fits.is_spec in
        let right : ValidFor program other called fits.spec =
        rw (found_stands program fits.callee.name other called of_callee.found) at is_valid in
        let same : values_from fits.s 0 called.flow.params ≡ map (operand_value locals) args =
        ap (λ params. values_from fits.s 0 params) of_callee.params ∙ sym fits.arguments in (
          other,
          called,
          found_as program fits.callee.name name other called fits.is_named of_callee.found,
          λ choices.
              let result = run program (callee_at_start called other locals args whole) choices in
              let satisfies : Satisfies program.structs fits.s three.0 fits.spec.posts result =
              rw same at (right fits.s fits.lent three.0 whole fits.pre three.1 choices) in
              returned_beside three.0 three.2 result satisfies,
        )

  by_cmd : (command : Cmd) → node.cmd ≡ command → Does program callees At Ends locals own command →
      DoesBeside program At Ends number at locals frame whole command
  by_cmd (cmd.Copy to from next) is does = lands_beside (λ choice. rw is (does number at (proc.line + node.line) choice))
  by_cmd (cmd.Arith to op left right next) is does = lands_beside (λ choice. rw is (does number at (proc.line + node.line) choice))
  by_cmd (cmd.Any to ty next) is does = lands_beside (λ choice. rw is (does number at (proc.line + node.line) choice))
  by_cmd (cmd.Load to base kind field next) is does = lands_beside (λ choice. rw is (does number at (proc.line + node.line) choice))
  by_cmd (cmd.Store base kind field from next) is does = lands_beside (λ choice. rw is (does number at (proc.line + node.line) choice))
  by_cmd (cmd.New to kind next) is does = lands_beside (λ choice. rw is (does number at (proc.line + node.line) choice))
  by_cmd (cmd.Free base kind next) is does = lands_beside (λ choice. rw is (does number at (proc.line + node.line) choice))
  by_cmd (cmd.Call to name args next) is does = called_beside to next name args does
  by_cmd (cmd.Branch op pointers left right on_true on_false) is does =
      lands_beside (λ choice. rw is (does number at (proc.line + node.line) choice))
  by_cmd (cmd.Return value) is does = lands_beside (λ choice. rw is (does number at (proc.line + node.line) choice))

pub does_beside_frame : DoesBesideFrame
does_beside_frame program callees valid number at node is_node state nexts exits row s locals own meets frame whole sum =
    by_cmd program callees (NextIsMet program.structs s nexts) (PostIsMet program.structs s exits) valid
    number at node is_node.0 is_node.1 is_node.2 locals own frame whole sum node.cmd refl (row s locals own meets)

-- ---- on top of frames that wait

module _ (program : Program) (At : NodeAssertion) (Ends : ResultAssertion) (number at : ℕ) (locals : List ℤ) (frame whole : List Cell)
    (below : List Frame) (caller : Frame) (back : Option ℕ) where
  stepped_on_top : ((choice : Choice) →
      LandsBeside program.structs At Ends number frame (step program (config_at number at locals whole) choice)) →
      (choice : Choice) → (landed : Stepped) × LandsBeside program.structs At Ends number frame landed ×
      (step program (config_over below caller back (config_at number at locals whole)) choice ≡ step_over below caller back landed)
  stepped_on_top lands choice =
      let config : Config = config_at number at locals whole in
      (step program config choice, lands choice, step_over_caller program below caller back config choice)

  on_top : (command : Cmd) → DoesBeside program At Ends number at locals frame whole command →
      DoesOnTop program At Ends number at locals frame whole below caller back command
  on_top (cmd.Copy to from next) does = stepped_on_top does
  on_top (cmd.Arith to op left right next) does = stepped_on_top does
  on_top (cmd.Any to ty next) does = stepped_on_top does
  on_top (cmd.Load to base kind field next) does = stepped_on_top does
  on_top (cmd.Store base kind field from next) does = stepped_on_top does
  on_top (cmd.New to kind next) does = stepped_on_top does
  on_top (cmd.Free base kind next) does = stepped_on_top does
  on_top (cmd.Call to name args next) does = (
    does.0,
    does.1,
    does.2,
    λ choices index.
        let begun = callee_at_start does.1 does.0 locals args whole in
        let own : Frame = record { proc = number; node = next; locals = locals; to = back } in
        (run program begun choices, does.3 choices, run_over_caller program (below ++ caller ∷ []) own to begun choices 0 index),
  )
  on_top (cmd.Branch op pointers left right on_true on_false) does = stepped_on_top does
  on_top (cmd.Return value) does = stepped_on_top does

pub does_on_any_stack : DoesOnAnyStack
does_on_any_stack program callees valid number at node is_node state nexts exits row s locals own meets frame whole sum below caller back =
    on_top program (NextIsMet program.structs s nexts)
    (PostIsMet program.structs s exits) number at locals frame whole below caller back node.cmd
    (does_beside_frame program callees valid number at node is_node state nexts exits row s locals own meets frame whole sum)
