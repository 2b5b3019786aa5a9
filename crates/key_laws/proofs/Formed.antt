-- A key that is composed of a component of a well-formed program and of well-formed callees is well formed.
use Rattle.std.proofs.Common.{◌≡◌, ◌≢◌, ℕ, ◌+◌, ◌<◌, ◌≤◌, List, ◌++◌, length, slice_get, Some, sym, ap, ◌∙◌, subst, filter_map, arith, All}
use Rattle.std.specs.List.{AllZip, Contains, flat_map}
use Rattle.std.proofs.lemmas.List.Elements.{All-weaker, Contains-append_left, Contains-append_right}
use Rattle.shape_data.specs.declared.answer.Callee.{Callee}
use Rattle.shape_data.specs.declared.program.Cmd.{Cmd}
use Rattle.shape_data.specs.declared.program.Cmd.TheVariants as cmd
use Rattle.shape_data.specs.declared.program.Flow.{Flow}
use Rattle.shape_data.specs.declared.program.Node.{Node}
use Rattle.shape_data.specs.declared.program.Proc.{Proc}
use Rattle.shape_data.specs.declared.program.Program.{Program}
use Rattle.shape_data.specs.declared.program.StructDef.{StructDef}
use Rattle.shape_data.specs.WellFormed.{AreCallees, AreKeyProcs, FitCalls, FitKeyCalls, FitsCall, IsCallee, IsFlow, IsKey, IsProgram}
use Rattle.shape_data.specs.WellFormed.{Limits}
use Rattle.component_keys.specs.Keys.{Component, Outer, flows_of, key_over}
use Rattle.component_keys.specs.Structures.{named_by_callee, named_by_flow, structs_used}
use Rattle.claim_laws.proofs.Invariant.{all_at}
use Rattle.key_laws.specs.Composing.{ComposedKeysAreFormed, IsCalleeFor}
use Rattle.key_laws.proofs.Elements.{all_of, all_where, in_flat_map, pairs_at, pairs_of, zipped_left, zipped_length}
use Rattle.key_laws.proofs.Rising.{IsBelow, below_differ}
use Rattle.key_laws.proofs.Keeping.{Keeps, callee_kept, flow_kept, named_used, used_are}
use Rattle.key_laws.proofs.Members.{IsClass, component_at, flows_length, listed_are, member_from, members_few, members_rise, members_some}
use Rattle.key_laws.proofs.Members.{outer_apart, outer_few, outer_from, outer_of, outer_rise, proc_at}

-- a call that fits all of some fits those that have the name and the parameters of one of them
fits_kept : {A B : Type 0} (one_name : A → List ℕ) (one_params : A → List (List ℕ)) (other_name : B → List ℕ)
    (other_params : B → List (List ℕ)) (ones : List A) (others : List B) →
    ((k : ℕ) (other : B) → slice_get others k ≡ Some other →
    (i : ℕ) × (one : A) × (slice_get ones i ≡ Some one) × (one_name one ≡ other_name other) × (one_params one ≡ other_params other)) →
    (command : Cmd) → FitsCall one_name one_params ones command → FitsCall other_name other_params others command
fits_kept one_name one_params other_name other_params ones others from (cmd.Call to callee args next) fits =
    all_of (λ other. other_name other ≡ callee → length (other_params other) ≡ length args) others
    (λ k other at same.
    let one = from k other at in
    ap length (sym one.4)
    ∙ all_at (λ a. one_name a ≡ callee → length (one_params a) ≡ length args) ones one.0 one.1 fits one.2 (one.3 ∙ same))
fits_kept one_name one_params other_name other_params ones others from (cmd.Copy to value next) fits = tt
fits_kept one_name one_params other_name other_params ones others from (cmd.Arith to op left right next) fits = tt
fits_kept one_name one_params other_name other_params ones others from (cmd.Any to ty next) fits = tt
fits_kept one_name one_params other_name other_params ones others from (cmd.Load to base kind field next) fits = tt
fits_kept one_name one_params other_name other_params ones others from (cmd.Store base kind field value next) fits = tt
fits_kept one_name one_params other_name other_params ones others from (cmd.New to kind next) fits = tt
fits_kept one_name one_params other_name other_params ones others from (cmd.Free base kind next) fits = tt
fits_kept one_name one_params other_name other_params ones others from (cmd.Branch op pointers left right on_true on_false) fits = tt
fits_kept one_name one_params other_name other_params ones others from (cmd.Return value) fits = tt

module _ (limits : Limits) (program : Program) (formed : IsProgram program) (class : List ℕ) (is : IsClass program formed class)
    (callees : List Callee)
    (are : AllZip IsCalleeFor (outer_of program formed class) callees) (each : All (IsCallee limits program.structs) callees) where
  abbrev flows : List Flow
  flows = flows_of program

  abbrev members : List Flow
  members = filter_map (slice_get (flows_of program)) class

  abbrev used : List StructDef
  used = structs_used program.structs members callees

  few : length (flows_of program) < 4294967296
  few = let same : length (flows_of program) ≡ length program.procs = flows_length program formed in let small : length program.procs
      < 4294967296 = formed.countable in omega (arith, same, small)

  keeps : (name : List ℕ) → Contains (flat_map named_by_flow members ++ flat_map named_by_callee callees) name →
      Keeps program.structs used name
  keeps = named_used program.structs formed.structs members callees

  -- ---- the procedures

  member_flow : (k : ℕ) (flow : Flow) → slice_get members k ≡ Some flow → IsFlow used flow
  member_flow k flow at =
      let from = member_from program formed class k flow at in
      let proc = proc_at program from.0 flow from.2 in
      let own : IsFlow program.structs proc.0.flow =
      all_at (λ (one : Proc). IsFlow program.structs one.flow) program.procs from.0 proc.0 formed.flows proc.1 in
      flow_kept program.structs used flow
      (λ name c. keeps name
      (Contains-append_left (flat_map named_by_flow members) (flat_map named_by_callee callees) name
      (in_flat_map named_by_flow members k flow name at c)))
      (subst (IsFlow program.structs) (sym proc.2) own)

  procs_are : AreKeyProcs used members
  procs_are = record {
    some = members_some program formed class is;
    countable = let less : length members ≤ length (flows_of program) = members_few program formed class is in omega (arith, less, few);
    each = all_of (IsFlow used) members member_flow;
    ordered = λ k d lt. members_rise program formed class is k (k + 1) d (omega arith) lt;
  }

  -- ---- the callees

  outer_at : (k : ℕ) (callee : Callee) → slice_get callees k ≡ Some callee →
      (outer : Outer) × (slice_get (outer_of program formed class) k ≡ Some outer) × IsCalleeFor outer callee
  outer_at k callee at = zipped_left IsCalleeFor (outer_of program formed class) callees k callee are at

  callees_are : AreCallees limits used callees
  callees_are = record {
    countable =
        let same : length (outer_of program formed class) ≡ length callees =
        zipped_length IsCalleeFor (outer_of program formed class) callees are in
        let less : length (outer_of program formed class) ≤ length (flows_of program) = outer_few program formed class in
        omega (arith, same, less, few);
    each = all_where (IsCallee limits program.structs) (IsCallee limits used) callees
        (λ k callee at one.
        callee_kept program.structs used limits callee
        (λ name c. keeps name
        (Contains-append_right (flat_map named_by_flow members) (flat_map named_by_callee callees) name
        (in_flat_map named_by_callee callees k callee name at c))) one) each;
    different = pairs_of (λ (one other : Callee). one.name ≢ other.name) callees
        (λ i j one other lt at at' same.
        let first = outer_at i one at in
        let second = outer_at j other at' in
        below_differ first.0.name second.0.name
        (pairs_at (λ (a b : Outer). IsBelow a.name b.name) (outer_of program formed class) i j first.0 second.0
        (outer_rise program formed class) lt first.1 second.1)
        (sym first.2.name ∙ same ∙ second.2.name));
  }

  apart : All (λ (proc : Flow). All (λ (callee : Callee). proc.name ≢ callee.name) callees) members
  apart =
      all_of (λ (proc : Flow). All (λ (callee : Callee). proc.name ≢ callee.name) callees) members
      (λ k flow at. all_of (λ (callee : Callee). flow.name ≢ callee.name) callees
      (λ j callee at' same.
      let from = member_from program formed class k flow at in
      let outer = outer_at j callee at' in
      outer_apart program formed class from.0 flow outer.0 from.1 from.2 (outer_from program formed class j outer.0 outer.1)
      (same ∙ outer.2.name)))

  -- ---- calls

  program_fits : (k : ℕ) (flow : Flow) → slice_get members k ≡ Some flow →
      FitCalls (λ (one : Proc). one.flow.name) (λ (one : Proc). one.flow.params) program.procs flow
  program_fits k flow at =
      let from = member_from program formed class k flow at in
      let proc = proc_at program from.0 flow from.2 in
      subst (FitCalls (λ (one : Proc). one.flow.name) (λ (one : Proc). one.flow.params) program.procs) (sym proc.2)
      (all_at (λ (one : Proc). FitCalls (λ (other : Proc). other.flow.name)
      (λ (other : Proc). other.flow.params) program.procs one.flow) program.procs from.0 proc.0 formed.calls proc.1)

  calls_are : FitKeyCalls members callees
  calls_are = record {
    own = all_of (FitCalls (λ (one : Flow). one.name) (λ (one : Flow). one.params) members) members
        (λ k flow at. All-weaker
        (λ (node : Node). FitsCall (λ (one : Proc). one.flow.name) (λ (one : Proc). one.flow.params) program.procs node.cmd)
        (λ (node : Node). FitsCall (λ (one : Flow). one.name) (λ (one : Flow). one.params) members node.cmd)
        (λ node. fits_kept (λ (one : Proc). one.flow.name) (λ (one : Proc). one.flow.params) (λ (one : Flow). one.name)
        (λ (one : Flow). one.params) program.procs members
        (λ j other at'.
        let from = member_from program formed class j other at' in
        let proc = proc_at program from.0 other from.2 in
        (from.0, proc.0, proc.1, ap (λ (f : Flow). f.name) (sym proc.2), ap (λ (f : Flow). f.params) (sym proc.2))) node.cmd) flow.nodes
        (program_fits k flow at));
    outer = all_of (FitCalls (λ (one : Callee). one.name) (λ (one : Callee). one.params) callees) members
        (λ k flow at. All-weaker
        (λ (node : Node). FitsCall (λ (one : Proc). one.flow.name) (λ (one : Proc). one.flow.params) program.procs node.cmd)
        (λ (node : Node). FitsCall (λ (one : Callee). one.name) (λ (one : Callee). one.params) callees node.cmd)
        (λ node. fits_kept (λ (one : Proc). one.flow.name) (λ (one : Proc). one.flow.params) (λ (one : Callee). one.name)
        (λ (one : Callee). one.params) program.procs callees
        (λ j other at'.
        let outer = outer_at j other at' in
        let out = outer_from program formed class j outer.0 outer.1 in
        let proc = proc_at program out.number out.flow out.at in (
          out.number,
          proc.0,
          proc.1,
          ap (λ (f : Flow). f.name) (sym proc.2) ∙ ap (λ (o : Outer). o.name) (sym out.is) ∙ sym outer.2.name,
          ap (λ (f : Flow). f.params) (sym proc.2) ∙ ap (λ (o : Outer). o.params) (sym out.is) ∙ sym outer.2.params,
        )) node.cmd) flow.nodes (program_fits k flow at));
  }

  key_is : IsKey limits (key_over program.structs members callees)
  key_is =
      record {
        structs = used_are program.structs formed.structs members callees;
        procs = procs_are;
        callees = callees_are;
        apart = apart;
        calls = calls_are;
      }

pub composed_are_formed : ComposedKeysAreFormed
composed_are_formed limits program place component callees formed at are each =
    let one = component_at program formed place component at in
    subst (λ (c : Component). IsKey limits (key_over program.structs c.flows callees)) (sym one.is)
    (key_is limits program formed one.class (listed_are program formed place one.class one.at) callees
    (subst (λ (c : Component). AllZip IsCalleeFor c.outer callees) one.is are) each)
