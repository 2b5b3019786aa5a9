-- The three tests tell whether it is the key.
use Rattle.std.proofs.Common.{◌≡◌, ◌∙◌, List, sym, ap}
use Rattle.std.specs.List.{filter_map, list_any}
use Rattle.std.proofs.Common.{slice_get}
use Rattle.shape_data.specs.declared.program.Flow.{Flow}
use Rattle.shape_data.specs.declared.program.Node.{Node}
use Rattle.component_keys.specs.Keys.{flows_of, is_recursive}
use Rattle.component_keys.specs.Structures.{structs_used}
use Rattle.composed_keys.specs.Calling.{calls_any}
use Rattle.composed_keys.proofs.Compared.{composed_of, recursive_of, structs_of}
use Rattle.composed_keys.proofs.Recursion.{recursive_same}
use Rattle.composed_keys.proofs.keys.is_key_of.Goals as goal

pub returns-then-not-is_same : goal.returns-then-not-is_same
returns-then-not-is_same c = (
  λ h. cc,
  λ e.
      let flows = filter_map (slice_get (flows_of c.args.program.now)) c.args.members.now in
      let procs : c.args.key.now.procs ≡ flows = sym c.deref.ensures ∙ c.are_flows.ensures.0 c.if-not-are_flows.false in
      let recursive : c.call_themselves-recursive.result ≡ is_recursive c.args.key.now.procs =
      c.call_themselves-recursive.ensures ∙
      (ap (λ (fs : List Flow). list_any
      (λ (flow : Flow). list_any (λ (node : Node). calls_any fs node.cmd) flow.nodes) fs) c.deref-5.ensures
      ∙ recursive_same c.args.key.now.procs) in
      let t = c.is_same.ensures.1 (recursive_of c.args.key.now c.args.program.now.structs flows procs e ∙ sym recursive) in
      let f = c.if-not-is_same.true in
      cc,
)

pub returns : goal.returns
returns c =
    let flows = filter_map (slice_get (flows_of c.args.program.now)) c.args.members.now in
    let procs : c.args.key.now.procs ≡ flows = sym c.deref.ensures ∙ c.are_flows.ensures.0 c.if-not-are_flows.false in
    let recursive : c.call_themselves-recursive.result ≡ is_recursive c.args.key.now.procs =
    c.call_themselves-recursive.ensures ∙
    (ap (λ (fs : List Flow). list_any (λ (flow : Flow). list_any (λ (node : Node). calls_any fs node.cmd) flow.nodes) fs) c.deref-5.ensures
    ∙ recursive_same c.args.key.now.procs) in
    let used : c.in_ok-structs.structs ≡ structs_used c.args.program.now.structs c.args.key.now.procs c.args.key.now.callees =
    c.in_ok-structs.ensures ∙ (ap (λ s. structs_used s c.deref-3.result.now c.deref-4.result.now) c.deref-2.ensures ∙
    (ap (λ f. structs_used c.args.program.now.structs f c.deref-4.result.now) c.deref-3.ensures
    ∙ ap (structs_used c.args.program.now.structs c.args.key.now.procs) c.deref-4.ensures)) in (
      λ h. composed_of c.args.key.now c.args.program.now.structs flows procs (c.is_same.ensures.0 c.if-not-is_same.false ∙ recursive)
          (c.is_same-2.ensures.0 h ∙ used),
      λ e. c.is_same-2.ensures.1 (structs_of c.args.key.now c.args.program.now.structs flows procs e ∙ sym used),
    )
