-- The three computed parts are those of the key.
use Rattle.std.proofs.Common.{◌≡◌, ◌∙◌, List, ap}
use Rattle.std.specs.List.{list_any}
use Rattle.shape_data.specs.declared.program.Flow.{Flow}
use Rattle.shape_data.specs.declared.program.Node.{Node}
use Rattle.component_keys.specs.Keys.{is_recursive}
use Rattle.component_keys.specs.Structures.{structs_used}
use Rattle.composed_keys.specs.Calling.{calls_any}
use Rattle.composed_keys.proofs.Recursion.{recursive_same}
use Rattle.composed_keys.proofs.keys.key_of.Goals as goal

pub returns : goal.returns
returns c =
    let recursive : c.call_themselves.result ≡ is_recursive c.in_ok-procs.procs =
    c.call_themselves.ensures
    ∙ (ap (λ (fs : List Flow). list_any
    (λ (flow : Flow). list_any (λ (node : Node). calls_any fs node.cmd) flow.nodes) fs) c.deref-4.ensures
    ∙ recursive_same c.in_ok-procs.procs) in
    let structs : c.in_ok-structs.structs ≡ structs_used c.args.program.now.structs c.in_ok-procs.procs c.args.callees =
    c.in_ok-structs.ensures ∙ (ap (λ s. structs_used s c.deref-2.result.now c.deref-3.result.now) c.deref.ensures ∙
    (ap (λ f. structs_used c.args.program.now.structs f c.deref-3.result.now) c.deref-2.ensures
    ∙ ap (structs_used c.args.program.now.structs c.in_ok-procs.procs) c.deref-3.ensures)) in
    let recursive_is = recursive ∙ ap is_recursive c.in_ok-procs.ensures in
    let structs_are = structs ∙ ap (λ f. structs_used c.args.program.now.structs f c.args.callees) c.in_ok-procs.ensures in
    λ i. record { recursive = recursive_is i; procs = c.in_ok-procs.ensures i; structs = structs_are i; callees = c.args.callees }
