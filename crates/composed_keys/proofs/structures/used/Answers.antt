-- The walk goes from the structures that are named along those that fields point to.
use Rattle.std.proofs.Common.{◌≡◌, ◌<◌, ◌∙◌, All, length, map, sym, ap, subst}
use Rattle.std.proofs.lemmas.List.{length-map}
use Rattle.std.proofs.lemmas.Result.{IfOk-weaker}
use Rattle.component_keys.specs.Structures.{pointed_by}
use Rattle.call_components.specs.Reaching.{AreDefined, rows}
use Rattle.call_components.proofs.Naming.{by_name_below}
use Rattle.shape_data.specs.declared.program.StructDef.{StructDef}
use Rattle.std.specs.List.{flat_map}
use Rattle.std.proofs.Common.{◌++◌}
use Rattle.component_keys.specs.Structures.{named_by_callee, named_by_flow, named_numbers}
use Rattle.composed_keys.proofs.Noted.{numbers_below, order_is, pointed_defined, shown_at, used_are}
use Rattle.composed_keys.proofs.structures.used.Goals as goal

pub reach-requires-clause-starts : goal.reach-requires-clause-starts
reach-requires-clause-starts c =
    let count : length c.args.structs.now ≡ length c.deref-3.result.now =
    sym (length-map c.args.structs.now (pointed_by c.args.structs.now)) ∙ ap length (sym c.requires.pointed)
    ∙ length-map c.args.table.now.pointed.items (λ row. row.items) ∙ ap length (sym c.deref-3.ensures.value) in
    let numbers : c.deref-4.result.now ≡ named_numbers c.args.structs.now c.args.flows.now c.args.callees.now =
    c.deref-4.ensures.value ∙ c.in_ok-numbers.ensures ∙ ap (λ l. named_numbers l c.args.flows.now c.args.callees.now) c.new-index.ensures in
    subst (λ n. All (λ number. number < n) c.deref-4.result.now) count
    (subst (All (λ number. number < length c.args.structs.now)) (sym numbers)
    (numbers_below c.args.structs.now (flat_map named_by_flow c.args.flows.now ++ flat_map named_by_callee c.args.callees.now)))

pub reach-requires-clause-defined : goal.reach-requires-clause-defined
reach-requires-clause-defined c =
    subst AreDefined (sym (ap rows c.deref-3.ensures.value ∙ c.requires.pointed)) (pointed_defined c.args.structs.now)

pub marked_structs-requires : goal.marked_structs-requires
marked_structs-requires c =
    subst (All (λ number. number < length c.args.structs.now))
    (sym (c.deref-5.ensures.value ∙ order_is c.args.structs.now _ _ c.requires.ordered))
    (by_name_below (map (λ (def : StructDef). def.name) c.args.structs.now) (length c.args.structs.now))

pub returns : goal.returns
returns c =
    let numbers : c.deref-4.result.now ≡ named_numbers c.args.structs.now c.args.flows.now c.args.callees.now =
    c.deref-4.ensures.value ∙ c.in_ok-numbers.ensures ∙ ap (λ l. named_numbers l c.args.flows.now c.args.callees.now) c.new-index.ensures in
    IfOk-weaker c.marked_structs.result _ _
    (λ used is.
    is ∙ ap (λ m. shown_at c.args.structs.now m c.deref-5.result.now) c.deref-6.ensures.value ∙
    used_are c.args.structs.now c.args.flows.now c.args.callees.now c.deref-4.result.now c.deref-5.result.now c.in_ok-marks.marks.items
    (rows c.deref-3.result.now) (ap rows c.deref-3.ensures.value ∙ c.requires.pointed)
    numbers (c.deref-5.ensures.value ∙ order_is c.args.structs.now _ _ c.requires.ordered) c.in_ok-marks.ensures) c.marked_structs.ensures
