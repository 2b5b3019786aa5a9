-- Who calls whom in a program is a graph of calls.
use Rattle.std.proofs.Common.{◌≡◌, ◌<◌, ◌∙◌, length, sym, ap, arith}
use Rattle.std.proofs.lemmas.Result.{IfOk-weaker}
use Rattle.component_keys.specs.Components.{by_name}
use Rattle.component_keys.specs.Keys.{calls_in, flows_of, names_of}
use Rattle.call_components.specs.Reaching.{rows}
use Rattle.composed_keys.proofs.Components.{calls_told, graph, names_length, names_told, rows_are, rows_within}
use Rattle.composed_keys.proofs.programs.components_of.Goals as goal

pub calls_in-requires : goal.calls_in-requires
calls_in-requires c = c.deref-3.ensures.value
    ∙ (c.in_ok-order.ensures ∙ ap (λ n. by_name n (length n)) (c.deref.ensures.value ∙ sym c.deref-2.ensures.value))

pub components_in-requires-clause-small : goal.components_in-requires-clause-small
components_in-requires-clause-small c =
    let names : c.deref-4.result.now
    ≡ names_of (flows_of c.args.program.now) =
    names_told c.args.program.now _ c.in_ok-names.names.items c.deref-4.result.now c.as_slice-procs.ensures c.in_ok-names.ensures
    c.deref-4.ensures.value in
    let seen : c.deref-2.result.now
    ≡ names_of (flows_of c.args.program.now) =
    names_told c.args.program.now _ c.in_ok-names.names.items c.deref-2.result.now c.as_slice-procs.ensures c.in_ok-names.ensures
    c.deref-2.ensures.value in
    let calls : rows c.deref-6.result.now ≡ calls_in (flows_of c.args.program.now) =
    calls_told c.args.program.now _ c.deref-2.result.now (rows c.in_ok-calls.calls.items)
    (rows c.deref-6.result.now) c.as_slice-procs.ensures seen c.in_ok-calls.ensures (ap rows c.deref-6.ensures.value) in
    let lengths : length c.deref-4.result.now ≡ length c.args.program.now.procs =
    names_length c.args.program.now c.requires c.deref-4.result.now c.deref-6.result.now names calls in
    let few : length c.args.program.now.procs < 4294967296 = c.requires.countable in
    omega (arith, lengths, few)

pub components_in-requires-clause-graph : goal.components_in-requires-clause-graph
components_in-requires-clause-graph c =
    let names : c.deref-4.result.now
    ≡ names_of (flows_of c.args.program.now) =
    names_told c.args.program.now _ c.in_ok-names.names.items c.deref-4.result.now c.as_slice-procs.ensures c.in_ok-names.ensures
    c.deref-4.ensures.value in
    let seen : c.deref-2.result.now
    ≡ names_of (flows_of c.args.program.now) =
    names_told c.args.program.now _ c.in_ok-names.names.items c.deref-2.result.now c.as_slice-procs.ensures c.in_ok-names.ensures
    c.deref-2.ensures.value in
    let calls : rows c.deref-6.result.now ≡ calls_in (flows_of c.args.program.now) =
    calls_told c.args.program.now _ c.deref-2.result.now (rows c.in_ok-calls.calls.items)
    (rows c.deref-6.result.now) c.as_slice-procs.ensures seen c.in_ok-calls.ensures (ap rows c.deref-6.ensures.value) in
    graph c.args.program.now c.requires c.deref-4.result.now c.deref-6.result.now names calls

pub components_in-requires-clause-order : goal.components_in-requires-clause-order
components_in-requires-clause-order c = c.deref-5.ensures.value
    ∙ (c.in_ok-order.ensures ∙ ap (λ n. by_name n (length n)) (c.deref.ensures.value ∙ sym c.deref-4.ensures.value))

pub returns-clause-are : goal.returns-clause-are
returns-clause-are c =
    let names : c.deref-4.result.now
    ≡ names_of (flows_of c.args.program.now) =
    names_told c.args.program.now _ c.in_ok-names.names.items c.deref-4.result.now c.as_slice-procs.ensures c.in_ok-names.ensures
    c.deref-4.ensures.value in
    let seen : c.deref-2.result.now
    ≡ names_of (flows_of c.args.program.now) =
    names_told c.args.program.now _ c.in_ok-names.names.items c.deref-2.result.now c.as_slice-procs.ensures c.in_ok-names.ensures
    c.deref-2.ensures.value in
    let calls : rows c.deref-6.result.now ≡ calls_in (flows_of c.args.program.now) =
    calls_told c.args.program.now _ c.deref-2.result.now (rows c.in_ok-calls.calls.items)
    (rows c.deref-6.result.now) c.as_slice-procs.ensures seen c.in_ok-calls.ensures (ap rows c.deref-6.ensures.value) in
    IfOk-weaker c.components_in.result _ _
    (λ made are. rows_are c.args.program.now c.requires c.deref-4.result.now c.deref-6.result.now names calls made.items are)
    c.components_in.ensures

pub returns-clause-within : goal.returns-clause-within
returns-clause-within c =
    let names : c.deref-4.result.now
    ≡ names_of (flows_of c.args.program.now) =
    names_told c.args.program.now _ c.in_ok-names.names.items c.deref-4.result.now c.as_slice-procs.ensures c.in_ok-names.ensures
    c.deref-4.ensures.value in
    let seen : c.deref-2.result.now
    ≡ names_of (flows_of c.args.program.now) =
    names_told c.args.program.now _ c.in_ok-names.names.items c.deref-2.result.now c.as_slice-procs.ensures c.in_ok-names.ensures
    c.deref-2.ensures.value in
    let calls : rows c.deref-6.result.now ≡ calls_in (flows_of c.args.program.now) =
    calls_told c.args.program.now _ c.deref-2.result.now (rows c.in_ok-calls.calls.items)
    (rows c.deref-6.result.now) c.as_slice-procs.ensures seen c.in_ok-calls.ensures (ap rows c.deref-6.ensures.value) in
    IfOk-weaker c.components_in.result _ _
    (λ made are. rows_within c.args.program.now c.requires c.deref-4.result.now c.deref-6.result.now names calls made.items are)
    c.components_in.ensures
