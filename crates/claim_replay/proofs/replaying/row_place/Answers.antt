use Rattle.std.proofs.Common.{◌∙◌, ap, sym}
use Rattle.std.specs.List.{filter_map}
use Rattle.std.specs.Prelude.{slice_get}
use Rattle.component_keys.specs.Components.{same_names}
use Rattle.component_keys.specs.Keys.{flows_of, names_of}
use Rattle.composed_keys.specs.declared.rows.Component.{Component}
use Rattle.claim_replay.specs.Values.{row_names}
use Rattle.claim_replay.proofs.FirstPassing.{first_position, no_position}
use Rattle.claim_replay.proofs.replaying.row_place.Goals as goal

pub returns-then-are_same_names-clause-first : goal.returns-then-are_same_names-clause-first
returns-then-are_same_names-clause-first c =
    first_position
    (λ (row : Component). same_names
    (row_names c.args.program.now row) c.args.members.now) c.args.rows.now c.loop-place.place c.index-rows-place.result
    c.loop-place-test.true c.index-rows-place.is
    c.loop-place.invariant
    (ap (λ names. same_names names c.args.members.now)
    (sym (c.deref-in-loop-place.ensures ∙ c.in_ok-names.ensures
    ∙ ap (λ l. names_of (filter_map (slice_get (flows_of c.args.program.now)) l)) c.deref.ensures.value)) ∙
    sym c.are_same_names.ensures ∙ c.if-are_same_names.true)

pub returns-clause-first : goal.returns-clause-first
returns-clause-first c =
    no_position (λ (row : Component). same_names
    (row_names c.args.program.now row) c.args.members.now) c.args.rows.now c.loop-place.place c.loop-place-test.false
    c.loop-place.invariant
