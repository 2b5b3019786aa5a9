use Rattle.std.proofs.Common.{◌≡◌, ◌∙◌, List, length, map, filter, get_or, refl, sym, ap, subst}
use Rattle.std.proofs.lemmas.Option.{slice_get-get_or}
use Rattle.shape_data.specs.declared.program.Program.{Program}
use Rattle.component_keys.specs.Keys.{flows_of, program_components}
use Rattle.component_keys.specs.Tests.{program_test}
use Rattle.composed_keys.specs.declared.rows.Component.{Component}
use Rattle.composed_keys.specs.Rows.{component_value, AreWithin}
use Rattle.claim_replay.specs.Values.{is_of_rows, slot_value}
use Rattle.claim_replay.proofs.Happening.{revised}
use Rattle.claim_replay.proofs.replaying.revise.Goals as goal

pub present_slots-requires : goal.present_slots-requires
present_slots-requires c = λ k d lt.
    let within : AreWithin (length c.deref-6.result.now.procs) c.deref-7.result.now =
    subst (λ l. AreWithin (length c.deref-6.result.now.procs) l) (sym c.deref-7.ensures.value)
    (subst (λ (p : Program). AreWithin (length p.procs) c.in_ok-rows.rows.items) (c.deref-3.ensures ∙ sym c.deref-6.ensures)
    c.in_ok-rows.ensures.within) in
    (within k (get_or c.deref-7.result.now k d) (slice_get-get_or c.deref-7.result.now k d lt)).members

pub returns-clause-world : goal.returns-clause-world
returns-clause-world c =
    revised c.args.present.world
    (record {
      revision = c.args.revision;
      program = c.in_ok-share.field-0;
      slots = c.in_ok-slots.slots;
      out = c.args.present.world.out;
      made = c.args.present.world.made;
    })
    c.args.revision c.args.program.now.value c.in_ok-rows.rows.items
    (ap (λ p. program_test.0 p c.args.present.world.program.value) (sym c.deref.ensures)
    ∙ ap (λ p. program_test.0 c.deref.result.now p) (sym c.deref-2.ensures) ∙ sym c.same_program.ensures ∙ c.if-same_program.false)
    (sym c.is_next.ensures ∙ c.if-not-is_next.false)
    (subst (λ (p : Program). map (component_value (flows_of p)) c.in_ok-rows.rows.items
    ≡ program_components p) c.deref-3.ensures c.in_ok-rows.ensures.are)
    refl c.in_ok-share.ensures
    (subst (λ (l : List Component). map slot_value c.in_ok-slots.slots
    ≡ filter (is_of_rows c.args.program.now.value l) (map slot_value c.args.present.world.slots)) c.deref-7.ensures.value
    (subst (λ (p : Program). map slot_value c.in_ok-slots.slots
    ≡ filter (is_of_rows p c.deref-7.result.now) (map slot_value c.args.present.world.slots)) c.deref-6.ensures c.in_ok-slots.ensures))
    refl refl
