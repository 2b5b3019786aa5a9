use Rattle.std.proofs.Common.{◌≡◌, ◌∙◌, false, sym, ap}
use Rattle.component_keys.specs.Components.{same_names}
use Rattle.claim_laws.specs.World.{Slot}
use Rattle.claim_replay.specs.declared.world.Slot.{Slot as SlotRow}
use Rattle.claim_replay.specs.Values.{slot_value}
use Rattle.claim_replay.proofs.FirstPassing.{below_next, mapped_first, mapped_none}
use Rattle.claim_replay.proofs.known.slot_place.Goals as goal

pub loop-place-preserved : goal.loop-place-preserved
loop-place-preserved c =
    below_next (λ (slot : SlotRow). same_names slot.members c.args.members.now
    ≡ false) c.args.slots.now c.loop-place.place c.index-slots-place.result c.loop-place-test.true c.index-slots-place.is
    c.loop-place.invariant
    (ap (λ names. same_names names c.args.members.now) (sym c.deref.ensures) ∙ sym c.are_same_names.ensures ∙ c.if-are_same_names.false)

pub returns-then-are_same_names : goal.returns-then-are_same_names
returns-then-are_same_names c =
    mapped_first slot_value
    (λ (slot : Slot). same_names slot.members c.args.members.now) c.args.slots.now c.loop-place.place c.index-slots-place.result
    c.loop-place-test.true c.index-slots-place.is
    c.loop-place.invariant
    (ap (λ names. same_names names c.args.members.now) (sym c.deref.ensures) ∙ sym c.are_same_names.ensures ∙ c.if-are_same_names.true)

pub returns : goal.returns
returns c =
    mapped_none slot_value
    (λ (slot : Slot). same_names slot.members c.args.members.now) c.args.slots.now c.loop-place.place c.loop-place-test.false
    c.loop-place.invariant
