use Rattle.std.proofs.Common.{◌∙◌, map, ap}
use Rattle.component_keys.specs.Keys.{flows_of, names_of}
use Rattle.std.specs.List.{filter_map}
use Rattle.std.specs.Prelude.{slice_get}
use Rattle.claim_laws.specs.World.{settled_by, slot_of}
use Rattle.claim_replay.specs.Values.{slot_value}
use Rattle.claim_replay.proofs.known.standing_of.Goals as goal

pub returns-clause-settled : goal.returns-clause-settled
returns-clause-settled c =
    c.settling-settled.ensures ∙
    ap (λ o. settled_by o c.match-callees.due)
    (c.slot_place.ensures
    ∙ ap (slot_of (map slot_value c.args.slots.now))
    (c.deref-3.ensures ∙ c.in_ok-names.ensures
    ∙ ap (λ l. names_of (filter_map (slice_get (flows_of c.args.program.now)) l)) c.deref.ensures.value))
