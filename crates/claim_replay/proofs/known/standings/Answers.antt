use Rattle.std.proofs.Common.{◌∙◌, ◌+◌, map, length, sym, subst, ap}
use Rattle.std.specs.Option.{option_map}
use Rattle.std.specs.List.{filter_map}
use Rattle.std.specs.Prelude.{slice_get}
use Rattle.std.proofs.lemmas.List.{length_push}
use Rattle.component_keys.specs.Keys.{flows_of, key_over}
use Rattle.claim_replay.specs.Values.{AreKnownFor, given_rows, slot_value}
use Rattle.claim_replay.proofs.Knowing.{known_more}
use Rattle.claim_replay.proofs.known.standings.Goals as goal

pub loop-row-preserved : goal.loop-row-preserved
loop-row-preserved c = record {
  len = ap length c.in_ok-push.ensures.items ∙ length_push c.loop-row.known.items c.in_ok-standing.standing
      ∙ ap (λ n. n + 1) c.loop-row.invariant.len;
  are =
      let due = c.in_ok-standing.ensures.due in
      subst (AreKnownFor c.args.program.now (map slot_value c.args.slots.now)) (sym c.in_ok-push.ensures.items)
      (known_more c.args.program.now c.args.rows.now c.args.structures.now
      (map slot_value c.args.slots.now) c.loop-row.known.items c.loop-row.row-index c.row-item.result c.in_ok-standing.standing c.requires
      c.loop-row.invariant.len c.loop-row-test.true c.row-item.is
      (due ∙ ap (λ l. option_map
      (key_over c.args.program.now.structs (filter_map (slice_get (flows_of c.args.program.now)) c.row-item.result.members.items))
      (given_rows (flows_of c.args.program.now) (map slot_value c.args.slots.now) l c.row-item.result.outer.items)) c.deref.ensures.value)
      c.in_ok-standing.ensures.settled c.loop-row.invariant.are);
}

pub returns-clause-are : goal.returns-clause-are
returns-clause-are c = c.loop-row.invariant.are
