use Rattle.store_json.proofs.EntryLemmas.{turn}
use Rattle.store_json.proofs.entries.read_entries.Goals as goal

pub loop-value-preserved : goal.loop-value-preserved
loop-value-preserved c =
    turn c.args.values.now c.loop-value.value-index c.value-item.result c.loop-value.entries c.push.new.self c.in-Some.entry
    c.loop-value-test.true c.value-item.is c.in_ok-push-in-Some.ensures.ok c.loop-value.invariant (rw c.in-Some.is at c.in_ok-entry.ensures)
