-- One callee more.
use Rattle.std.proofs.Common.{◌≡◌, ◌<◌, ◌+◌, ◌++◌, ◌∷◌, [], ◌∙◌, ℕ, length, get_or, take, set, sym, ap, subst, arith}
use Rattle.std.specs.Prelude.{slice_index_or}
use Rattle.std.proofs.lemmas.List.{length-map, length-set, map-set}
use Rattle.call_components.specs.Reaching.{rows}
use Rattle.call_components.proofs.Walk.{row_of}
use Rattle.composed_keys.specs.Outside.{AreNoted}
use Rattle.composed_keys.proofs.Called.{more_noted}
use Rattle.composed_keys.proofs.outside.note_caller.Goals as goal

pub loop-callee-preserved : goal.loop-callee-preserved
loop-callee-preserved c =
    let one : ℕ = get_or c.args.callees.now c.loop-callee.callee-index 0 in
    let below : one < length c.args.callers.now.items = c.requires c.loop-callee.callee-index 0 c.loop-callee-test.true in
    let lengths : length c.loop-callee.callers.items ≡ length c.args.callers.now.items = c.loop-callee.invariant.lengths in
    let same : length (rows c.loop-callee.callers.items) ≡ length c.loop-callee.callers.items =
    length-map c.loop-callee.callers.items (λ row. row.items) in
    let row : c.push.new.self.items ≡ slice_index_or (rows c.loop-callee.callers.items) one [] ++ c.args.caller ∷ [] =
    c.in_ok-push.ensures.items
    ∙ ap (λ l. l ++ c.args.caller ∷ [])
    (sym (row_of c.loop-callee.callers.items one c.index_mut.result.now (omega (arith, below, lengths)) c.index_mut.ensures.value)) in
    record {
      lengths = length-set c.loop-callee.callers.items one c.push.new.self ∙ lengths;
      noted = subst (AreNoted (take (c.loop-callee.callee-index + 1) c.args.callees.now) c.args.caller (rows c.args.callers.now.items))
          (sym (map-set (λ row. row.items) c.loop-callee.callers.items one c.push.new.self
          ∙ ap (set (rows c.loop-callee.callers.items) one) row))
          (more_noted c.args.callees.now c.loop-callee.callee-index c.args.caller (rows c.args.callers.now.items)
          (rows c.loop-callee.callers.items) c.loop-callee.invariant.noted c.loop-callee-test.true (omega (arith, below, lengths, same)));
    }
