-- The callees of one caller more.
use Rattle.std.proofs.Common.{◌≡◌, ◌<◌, ◌∙◌, true, length, get_or, sym, subst, arith}
use Rattle.std.proofs.lemmas.List.{length-map}
use Rattle.std.proofs.lemmas.Option.{slice_get-get_or}
use Rattle.component_keys.specs.Components.{calls_of, holds}
use Rattle.component_keys.proofs.Reach.{holds_at}
use Rattle.call_components.specs.Reaching.{rows}
use Rattle.composed_keys.specs.Outside.{AreNoted}
use Rattle.composed_keys.proofs.Called.{more_callers}
use Rattle.composed_keys.proofs.outside.callers_of.Goals as goal

pub note_caller-requires : goal.note_caller-requires
note_caller-requires c = λ k d lt.
    let held : holds (calls_of (rows c.args.calls.now) c.loop-caller.caller) (get_or c.callees_of.result.now k d) ≡ true =
    subst (λ l. holds l (get_or c.callees_of.result.now k d) ≡ true) c.callees_of.ensures
    (holds_at c.callees_of.result.now k (get_or c.callees_of.result.now k d) (slice_get-get_or c.callees_of.result.now k d lt)) in
    let below : get_or c.callees_of.result.now k d < length (rows c.args.calls.now) =
    c.requires.defined c.loop-caller.caller (get_or c.callees_of.result.now k d) held in
    subst (λ n. get_or c.callees_of.result.now k d < n)
    (length-map c.args.calls.now (λ row. row.items) ∙ sym c.loop-caller.invariant.lengths) below

pub loop-caller-preserved : goal.loop-caller-preserved
loop-caller-preserved c =
    let less : c.loop-caller.caller < length c.args.calls.now = c.loop-caller-test.true in
    let same : length (rows c.args.calls.now) ≡ length c.args.calls.now = length-map c.args.calls.now (λ row. row.items) in
    record {
      lengths = c.in_ok-note_caller.ensures.lengths ∙ c.loop-caller.invariant.lengths;
      callers =
          more_callers (rows c.args.calls.now) c.loop-caller.caller (rows c.loop-caller.callers.items)
          (rows c.note_caller.new.callers.items) c.loop-caller.invariant.callers (omega (arith, less, same))
          (subst (λ l. AreNoted l c.loop-caller.caller (rows c.loop-caller.callers.items)
          (rows c.note_caller.new.callers.items)) c.callees_of.ensures c.in_ok-note_caller.ensures.noted);
    }
