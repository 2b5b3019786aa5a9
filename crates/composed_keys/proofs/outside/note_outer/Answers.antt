-- One caller more.
use Rattle.std.proofs.Common.{◌≡◌, ◌<◌, ◌∙◌, length, map, get_or, ap, arith}
use Rattle.std.specs.Prelude.{slice_index_or}
use Rattle.std.proofs.lemmas.List.{length-map}
use Rattle.composed_keys.specs.declared.rows.Component.{Component as Row}
use Rattle.composed_keys.specs.Outside.{outers}
use Rattle.composed_keys.proofs.Called.{more_put_by}
use Rattle.composed_keys.proofs.outside.note_outer.Goals as goal

pub loop-caller-preserved : goal.loop-caller-preserved
loop-caller-preserved c =
    let caller : get_or c.args.callers.now c.loop-caller.caller-index 0 < length c.args.places.now =
    c.requires.callers c.loop-caller.caller-index 0 c.loop-caller-test.true in
    let place : slice_index_or c.args.places.now (get_or c.args.callers.now c.loop-caller.caller-index 0) 0 < length c.args.made.now.items =
    c.requires.places (get_or c.args.callers.now c.loop-caller.caller-index 0) 0 caller in
    let rows : length (outers c.loop-caller.made.items) ≡ length c.loop-caller.made.items =
    length-map c.loop-caller.made.items (λ (row : Row). row.outer.items) in
    let now : length (map (λ (row : Row). row.members.items) c.loop-caller.made.items) ≡ length c.loop-caller.made.items =
    length-map c.loop-caller.made.items (λ (row : Row). row.members.items) in
    let first : length (map (λ (row : Row). row.members.items) c.args.made.now.items) ≡ length c.args.made.now.items =
    length-map c.args.made.now.items (λ (row : Row). row.members.items) in
    let same : length (map (λ (row : Row). row.members.items) c.loop-caller.made.items)
    ≡ length (map (λ (row : Row). row.members.items) c.args.made.now.items) = ap length c.loop-caller.invariant.members in
    record {
      members = c.in_ok-note_at.ensures.members ∙ c.loop-caller.invariant.members;
      put =
          more_put_by c.args.places.now c.args.callers.now c.loop-caller.caller-index c.args.outer (outers c.args.made.now.items)
          (outers c.loop-caller.made.items) (outers c.note_at.new.made.items) c.loop-caller.invariant.put c.loop-caller-test.true
          (omega (arith, place, rows, now, first, same)) c.requires.ahead c.in_ok-note_at.ensures.outer;
    }
