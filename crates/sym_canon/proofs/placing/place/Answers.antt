-- Each turn is one of the definition.
use Rattle.std.proofs.Common.{◌≡◌, ◌∙◌, ◌+◌, ◌-◌, ◌<◌, ◌≤◌, sym, ap, length, arith, ◌++◌, List, position}
use Rattle.shape_data.specs.declared.symbolic.Atom.{Atom}
use Rattle.shape_data.specs.declared.symbolic.Exp.{Exp}
use Rattle.sym_canon.specs.Placing.{place, place_at, places_some}
use Rattle.sym_canon.proofs.PlacingTurns.{turn_placed, all_placed}
use Rattle.sym_canon.proofs.placing.place.Goals as goal

pub loop-done-preserved : goal.loop-done-preserved
loop-done-preserved c =
    let inside : c.loop-done.done < length c.args.left.items = omega (arith, c.len-turns.ensures) in
    let told : (again : List Exp → List Atom → List Atom)
    → place_at again c.loop-done.queue.items c.loop-done.left.items
    (position (places_some c.loop-done.left.items) c.loop-done.queue.items)
    ≡ c.in_ok-turn.turn.placed.items ++ again c.in_ok-turn.turn.queue.items c.in_ok-turn.turn.left.items =
    rw c.as_slice.ensures.value at c.in_ok-turn.ensures in
    c.loop-done.invariant
    ∙ (turn_placed
    (length c.args.left.items) c.loop-done.done c.loop-done.queue.items c.in_ok-turn.turn.queue.items c.loop-done.left.items
    c.in_ok-turn.turn.left.items c.in_ok-turn.turn.placed.items c.loop-done.all.items inside told
    ∙ ap (λ all. all
    ++ place (length c.args.left.items - (c.loop-done.done + 1)) c.in_ok-turn.turn.queue.items c.in_ok-turn.turn.left.items)
    (sym c.in_ok-add_all.ensures))

pub returns : goal.returns
returns c =
    let past : length c.args.left.items ≤ c.loop-done.done = omega (arith, c.len-turns.ensures) in
    c.in_ok-add_all-2.ensures
    ∙ sym (c.loop-done.invariant
    ∙ ap (λ rest. c.loop-done.all.items ++ rest)
    (all_placed (length c.args.left.items) c.loop-done.done c.loop-done.queue.items c.loop-done.left.items past))
