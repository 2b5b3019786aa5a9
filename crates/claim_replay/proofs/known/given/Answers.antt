use Rattle.std.proofs.Common.{◌≡◌, ◌∙◌, ◌+◌, map, sym, subst, get_or, drop}
use Rattle.std.proofs.lemmas.List.{drop_all, get_or_default}
use Rattle.component_keys.specs.Keys.{flows_of}
use Rattle.composed_keys.specs.declared.rows.Outer.{Outer}
use Rattle.claim_replay.specs.Values.{given_rows, slot_value}
use Rattle.claim_replay.proofs.Knowing.{given_more, given_none, given_all, prepended}
use Rattle.claim_replay.proofs.known.given.Goals as goal

pub loop-one-preserved : goal.loop-one-preserved
loop-one-preserved c =
    let one : Outer = get_or c.args.outer.now c.loop-one.one-index (record { number = 0; component = 0 }) in
    subst (λ l. given_rows (flows_of c.args.program.now) (map slot_value c.args.slots.now) c.args.known.now c.args.outer.now ≡
    prepended l (given_rows (flows_of c.args.program.now) (map slot_value c.args.slots.now) c.args.known.now
    (drop (c.loop-one.one-index + 1) c.args.outer.now))) (sym c.in_ok-push-in-Some.ensures.ok)
    (given_more (flows_of c.args.program.now)
    (map slot_value c.args.slots.now) c.args.known.now c.args.outer.now c.loop-one.one-index one c.loop-one.callees c.in-Some.callee
    c.loop-one-test.true
    (get_or_default c.args.outer.now c.loop-one.one-index
    (record { number = 0; component = 0 }) one c.loop-one-test.true) c.loop-one.invariant (sym c.in_ok-callee.ensures ∙ c.in-Some.is))

pub returns-in-None : goal.returns-in-None
returns-in-None c =
    let one : Outer = get_or c.args.outer.now c.loop-one.one-index (record { number = 0; component = 0 }) in
    sym (given_none (flows_of c.args.program.now)
    (map slot_value c.args.slots.now) c.args.known.now c.args.outer.now c.loop-one.one-index one c.loop-one.callees c.loop-one-test.true
    (get_or_default c.args.outer.now c.loop-one.one-index
    (record { number = 0; component = 0 }) one c.loop-one-test.true) c.loop-one.invariant (sym c.in_ok-callee.ensures ∙ c.in-None.is))

pub returns : goal.returns
returns c =
    sym (given_all (flows_of c.args.program.now)
    (map slot_value c.args.slots.now) c.args.known.now c.args.outer.now c.loop-one.one-index c.loop-one.callees
    (drop_all c.loop-one.one-index c.args.outer.now c.loop-one-test.false) c.loop-one.invariant)
