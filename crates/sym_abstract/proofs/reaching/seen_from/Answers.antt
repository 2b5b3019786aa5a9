use Rattle.std.proofs.Common.{◌≡◌, ◌<◌, ◌-◌, ◌+◌, ◌∙◌, suc, arith, length, subst, sym}
use Rattle.abstraction_laws.specs.Reaching.{seen_from}
use Rattle.sym_abstract.proofs.SeenTurns.{HasSeen, no-items, seen-first, seen-last, seen-out, seen-turn}
use Rattle.sym_abstract.proofs.reaching.seen_from.Goals as goal
use Rattle.sym_abstract.proofs.reaching.seen_from.Goals.{else-loop-turn-test, then-loop-turn-test+in_ok-parted+then-is_empty}

pub loop-turn-init : goal.loop-turn-init
loop-turn-init c =
    let same : length c.args.atoms.items ≡ length c.args.atoms.items - 0 = omega arith in
    subst (λ n. HasSeen (seen_from c.args.locals.now c.args.atoms.items) n c.in_ok-seen.seen c.args.atoms.items) same
    (seen-first c.in_ok-seen.seen c.args.locals.now c.args.atoms.items c.in_ok-seen.ensures)

pub loop-turn-preserved : goal.loop-turn-preserved
loop-turn-preserved c =
    let low : c.loop-turn.turn < length c.args.atoms.items = omega (arith, c.loop-turn-test.true, c.len-turns.ensures) in
    let turns : length c.args.atoms.items - c.loop-turn.turn ≡ suc (length c.args.atoms.items - (c.loop-turn.turn + 1)) =
    omega (arith, low) in
    seen-turn (seen_from c.args.locals.now c.args.atoms.items)
    (length c.args.atoms.items -
    (c.loop-turn.turn
    + 1)) c.loop-turn.seen c.count_leads.new.counts c.loop-turn.left.items c.in_ok-parted.parted.kept.items c.in_ok-parted.parted.left.items
    (subst (λ n. HasSeen
    (seen_from c.args.locals.now c.args.atoms.items) n c.loop-turn.seen c.loop-turn.left.items) turns c.loop-turn.invariant)
    c.in_ok-parted.ensures.kept c.in_ok-parted.ensures.left (rw c.as_slice-in-loop-turn.ensures.value at c.in_ok-count_leads.ensures)

pub returns : goal.returns
returns c = elim c.loop-turn-test.branch [
  | else-loop-turn-test w ↦
      let none : length c.args.atoms.items - c.loop-turn.turn ≡ 0 = omega (arith, w.loop-turn-test.false, c.len-turns.ensures) in
      seen-out (seen_from c.args.locals.now c.args.atoms.items) c.loop-turn.seen c.loop-turn.left.items
      (subst (λ n. HasSeen
      (seen_from c.args.locals.now c.args.atoms.items) n c.loop-turn.seen c.loop-turn.left.items) none c.loop-turn.invariant)
  | then-loop-turn-test+in_ok-parted+then-is_empty w ↦
      seen-last (seen_from c.args.locals.now c.args.atoms.items)
      (length c.args.atoms.items - c.loop-turn.turn) c.loop-turn.seen c.loop-turn.left.items w.in_ok-parted.parted.kept.items
      c.loop-turn.invariant
      w.in_ok-parted.ensures.kept
      (no-items w.in_ok-parted.parted.kept.items (rw w.as_slice.ensures.value at (sym w.is_empty.ensures ∙ w.if-is_empty.true)))
]
