-- Each component adds its turn to what was seen.
use Rattle.std.proofs.Common.{◌≡◌, ◌<◌, ◌+◌, ◌∙◌, length, slice_set, sym, ap, subst, Some, None, arith, true}
use Rattle.call_components.specs.Reaching.{marked}
use Rattle.claim_core.specs.Told.{events_of}
use Rattle.claim_laws.specs.Logs.{replay}
use Rattle.summary_book.specs.Found.{lesser}
use Rattle.summary_book.specs.Settled.{IsExactAt}
use Rattle.summary_book.proofs.RowLengths.{seen_end, seen_for, standings_count, within_marks}
use Rattle.summary_book.proofs.Search.{all_marked, exact_at, free_first, marked_still, nothing_left, seen_blocked, seen_marked, seen_out}
use Rattle.summary_book.proofs.Search.{seen_outside, seen_settled, waiting}
use Rattle.summary_book.proofs.turns.first_free.Goals.{in-Settled, in-Blocked, in-Out}
use Rattle.summary_book.proofs.turns.first_free.Goals as goal

pub loop-place-preserved-then-not-is_marked : goal.loop-place-preserved-then-not-is_marked
loop-place-preserved-then-not-is_marked c = record {
  seen =
      seen_outside (replay (events_of c.args.log.now))
      (marked c.args.aim.now) c.loop-place.marks.items c.loop-place.least c.loop-place.place c.loop-place.invariant.seen
      (sym c.is_marked.ensures ∙ c.if-not-is_marked.true);
  stay = c.loop-place.invariant.stay;
}

pub loop-place-preserved-then-is_marked : goal.loop-place-preserved-then-is_marked
loop-place-preserved-then-is_marked c = record {
  seen =
      seen_marked (replay (events_of c.args.log.now))
      (marked c.args.aim.now) c.loop-place.marks.items c.loop-place.least c.loop-place.place c.loop-place.invariant.seen
      (ap (λ m. marked m c.loop-place.place) (sym c.deref.ensures.value) ∙ sym c.is_marked-in-loop-place.ensures ∙ c.if-is_marked.true);
  stay = c.loop-place.invariant.stay;
}

pub turn_of-requires-clause-exact : goal.turn_of-requires-clause-exact
turn_of-requires-clause-exact c =
    subst (λ m. IsExactAt (replay (events_of c.args.log.now)) m c.loop-place.place) (sym c.deref-in-loop-place.ensures.value)
    (exact_at (replay (events_of c.args.log.now))
    (marked c.args.aim.now) c.loop-place.marks.items c.loop-place.least c.loop-place.place c.requires.aim c.loop-place.invariant.seen
    (sym c.is_marked.ensures ∙ c.if-not-is_marked.false))

pub returns-in-Free-clause-found : goal.returns-in-Free-clause-found
returns-in-Free-clause-found c =
    let e = c.in-Free.ensures in
    let first =
    free_first (replay (events_of c.args.log.now))
    (marked c.args.aim.now) c.loop-place.marks.items c.loop-place.least c.loop-place.place in
    (e.0, first e.0 c.loop-place.invariant.seen (sym c.is_marked.ensures ∙ c.if-not-is_marked.false) e.1)

pub loop-place-preserved : goal.loop-place-preserved
loop-place-preserved c =
    let log = c.args.log.now in
    let world = replay (events_of log) in
    let aim = marked c.args.aim.now in
    let marks = c.loop-place.marks.items in
    let place = c.loop-place.place in
    let end : place
    < length c.args.parts.now.components.items =
    (let lt = c.loop-place-test.true in let e = c.len-place-end.ensures in let f = c.args.parts.now.components.ok.0 in omega
    (arith, lt, e, f)) in
    let within =
    within_marks log c.args.parts.now c.args.slots.now c.requires.sight marks place c.loop-place.invariant.seen.marks_are end in
    let reached = sym c.is_marked.ensures ∙ c.if-not-is_marked.false in
    elim c.match-turn_of.branch [
      | in-Settled w ↦ record {
        seen =
            seen_for log c.args.parts.now c.args.slots.now c.requires.sight aim
            (slice_set marks place true) c.match-turn_of.marks.items c.loop-place.least c.match-turn_of.least (place + 1)
            (seen_settled world aim marks c.loop-place.least place within c.loop-place.invariant.seen w.in-Settled.ensures)
            (ap (λ v. v.items) w.marks-is) w.least-is;
        stay = λ other mark. ap (λ v. marked v.items other) w.marks-is
            ∙ marked_still marks place other within (c.loop-place.invariant.stay other mark);
      }
      | in-Blocked w ↦ record {
        seen =
            seen_for log c.args.parts.now c.args.slots.now c.requires.sight aim marks c.match-turn_of.marks.items c.loop-place.least
            c.match-turn_of.least (place + 1)
            (seen_blocked world aim marks c.loop-place.least place c.loop-place.invariant.seen w.in-Blocked.ensures)
            (ap (λ v. v.items) w.marks-is) w.least-is;
        stay = λ other mark. ap (λ v. marked v.items other) w.marks-is ∙ c.loop-place.invariant.stay other mark;
      }
      | in-Out w ↦ record {
        seen =
            seen_for log c.args.parts.now c.args.slots.now c.requires.sight aim marks c.match-turn_of.marks.items
            (Some (lesser c.loop-place.least w.in-Out.number)) c.match-turn_of.least (place + 1)
            (seen_out (events_of log) aim marks c.loop-place.least place w.in-Out.number c.loop-place.invariant.seen reached
            w.in-Out.ensures) (ap (λ v. v.items) w.marks-is)
            (w.least-is ∙ ap (λ n. Some n) w.lesser.ensures);
        stay = λ other mark. ap (λ v. marked v.items other) w.marks-is ∙ c.loop-place.invariant.stay other mark;
      }
    ]

pub returns-in-Some-clause-found : goal.returns-in-Some-clause-found
returns-in-Some-clause-found c =
    let end : c.loop-place.place ≡ length c.args.parts.now.components.items =
    (let past = c.loop-place-test.false in
    let most = c.loop-place.auto.place-end in
    let e = c.len-place-end.ensures in
    let f = c.args.parts.now.components.ok.0 in
    omega (arith, past, most, e, f)) in
    waiting (replay (events_of c.args.log.now)) (marked c.args.aim.now) c.loop-place.marks.items c.in-Some.claim c.requires.aim
    (seen_end c.args.log.now c.args.parts.now c.args.slots.now c.requires.sight
    (marked c.args.aim.now) c.loop-place.marks.items c.loop-place.least
    (Some c.in-Some.claim) c.loop-place.place c.loop-place.invariant.seen end c.in-Some.is)

pub returns-in-None-clause-found : goal.returns-in-None-clause-found
returns-in-None-clause-found c =
    let end : c.loop-place.place ≡ length c.args.parts.now.components.items =
    (let past = c.loop-place-test.false in
    let most = c.loop-place.auto.place-end in
    let e = c.len-place-end.ensures in
    let f = c.args.parts.now.components.ok.0 in
    omega (arith, past, most, e, f)) in
    nothing_left (replay (events_of c.args.log.now)) (marked c.args.aim.now) c.loop-place.marks.items c.requires.aim
    (seen_end c.args.log.now c.args.parts.now c.args.slots.now c.requires.sight
    (marked c.args.aim.now) c.loop-place.marks.items c.loop-place.least None c.loop-place.place c.loop-place.invariant.seen end
    c.in-None.is)

pub returns-in-None-clause-all : goal.returns-in-None-clause-all
returns-in-None-clause-all c = λ found place lt reached.
    let end : c.loop-place.place ≡ length c.args.parts.now.components.items =
    (let past = c.loop-place-test.false in
    let most = c.loop-place.auto.place-end in
    let e = c.len-place-end.ensures in
    let f = c.args.parts.now.components.ok.0 in
    omega (arith, past, most, e, f)) in
    all_marked (replay (events_of c.args.log.now)) (marked c.args.aim.now) c.loop-place.marks.items c.requires.aim
    (seen_end c.args.log.now c.args.parts.now c.args.slots.now c.requires.sight
    (marked c.args.aim.now) c.loop-place.marks.items c.loop-place.least None c.loop-place.place c.loop-place.invariant.seen end
    c.in-None.is)
    place (let same = standings_count c.args.log.now c.args.parts.now c.args.slots.now c.requires.sight in omega (arith, lt, same)) reached
