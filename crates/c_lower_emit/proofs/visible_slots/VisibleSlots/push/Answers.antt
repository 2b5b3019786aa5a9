use Rattle.std.proofs.Common.{◌≡◌, ◌-◌, ◌∷◌, length, ap, ◌∙◌, arith, rules}
use Rattle.c_lower_emit.specs.VisibleSlots.{slots_in}
use Rattle.c_lower_emit.proofs.Runs.{last_first, last_longer}
use Rattle.c_lower_emit.proofs.visible_slots.VisibleSlots.push.Goals as goal

pub returns-in-Some-clause-more : goal.returns-in-Some-clause-more
returns-in-Some-clause-more c =
    let runs = c.self.inside.runs.items in
    let count : c.len-count.result ≡ length runs = search rules in
    last_longer runs (c.len-count.result - 1) c.in-Some.run' c.index.result.now c.args.slot (omega (arith, count, c.if-count-gt0.true))
    c.index.ensures c.in-Some.ensures
    ∙ ap (λ ns. c.args.slot ∷ ns) c.self.view_is

pub returns-clause-more : goal.returns-clause-more
returns-clause-more c =
    ap slots_in c.in_ok-push.ensures.items ∙ last_first c.self.inside.runs.items (record { first = c.args.slot; more = 0 })
    ∙ ap (λ ns. c.args.slot ∷ ns) c.self.view_is
