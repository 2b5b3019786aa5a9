use Rattle.std.proofs.Common.{◌-◌, sym, ◌∙◌, arith, ⊎_elim}
use Rattle.std.proofs.lemmas.Bool.Decides.{leb_tells}
use Rattle.c_lower_emit.proofs.Runs.{within_run, below_run, above_run}
use Rattle.c_lower_emit.proofs.visible_slots.Run.has.Goals as goal

pub returns-then-self-slot : goal.returns-then-self-slot
returns-then-self-slot c =
    let low = c.if-self-slot.true in
    let first = c.args.self.first in
    let more = c.args.self.more in
    ⊎_elim (λ t. t.0 ∙ sym (within_run first more c.args.slot low (omega (arith, low, t.1))))
    (λ t. t.0 ∙ sym (above_run first more c.args.slot (omega (arith, low, t.1)))) (leb_tells (c.args.slot - first) more)

pub returns-else-self-slot : goal.returns-else-self-slot
returns-else-self-slot c =
    let low = c.if-self-slot.false in
    let first = c.args.self.first in
    ⊎_elim (λ t. absurd (omega (arith, low, t.1))) (λ t. t.0 ∙ sym (below_run first c.args.self.more c.args.slot t.1))
    (leb_tells first c.args.slot)
