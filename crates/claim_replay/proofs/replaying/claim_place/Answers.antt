use Rattle.std.specs.Prelude.{◌==◌}
use Rattle.std.proofs.lemmas.Bool.Decides.{Decides-eqb}
use Rattle.claim_laws.specs.World.{Out}
use Rattle.claim_replay.specs.Values.{out_value}
use Rattle.claim_replay.proofs.FirstPassing.{mapped_first, mapped_none}
use Rattle.claim_replay.proofs.replaying.claim_place.Goals as goal

pub returns-then-claim-number-clause-claim : goal.returns-then-claim-number-clause-claim
returns-then-claim-number-clause-claim c =
    mapped_first out_value
    (λ (claim : Out). claim.number
    == c.args.number) c.args.out.now c.loop-place.place c.index-out-place.result c.loop-place-test.true c.index-out-place.is
    c.loop-place.invariant
    ((Decides-eqb c.index-out-place.result.number c.args.number).1 c.if-claim-number.true)

pub returns-clause-claim : goal.returns-clause-claim
returns-clause-claim c =
    mapped_none out_value
    (λ (claim : Out). claim.number == c.args.number) c.args.out.now c.loop-place.place c.loop-place-test.false c.loop-place.invariant
