use Rattle.std.proofs.Common.{◌∙◌, ap, length, refl, sym}
use Rattle.std.proofs.lemmas.Result.{IfOk-weaker}
use Rattle.claim_replay.specs.Values.{world_value}
use Rattle.claim_replay.proofs.Knowing.{number_of_standings}
use Rattle.claim_replay.proofs.replaying.known_in.Goals as goal

pub returns-clause-len : goal.returns-clause-len
returns-clause-len c =
    IfOk-weaker c.standings.result _ _
    (λ known len. len ∙ ap length c.deref.ensures.value
    ∙ sym (number_of_standings
    (world_value c.args.present.now.world) c.args.present.now.world.program.value c.args.present.now.rows.items c.requires.components refl))
    c.standings.ensures.len
