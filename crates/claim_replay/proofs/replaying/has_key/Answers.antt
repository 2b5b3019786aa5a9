use Rattle.std.proofs.Common.{◌∙◌, sym}
use Rattle.component_keys.specs.Tests.{key_test}
use Rattle.claim_laws.specs.World.{Out}
use Rattle.claim_replay.specs.Values.{out_value}
use Rattle.claim_replay.proofs.FirstPassing.{any_map}
use Rattle.claim_replay.proofs.replaying.has_key.Goals as goal

pub returns : goal.returns
returns c = c.one_holds_key.ensures ∙ sym (any_map (λ (claim : Out). key_test.0 claim.key c.args.key.now) out_value c.args.out.now)
