use Rattle.component_keys.specs.Tests.{key_test}
use Rattle.claim_replay.proofs.FirstPassing.{same_test}
use Rattle.claim_replay.proofs.known.same_key.Goals as goal

pub returns : goal.returns
returns c = same_test key_test c.args.one.now c.args.other.now c.is_same.result c.is_same.ensures
