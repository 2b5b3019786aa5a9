use Rattle.component_keys.specs.Tests.{program_test}
use Rattle.claim_replay.proofs.FirstPassing.{same_test}
use Rattle.claim_replay.proofs.replaying.same_program.Goals as goal

pub returns : goal.returns
returns c = same_test program_test c.args.one.now c.args.other.now c.is_same.result c.is_same.ensures
