-- Both tests are exact.
use Rattle.component_keys.specs.Tests.{key_test}
use Rattle.std.proofs.Common.{◌≡◌}
use Rattle.loaded_answers.proofs.Finding.{same_test}
use Rattle.loaded_answers.proofs.keys.same_key.Goals as goal

pub returns : goal.returns
returns c =
    same_test c.is_same.result (key_test.0 c.args.one.now c.args.other.now) (c.args.one.now ≡ c.args.other.now) c.is_same.ensures
    (key_test.1 c.args.one.now c.args.other.now)
