use Rattle.summary_json.proofs.ReadBack.{one_key}
use Rattle.summary_json.proofs.laws.one_key.Goals as goal

pub returns : goal.returns
returns c = one_key
