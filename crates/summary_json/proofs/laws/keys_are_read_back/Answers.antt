use Rattle.summary_json.proofs.ReadBack.{keys_back}
use Rattle.summary_json.proofs.laws.keys_are_read_back.Goals as goal

pub returns : goal.returns
returns c = keys_back
