use Rattle.summary_json.proofs.ReadBack.{answers_back}
use Rattle.summary_json.proofs.laws.answers_are_read_back.Goals as goal

pub returns : goal.returns
returns c = answers_back
