use Rattle.summary_json.proofs.ReadBack.{one_answer}
use Rattle.summary_json.proofs.laws.one_answer.Goals as goal

pub returns : goal.returns
returns c = one_answer
