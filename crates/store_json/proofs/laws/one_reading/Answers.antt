use Rattle.store_json.proofs.ReadingLaws.{one_reading}
use Rattle.store_json.proofs.laws.one_reading.Goals as goal

pub returns : goal.returns
returns c = one_reading c.one_key.ensures c.one_answer.ensures
