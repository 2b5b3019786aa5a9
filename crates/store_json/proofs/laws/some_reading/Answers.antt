use Rattle.store_json.proofs.TotalLaws.{some_reading}
use Rattle.store_json.proofs.laws.some_reading.Goals as goal

pub returns : goal.returns
returns c = some_reading
