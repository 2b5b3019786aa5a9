use Rattle.store_json.proofs.BackLaws.{stores_are_read_back}
use Rattle.store_json.proofs.laws.stores_are_read_back.Goals as goal

pub returns : goal.returns
returns c = stores_are_read_back
