use Rattle.summary_store.proofs.LoadLaws.{stores_are_loaded_back}
use Rattle.summary_store.proofs.laws.stores_are_loaded_back.Goals as goal

pub returns : goal.returns
returns c = stores_are_loaded_back c.stores_are_read_back.ensures
