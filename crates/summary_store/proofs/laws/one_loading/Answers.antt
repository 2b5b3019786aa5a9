use Rattle.summary_store.proofs.LoadLaws.{one_loading}
use Rattle.summary_store.proofs.laws.one_loading.Goals as goal

pub returns : goal.returns
returns c = one_loading c.one_reading.ensures
