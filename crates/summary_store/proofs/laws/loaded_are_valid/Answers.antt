use Rattle.summary_store.proofs.LoadLaws.{loaded_are_valid}
use Rattle.summary_store.proofs.laws.loaded_are_valid.Goals as goal

pub returns : goal.returns
returns c = loaded_are_valid c.inductive_is_valid.ensures
