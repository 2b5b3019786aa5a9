use Rattle.summary_store.proofs.LoadLaws.{loaded_are_inductive}
use Rattle.summary_store.proofs.laws.loaded_are_inductive.Goals as goal

pub returns : goal.returns
returns c = loaded_are_inductive
