use Rattle.store_json.proofs.SizeLaws.{entries_are_few}
use Rattle.store_json.proofs.laws.entries_are_few.Goals as goal

pub returns : goal.returns
returns c = entries_are_few
