use Rattle.summary_json.proofs.KeyTexts.{structs_are_texts}
use Rattle.summary_json.proofs.keys.structs_value.Goals as goal

pub list_value-requires : goal.list_value-requires
list_value-requires c = structs_are_texts c.args.structs.now c.requires
