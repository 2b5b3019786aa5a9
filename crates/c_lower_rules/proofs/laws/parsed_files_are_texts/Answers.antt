use Rattle.c_lower_rules.proofs.Files.{files_are_texts}
use Rattle.c_lower_rules.proofs.laws.parsed_files_are_texts.Goals as goal

pub returns : goal.returns
returns c = files_are_texts
