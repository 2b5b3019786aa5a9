use Rattle.sym_pure.proofs.PartsLaws.{form_has_no_more_parts}
use Rattle.sym_pure.proofs.laws.form_has_no_more_parts.Goals as goal

pub returns : goal.returns
returns c = form_has_no_more_parts
