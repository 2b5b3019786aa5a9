use Rattle.sym_forms.proofs.PairFormLaws.{canon_pair_keeps_missing_normal, pair_form_is_normal}
use Rattle.sym_forms.proofs.laws.pair_form_is_normal.Goals as goal

pub returns-clause-form : goal.returns-clause-form
returns-clause-form c = pair_form_is_normal

pub returns-clause-numbered : goal.returns-clause-numbered
returns-clause-numbered c = canon_pair_keeps_missing_normal
