use Rattle.solve_laws.proofs.LimitsLemmas.Numbered.{forms_have_low_existentials}
use Rattle.solve_laws.proofs.limits.laws.forms_have_low_existentials.Goals as goal

pub returns : goal.returns
returns c = forms_have_low_existentials
