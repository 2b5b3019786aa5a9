use Rattle.sym_pure.proofs.EachLaws.{form_has_no_other}
use Rattle.sym_pure.proofs.laws.form_has_no_other.Goals as goal

pub returns : goal.returns
returns c = form_has_no_other
