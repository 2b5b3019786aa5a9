use Rattle.sym_pure.proofs.FormLaws.{form_is_normal}
use Rattle.sym_pure.proofs.ItselfLaws.{normal_is_itself}
use Rattle.sym_pure.proofs.laws.form_is_normal.Goals as goal

pub returns-clause-form : goal.returns-clause-form
returns-clause-form c = form_is_normal

pub returns-clause-itself : goal.returns-clause-itself
returns-clause-itself c = normal_is_itself
