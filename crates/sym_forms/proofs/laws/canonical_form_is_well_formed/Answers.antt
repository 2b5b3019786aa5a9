use Rattle.sym_forms.proofs.WellFormedLaws.{canon_state_is_well_formed}
use Rattle.sym_forms.proofs.laws.canonical_form_is_well_formed.Goals as goal

pub returns : goal.returns
returns c = canon_state_is_well_formed
