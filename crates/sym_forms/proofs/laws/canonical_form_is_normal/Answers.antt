use Rattle.sym_forms.proofs.FormNormalLaws.{canon_post_is_normal, canon_state_is_normal}
use Rattle.sym_forms.proofs.laws.canonical_form_is_normal.Goals as goal

pub returns-clause-state : goal.returns-clause-state
returns-clause-state c = canon_state_is_normal

pub returns-clause-post : goal.returns-clause-post
returns-clause-post c = canon_post_is_normal
