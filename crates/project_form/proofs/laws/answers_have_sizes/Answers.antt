-- What is too large is refused, so a program that files are has none of that.
use Rattle.project_form.proofs.Sizes.{answers-sized}
use Rattle.project_form.proofs.laws.answers_have_sizes.Goals as goal

pub returns : goal.returns
returns c = answers-sized c.first_refusal.ensures
