-- Each text is read in one way.
use Rattle.project_form.proofs.Readings as readings
use Rattle.project_form.proofs.laws.one_answer.Goals as goal

pub returns : goal.returns
returns c = readings.one_answer
