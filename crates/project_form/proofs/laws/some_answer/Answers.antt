-- Each text is read in some way.
use Rattle.project_form.proofs.Readings as readings
use Rattle.project_form.proofs.laws.some_answer.Goals as goal

pub returns : goal.returns
returns c = readings.some_answer
