-- Files have no more structures than bytes, and what lowering asks of a file each file that was parsed has.
use Rattle.project_form.proofs.Wholes.{answers-formed}
use Rattle.project_form.proofs.laws.answers_are_well_formed.Goals as goal

pub returns : goal.returns
returns c = answers-formed c.first_refusal.ensures c.parsed_files_are_texts.ensures c.programs_are_well_formed.ensures
