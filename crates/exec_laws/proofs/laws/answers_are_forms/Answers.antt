use Rattle.exec_laws.proofs.ExecutionRooms.{all_answers_are_well_formed, answers_are_well_formed}
use Rattle.exec_laws.proofs.FormedLemmas.{answers_are_forms}
use Rattle.exec_laws.proofs.laws.answers_are_forms.Goals as goal

pub returns-clause-forms : goal.returns-clause-forms
returns-clause-forms c = answers_are_forms

pub returns-clause-well_formed : goal.returns-clause-well_formed
returns-clause-well_formed c = answers_are_well_formed

pub returns-clause-all_well_formed : goal.returns-clause-all_well_formed
returns-clause-all_well_formed c = all_answers_are_well_formed
