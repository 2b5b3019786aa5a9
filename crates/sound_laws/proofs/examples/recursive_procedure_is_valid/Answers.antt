use Rattle.sound_laws.proofs.ExampleLemmas.{down_is_valid, down_supports_itself}
use Rattle.sound_laws.proofs.examples.recursive_procedure_is_valid.Goals as goal

pub returns-clause-supported : goal.returns-clause-supported
returns-clause-supported c = down_supports_itself

pub returns-clause-valid : goal.returns-clause-valid
returns-clause-valid c = down_is_valid
