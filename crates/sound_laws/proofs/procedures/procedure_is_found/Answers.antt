use Rattle.sound_laws.proofs.ProcedureLemmas.{has_own_flows, procedure_is_found}
use Rattle.sound_laws.proofs.procedures.procedure_is_found.Goals as goal

pub returns-clause-found : goal.returns-clause-found
returns-clause-found c = procedure_is_found

pub returns-clause-flows : goal.returns-clause-flows
returns-clause-flows c = has_own_flows
