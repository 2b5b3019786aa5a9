use Rattle.solve_laws.proofs.CertificatesLemmas.ResultLaws.{at_exit_is_well_formed, at_node_is_well_formed, normal_post_is_well_formed}
use Rattle.solve_laws.proofs.CertificatesLemmas.ResultLaws.{normal_state_is_well_formed, start_at_node_is_well_formed, start_is_well_formed}
use Rattle.solve_laws.proofs.certificates.results.results_are_well_formed.Goals as goal

pub returns-clause-normal_state : goal.returns-clause-normal_state
returns-clause-normal_state c = normal_state_is_well_formed

pub returns-clause-normal_post : goal.returns-clause-normal_post
returns-clause-normal_post c = normal_post_is_well_formed

pub returns-clause-start : goal.returns-clause-start
returns-clause-start c = start_is_well_formed

pub returns-clause-start_at_node : goal.returns-clause-start_at_node
returns-clause-start_at_node c = start_at_node_is_well_formed

pub returns-clause-at_node : goal.returns-clause-at_node
returns-clause-at_node c = at_node_is_well_formed

pub returns-clause-at_exit : goal.returns-clause-at_exit
returns-clause-at_exit c = at_exit_is_well_formed
