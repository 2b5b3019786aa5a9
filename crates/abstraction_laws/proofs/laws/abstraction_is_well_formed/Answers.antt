use Rattle.abstraction_laws.proofs.WellFormedResults.{abstract_exit_is_well_formed, abstract_head_is_well_formed}
use Rattle.abstraction_laws.proofs.PairFormed.{abstract_pair_is_well_formed, abstract_pair_is_within, abstract_pre_is_well_formed}
use Rattle.abstraction_laws.proofs.laws.abstraction_is_well_formed.Goals as goal

pub returns-clause-head : goal.returns-clause-head
returns-clause-head c = abstract_head_is_well_formed

pub returns-clause-exit : goal.returns-clause-exit
returns-clause-exit c = abstract_exit_is_well_formed

pub returns-clause-pair : goal.returns-clause-pair
returns-clause-pair c = abstract_pair_is_well_formed

pub returns-clause-large : goal.returns-clause-large
returns-clause-large c = abstract_pair_is_within

pub returns-clause-candidate : goal.returns-clause-candidate
returns-clause-candidate c = abstract_pre_is_well_formed
