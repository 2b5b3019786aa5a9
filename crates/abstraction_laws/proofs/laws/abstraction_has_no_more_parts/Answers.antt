use Rattle.abstraction_laws.proofs.NormalResults.{abstract_exit_has_no_more_parts, abstract_head_has_no_more_parts}
use Rattle.abstraction_laws.proofs.PairResults.{abstract_pair_has_no_more_parts, abstract_pre_has_no_more_parts}
use Rattle.abstraction_laws.proofs.laws.abstraction_has_no_more_parts.Goals as goal

pub returns-clause-head : goal.returns-clause-head
returns-clause-head c = abstract_head_has_no_more_parts

pub returns-clause-exit : goal.returns-clause-exit
returns-clause-exit c = abstract_exit_has_no_more_parts

pub returns-clause-pair : goal.returns-clause-pair
returns-clause-pair c = abstract_pair_has_no_more_parts

pub returns-clause-candidate : goal.returns-clause-candidate
returns-clause-candidate c = abstract_pre_has_no_more_parts
