use Rattle.abstraction_laws.proofs.DoneLaws.{join_pair_is_done, reduce_is_done}
use Rattle.abstraction_laws.proofs.laws.repetitions_end.Goals as goal

pub returns-clause-rules : goal.returns-clause-rules
returns-clause-rules c = reduce_is_done

pub returns-clause-joins : goal.returns-clause-joins
returns-clause-joins c = join_pair_is_done
