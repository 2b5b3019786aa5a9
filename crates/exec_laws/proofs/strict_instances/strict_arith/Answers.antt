use Rattle.std.specs.Prelude.{refl}
use Rattle.std.specs.Int.{int_wrap}
use Rattle.exec_laws.proofs.strict_instances.strict_arith.Goals as goal

pub returns-clause-c5 : goal.returns-clause-c5
unfolding int_wrap
returns-clause-c5 c = refl

pub returns-clause-c6 : goal.returns-clause-c6
unfolding int_wrap
returns-clause-c6 c = refl

pub returns-clause-c7 : goal.returns-clause-c7
unfolding int_wrap
returns-clause-c7 c = refl

pub returns-clause-c8 : goal.returns-clause-c8
unfolding int_wrap
returns-clause-c8 c = refl

pub returns-clause-c9 : goal.returns-clause-c9
unfolding int_wrap
returns-clause-c9 c = refl
