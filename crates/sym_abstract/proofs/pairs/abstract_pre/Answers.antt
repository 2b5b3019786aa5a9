use Rattle.std.proofs.Common.{subst, sym}
use Rattle.sym_canon.specs.declared.parts.Pair.{Pair}
use Rattle.abstraction_laws.specs.Rooms.{HaveFewFields}
use Rattle.sym_abstract.proofs.pairs.abstract_pre.Goals as goal

pub join_pair-requires-clause-missing : goal.join_pair-requires-clause-missing
join_pair-requires-clause-missing c = subst (λ (p : Pair). HaveFewFields p.missing.spatial) (sym c.in_ok-beside_nothing.ensures) c.requires
