use Rattle.std.proofs.Common.{◌≡◌, ◌-◌, length}
use Rattle.abstraction_laws.specs.Joining.{first_join, join_at}
use Rattle.sym_abstract.proofs.joining.find_second.Given as goal

abbrev pub invariant-loop-second : goal.invariant-loop-second
invariant-loop-second g l =
    first_join (join_at (g.M.Middle.may l.may) l.atoms l.first) 0 (length l.atoms)
    ≡ first_join (join_at (g.M.Middle.may l.may) l.atoms l.first) l.second (length l.atoms - l.second)
