use Rattle.std.proofs.Common.{◌≡◌, ◌-◌, length}
use Rattle.abstraction_laws.specs.Joining.{find_join, first_join, join_at}
use Rattle.sym_abstract.proofs.joining.find_join.Given as goal

abbrev pub invariant-loop-first : goal.invariant-loop-first
invariant-loop-first g l =
    find_join (g.M.Middle.may l.may) l.atoms
    ≡ first_join (λ i. first_join (join_at (g.M.Middle.may l.may) l.atoms i) 0 (length l.atoms)) l.first (length l.atoms - l.first)
