use Rattle.std.proofs.Common.{◌∙◌, length, sym}
use Rattle.abstraction_laws.specs.Joining.{find_join, first_join, join_at}
use Rattle.sym_abstract.proofs.JoinTurns.{search-on}
use Rattle.sym_abstract.proofs.joining.find_join.Goals as goal

pub loop-first-preserved : goal.loop-first-preserved
loop-first-preserved g c =
    search-on (λ i. first_join (join_at (g.M.Middle.may c.args.may.now) c.args.atoms.now i) 0 (length c.args.atoms.now))
    (find_join (g.M.Middle.may c.args.may.now) c.args.atoms.now)
    (length c.args.atoms.now) c.loop-first.first c.loop-first-test.true c.loop-first.invariant (sym c.in_default.is ∙ c.find_second.ensures)
