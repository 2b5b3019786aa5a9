use Rattle.std.proofs.Common.{◌∙◌, length, sym}
use Rattle.abstraction_laws.specs.Joining.{first_join, join_at}
use Rattle.sym_abstract.proofs.JoinTurns.{search-on}
use Rattle.sym_abstract.proofs.joining.find_second.Goals as goal

pub loop-second-preserved : goal.loop-second-preserved
loop-second-preserved g c =
    search-on (join_at (g.M.Middle.may c.args.may.now) c.args.atoms.now c.args.first)
    (first_join (join_at (g.M.Middle.may c.args.may.now) c.args.atoms.now c.args.first) 0 (length c.args.atoms.now))
    (length c.args.atoms.now) c.loop-second.second c.loop-second-test.true c.loop-second.invariant (sym c.in_default.is ∙ c.join_at.ensures)
