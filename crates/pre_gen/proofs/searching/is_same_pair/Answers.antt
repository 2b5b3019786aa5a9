use Rattle.std.proofs.lemmas.Bool.Decides.{same_from_decides}
use Rattle.solve_laws.specs.Candidates.Coming.{same_pair}
use Rattle.pre_gen.proofs.SamePairs.{same_pair-Decides}
use Rattle.pre_gen.proofs.searching.is_same_pair.Goals as goal

pub returns : goal.returns
returns c =
    same_from_decides c.is_same.result (same_pair c.args.a.now c.args.b.now) c.is_same.ensures (same_pair-Decides c.args.a.now c.args.b.now)
