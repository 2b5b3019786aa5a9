-- The whole heap is as it stands.
use Rattle.std.proofs.Common.{◌∙◌, ap}
use Rattle.sym_pure.specs.Sources.{differs}
use Rattle.matching.proofs.facts.are_apart.Goals as goal

pub returns : goal.returns
returns c = c.differs.ensures ∙ ap (λ all. differs all c.args.left c.args.right) c.in_ok-all.ensures
