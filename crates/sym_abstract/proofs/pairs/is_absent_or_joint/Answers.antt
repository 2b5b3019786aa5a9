use Rattle.std.proofs.Common.{◌∙◌, ap, not}
use Rattle.sym_abstract.proofs.PairTurns.{absent, joint}
use Rattle.sym_abstract.proofs.pairs.is_absent_or_joint.Goals as goal

pub returns-then-not-is_counted : goal.returns-then-not-is_counted
returns-then-not-is_counted c =
    ap not c.if-not-is_counted.true
    ∙ absent c.args.counts.now c.args.atoms.now c.requires c.args.x c.is_counted.result c.is_counted.ensures c.if-not-is_counted.true

pub returns-else-not-is_counted : goal.returns-else-not-is_counted
returns-else-not-is_counted c =
    joint c.args.counts.now c.args.atoms.now c.requires c.args.x c.is_counted.result _ c.is_counted.ensures c.if-not-is_counted.false _
    c.find_join_at.ensures c.is_some.ensures
