-- The binary search ends behind the names that stand ahead.
use Rattle.std.proofs.Common.{rules}
use Rattle.std.proofs.lemmas.Fn.{always_returns_same}
use Rattle.call_components.specs.Sorting.{is_ahead}
use Rattle.call_components.proofs.NameOrder.{ahead_first}
use Rattle.call_components.proofs.order.count_ahead.Goals as goal

pub returns-clause-parted : goal.returns-clause-parted
returns-clause-parted c =
    c.partition_point.ensures.partitioned (is_ahead c.args.names.now c.args.name.now)
    (always_returns_same _ _ _ (λ a r f called. search rules))
    (ahead_first c.args.names.now c.args.order.now c.requires c.args.name.now)
