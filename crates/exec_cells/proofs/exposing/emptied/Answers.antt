use Rattle.exec_cells.proofs.LowForms.{low_without}
use Rattle.exec_cells.proofs.exposing.emptied.Goals as goal

pub returns-clause-low : goal.returns-clause-low
returns-clause-low c =
    λ low one other. c.where_true.ensures.low (low_without c.args.place c.remove.new.self c.args.pair c.remove.ensures.rest low)
    (one, other)
