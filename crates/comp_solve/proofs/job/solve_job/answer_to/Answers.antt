-- A key within the limits of a store can be analysed.
use Rattle.shape_data.specs.WellFormed.{storable}
use Rattle.solve_laws.specs.Certificates.Limits.{analysable}
use Rattle.comp_solve.proofs.job.solve_job.answer_to.Goals as goal

pub solve-requires : goal.solve-requires
solve-requires c = c.limits_widen.ensures.keys storable analysable c.args.key.now c.limits_widen.ensures.known.0 c.requires.storable
