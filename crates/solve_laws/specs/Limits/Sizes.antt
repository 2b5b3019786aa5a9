-- The sizes that the analysis of a procedure has where its key has them.
use Rattle.std.specs.Prelude.{All}
use Rattle.shape_data.specs.Sizes.{HasFewSlots, IsNarrow}
use Rattle.solve_laws.specs.Certificates.Coming.{Task}

-- a procedure is analysed among structures of few fields, and has few slots
pub record HasTaskSizes (task : Task) : Type 0 where
  pub structs : All IsNarrow task.structs
  pub flow : HasFewSlots task.flow
