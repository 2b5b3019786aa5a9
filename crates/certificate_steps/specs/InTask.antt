-- The analysis of a procedure as the code has it.
use Rattle.std.specs.Prelude.{ℕ, zero, suc, List, [], ◌∷◌, ◌++◌}
use Rattle.shape_data.specs.declared.symbolic.Exp.{Exp}
use Rattle.shape_data.specs.declared.symbolic.Exp.TheVariants.{Var}
use Rattle.solve_laws.specs.Certificates.Coming as coming
use Rattle.certificate_steps.specs.declared.coming.Task.{Task}

-- the definitions' task
abbrev pub task_in : Task → coming.Task
task_in task = record { flow = task.flow.now; structs = task.structs.now; table = task.table.now; recursive = task.recursive }

-- the variables below a number
abbrev pub variables_below : ℕ → List Exp
variables_below zero = []
variables_below (suc count) = variables_below count ++ Var count ∷ []
