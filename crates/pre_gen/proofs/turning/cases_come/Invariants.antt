use Rattle.std.proofs.Common.{◌≡◌}
use Rattle.certificate_steps.specs.InTask.{task_in}
use Rattle.solve_laws.specs.Candidates.Candidates.{cases_come}
use Rattle.solve_laws.specs.Candidates.Conditions.{IsSearch}
use Rattle.pre_gen.specs.InSearch.{search_in}
use Rattle.pre_gen.proofs.turning.cases_come.Given as goal

abbrev pub invariant-loop-case : goal.invariant-loop-case
invariant-loop-case l = record {
  same : search_in l.search ≡ cases_come (task_in l.task) l.line l.yielded (search_in l.initial.search);
  good : IsSearch (task_in l.task) (search_in l.search);
}
