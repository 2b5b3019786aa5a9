use Rattle.std.proofs.Common.{◌≡◌, ◌-◌}
use Rattle.certificate_steps.specs.InTask.{task_in}
use Rattle.solve_laws.specs.Candidates.Candidates.{turns}
use Rattle.solve_laws.specs.Candidates.Conditions.{IsSearch}
use Rattle.pre_gen.specs.InSearch.{search_in}
use Rattle.pre_gen.proofs.turning.turns.Given as goal

abbrev pub invariant-loop-turn : goal.invariant-loop-turn
invariant-loop-turn l = record {
  same : turns l.most (task_in l.task) (search_in l.initial.search) ≡ turns (l.most - l._turn) (task_in l.task) (search_in l.search);
  good : IsSearch (task_in l.task) (search_in l.search);
}
