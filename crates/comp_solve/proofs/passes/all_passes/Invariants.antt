use Rattle.std.proofs.Common.{◌≡◌, ◌-◌}
use Rattle.solve_laws.specs.Solving.{all_passes, passes}
use Rattle.solve_laws.specs.Standing.{AreFormed}
use Rattle.comp_solve.proofs.passes.all_passes.Given as goal

-- the passes that are left give the same
abbrev pub invariant-loop-turn : goal.invariant-loop-turn
invariant-loop-turn l = (passes (l.most - l._turn) l.key l.standing ≡ all_passes l.key l.fn.attempts) × AreFormed l.key l.standing
