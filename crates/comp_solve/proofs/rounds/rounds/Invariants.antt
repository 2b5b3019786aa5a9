use Rattle.std.proofs.Common.{◌≡◌, ◌-◌, length}
use Rattle.solve_laws.specs.Laws.{FitKey}
use Rattle.solve_laws.specs.Solving.{no_specs, rounds}
use Rattle.comp_solve.proofs.rounds.rounds.Given as goal

-- the rounds that are left answer the same
abbrev pub invariant-loop-turn : goal.invariant-loop-turn
invariant-loop-turn l = (rounds (8 - l._turn) l.key l.before ≡ rounds 8 l.key (no_specs l.key)) × FitKey l.key l.before
    × (length l.before ≡ length l.key.procs)
