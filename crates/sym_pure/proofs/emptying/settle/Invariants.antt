use Rattle.std.proofs.Common.{◌≡◌, ◌-◌, length}
use Rattle.sym_pure.specs.Emptying.{settle}
use Rattle.sym_pure.proofs.emptying.settle.Given as goal

abbrev pub invariant-loop-turn : goal.invariant-loop-turn
invariant-loop-turn l = settle (length l.fn.atoms) l.fn.solved l.fn.atoms ≡ settle (length l.fn.atoms - l._turn) l.current l.left
