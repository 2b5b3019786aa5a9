use Rattle.std.proofs.Common.{◌-◌, length}
use Rattle.abstraction_laws.specs.Reaching.{seen_from}
use Rattle.sym_abstract.proofs.SeenTurns.{HasSeen}
use Rattle.sym_abstract.proofs.reaching.seen_from.Given as goal

abbrev pub invariant-loop-turn : goal.invariant-loop-turn
invariant-loop-turn l = HasSeen (seen_from l.locals l.fn.atoms.items) (length l.fn.atoms.items - l.turn) l.seen l.left.items
