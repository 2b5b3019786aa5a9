use Rattle.std.proofs.Common.{◌≡◌, ◌-◌, ◌++◌, length}
use Rattle.sym_canon.specs.Placing.{place}
use Rattle.sym_canon.proofs.placing.place.Given as goal

abbrev pub invariant-loop-done : goal.invariant-loop-done
invariant-loop-done l = place (length l.fn.left.items) l.fn.queue.items l.fn.left.items
    ≡ l.all.items ++ place (length l.fn.left.items - l.done) l.queue.items l.left.items
