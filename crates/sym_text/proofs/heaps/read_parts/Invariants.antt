-- What is left gives what the whole gives.
use Rattle.std.proofs.Common.{◌≡◌, [], true}
use Rattle.sym_text.specs.Reading.{read_parts}
use Rattle.sym_text.proofs.heaps.read_parts.Given as goal

abbrev pub invariant-loop-left : goal.invariant-loop-left
invariant-loop-left l =
    read_parts l.with_ret l.structs l.params l.left l.is_first l.heap l.rest
    ≡ read_parts l.with_ret l.structs l.params 4000 true (record { pure = []; spatial = [] }) l.text

abbrev pub decreases-loop-left : goal.decreases-loop-left
decreases-loop-left l = l.left
