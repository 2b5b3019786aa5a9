-- What is left gives what the whole gives.
use Rattle.std.proofs.Common.{◌≡◌, ◌≤◌, length}
use Rattle.sym_text.specs.Reading.{read_digits}
use Rattle.sym_text.proofs.numbers.read_digits.Given as goal

abbrev pub invariant-loop-rest : goal.invariant-loop-rest
invariant-loop-rest l = (read_digits l.limit l.value l.rest ≡ read_digits l.limit l.fn.first l.text) × (l.fn.first ≤ l.value)
    × (l.value ≤ l.limit)

abbrev pub decreases-loop-rest : goal.decreases-loop-rest
decreases-loop-rest l = length l.rest
