use Rattle.std.proofs.Common.{◌≡◌, map, take, Some}
use Rattle.shape_data.specs.declared.answer.Callee.{Callee}
use Rattle.summary_book.specs.Rows.{known_row}
use Rattle.summary_book.proofs.known_callees.are_known.Given as goal

abbrev pub invariant-loop-place : goal.invariant-loop-place
invariant-loop-place l = map (known_row l.program l.log l.slots) (take l.place l.outer)
    ≡ map (λ (callee : Callee). Some callee) (take l.place l.callees)
