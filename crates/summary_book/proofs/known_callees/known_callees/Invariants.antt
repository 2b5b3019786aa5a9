use Rattle.std.proofs.Common.{◌≡◌, map, take, Some}
use Rattle.shape_data.specs.declared.answer.Callee.{Callee}
use Rattle.summary_book.specs.Rows.{known_row}
use Rattle.summary_book.proofs.known_callees.known_callees.Given as goal

abbrev pub invariant-loop-one : goal.invariant-loop-one
invariant-loop-one l = map (known_row l.program l.log l.slots) (take l.one-index l.outer) ≡ map (λ (callee : Callee). Some callee) l.callees
