-- The summaries so far are added.
use Rattle.std.proofs.Common.{◌≡◌, List, ◌++◌, take, slice_get, Some}
use Rattle.shape_data.specs.declared.answer.Answer.{Answer}
use Rattle.shape_data.specs.declared.answer.ProcSummary.{ProcSummary}
use Rattle.bottom_up.specs.Placed.{AreFirst}
use Rattle.bottom_up.proofs.places.add_answer.Given as goal

abbrev pub invariant-loop-member : goal.invariant-loop-member
invariant-loop-member l =
    (answers : List Answer) (before : List ProcSummary) → slice_get answers l.component ≡ Some l.answer →
    AreFirst answers before l.initial.firsts → AreFirst answers (before ++ take l.member l.summary-items) l.firsts
