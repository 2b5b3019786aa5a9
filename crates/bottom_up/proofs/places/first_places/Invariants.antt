-- The answers so far are added.
use Rattle.std.proofs.Common.{take}
use Rattle.bottom_up.specs.Placed.{AreFirst, answers_kept, summaries_in}
use Rattle.bottom_up.proofs.places.first_places.Given as goal

abbrev pub invariant-loop-component : goal.invariant-loop-component
invariant-loop-component l = AreFirst (answers_kept l.kept) (summaries_in (answers_kept (take l.component l.kept))) l.firsts
