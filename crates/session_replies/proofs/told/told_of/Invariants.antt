-- The entries of the procedures so far.
use Rattle.std.proofs.Common.{◌≡◌, take, filter_map}
use Rattle.bottom_up.specs.Placed.{answers_kept, summary_in}
use Rattle.session_replies.specs.Entries.{entries_over}
use Rattle.session_replies.proofs.told.told_of.Given as goal

abbrev pub invariant-loop-number : goal.invariant-loop-number
invariant-loop-number l = l.all.items
    ≡ entries_over (take l.number l.procs) (filter_map (summary_in (answers_kept l.kept)) (take l.number l.places))
