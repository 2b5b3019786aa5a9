-- What is found among the answers that are left is what is found among all.
use Rattle.std.proofs.Common.{◌≡◌, drop}
use Rattle.bottom_up.specs.Placed.{answers_kept, summary_among}
use Rattle.bottom_up.proofs.kept.summary_of.Given as goal

abbrev pub invariant-loop-one : goal.invariant-loop-one
invariant-loop-one l = summary_among (answers_kept (drop l.one-index l.kept)) l.name ≡ summary_among (answers_kept l.kept) l.name
