-- The table has what is known of the components that are over.
use Rattle.call_components.specs.Reaching.{marked}
use Rattle.loaded_answers.specs.Lookup.{lookup}
use Rattle.comp_solve.specs.Job.Solves.{solve}
use Rattle.bottom_up.specs.BottomUp.{known_by}
use Rattle.session_replies.specs.PlainAnswers.Table.{IsTable}
use Rattle.session_replies.proofs.plain_answers.answers.table_of.Given as goal

abbrev pub invariant-loop-place : goal.invariant-loop-place
invariant-loop-place g l = IsTable (marked l.marks) (known_by (lookup solve l.loaded) l.program) l.place l.table.items
