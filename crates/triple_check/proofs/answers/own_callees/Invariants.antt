use Rattle.std.proofs.Common.{◌≡◌, ◌++◌, drop}
use Rattle.sound_laws.specs.Answers.{own_callees}
use Rattle.triple_check.proofs.answers.own_callees.Given as goal

abbrev pub invariant-loop-place : goal.invariant-loop-place
invariant-loop-place l = l.callees ++ own_callees (drop l.place l.flows) (drop l.place l.summaries) ≡ own_callees l.flows l.summaries
