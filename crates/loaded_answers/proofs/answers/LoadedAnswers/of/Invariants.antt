-- The map finds the entries so far.
use Rattle.std.proofs.Common.{take}
use Rattle.loaded_answers.specs.Lookup.{AreFound}
use Rattle.claim_core.specs.Views.{solutions_of}
use Rattle.loaded_answers.proofs.answers.LoadedAnswers.of.Given as goal

abbrev pub invariant-loop-entry : goal.invariant-loop-entry
invariant-loop-entry l = AreFound (λ answer. answer.value) (solutions_of (take l.entry-index l.entry-items)) l.found
