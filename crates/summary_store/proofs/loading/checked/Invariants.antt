-- What is left of the entries before, and how many others there were.
use Rattle.std.proofs.Common.{map, take}
use Rattle.claim_core.specs.Views.{solution_of}
use Rattle.summary_store.specs.Loading.{AreContents}
use Rattle.summary_store.proofs.CheckLaws.{contents}
use Rattle.summary_store.proofs.loading.checked.Given as goal

abbrev pub invariant-loop-entry : goal.invariant-loop-entry
invariant-loop-entry l = AreContents (map solution_of (take l.entry-index l.entries)) (contents l.left l.dropped)
