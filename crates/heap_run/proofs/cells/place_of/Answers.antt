use Rattle.std.proofs.Common.{ℤ, to_z, of_z, subst, rules}
use Rattle.std.proofs.lemmas.Int.{to_z-of_z}
use Rattle.std.proofs.lemmas.List.Sorted.{answers_always}
use mir.Syntax.{w128}
use Rattle.heap_run.specs.Places.{IsPlace}
use Rattle.heap_run.proofs.Addresses.{searched}
use Rattle.heap_run.proofs.cells.place_of.Goals as goal

-- the closure gives a cell's address
pub returns : goal.returns
returns c =
    let facts = c.binary_search_by_key.ensures in
    let by_key = facts.position (λ cell. cell.at) (answers_always _ _ _ (λ f a r g called. search rules)) in
    subst (λ (at : ℤ). IsPlace c.args.heap.now at c.binary_search_by_key.result) (to_z-of_z w128 c.args.at c.ranges.at)
    (searched c.args.heap.now (to_z w128 (of_z w128 c.args.at)) _ c.requires facts.bound by_key)
