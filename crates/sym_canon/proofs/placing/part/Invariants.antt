use Rattle.std.proofs.Common.{◌≡◌, filter, not}
use Rattle.sym_parts.specs.Laws.Addresses.{addresses}
use Rattle.sym_parts.specs.Laws.Expressions.{is_among}
use Rattle.sym_canon.specs.Placing.{is_placed_by}
use Rattle.sym_canon.proofs.placing.part.Given as goal

abbrev pub invariant-loop-atom : goal.invariant-loop-atom
invariant-loop-atom l = (l.has_cell ≡ is_among l.e (addresses l.fn.left.items))
    × (l.placed.items ≡ filter (is_placed_by l.has_cell l.e) l.yielded)
    × (l.others.items ≡ filter (λ atom. not (is_placed_by l.has_cell l.e atom)) l.yielded)
