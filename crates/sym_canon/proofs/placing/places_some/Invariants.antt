use Rattle.std.proofs.Common.{◌≡◌, drop}
use Rattle.std.specs.List.{list_any}
use Rattle.sym_parts.specs.Laws.Addresses.{addresses}
use Rattle.sym_parts.specs.Laws.Expressions.{is_among}
use Rattle.sym_canon.specs.Placing.{is_placed_by}
use Rattle.sym_canon.proofs.placing.places_some.Given as goal

abbrev pub invariant-loop-atom : goal.invariant-loop-atom
invariant-loop-atom l = (l.has_cell ≡ is_among l.e (addresses l.left))
    × (list_any (is_placed_by l.has_cell l.e) l.left ≡ list_any (is_placed_by l.has_cell l.e) (drop l.atom-index l.left))
