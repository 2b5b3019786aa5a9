use Rattle.std.proofs.Common.{◌≡◌}
use Rattle.std.specs.List.{AllAdjacentBelow}
use Rattle.std.specs.Ordering.{nat_cmp}
use Rattle.std.specs.Cmp.Lexicographic.{slice_cmp}
use Rattle.std.specs.declared.cmp.Ordering.TheVariants.{Less}
use Rattle.shape_data.specs.declared.program.Flow.{Flow}
use Rattle.shape_data.proofs.well_formed.are_in_name_order.Given as goal

-- the flows before the place stand in order
abbrev pub invariant-loop-place : goal.invariant-loop-place
invariant-loop-place l = AllAdjacentBelow (λ (one next : Flow). slice_cmp nat_cmp one.name next.name ≡ Less) l.flows l.place
