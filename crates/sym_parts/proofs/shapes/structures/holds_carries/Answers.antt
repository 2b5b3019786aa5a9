use Rattle.sym_parts.proofs.ShapesLemmas.ContainingHolds.{holds-alike, holds-carries, holds-over_own_kinds}
use Rattle.sym_parts.proofs.shapes.structures.holds_carries.Goals as goal

pub returns-clause-carries : goal.returns-clause-carries
returns-clause-carries c = holds-carries

pub returns-clause-alike : goal.returns-clause-alike
returns-clause-alike c =
    λ structs others s heap shape is_heap is_other.
    (holds-alike structs others s heap shape is_other, holds-alike others structs s heap shape is_heap)

pub returns-clause-own_kinds : goal.returns-clause-own_kinds
returns-clause-own_kinds c = holds-over_own_kinds
