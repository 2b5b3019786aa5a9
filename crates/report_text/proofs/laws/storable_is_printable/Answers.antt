-- The limits of a store are limits.
use Rattle.shape_data.specs.WellFormed.{storable}
use Rattle.report_text.proofs.laws.storable_is_printable.Goals as goal

pub returns : goal.returns
returns c = λ structs flow summary is reason. c.formed_is_printable.ensures storable structs flow summary is reason
