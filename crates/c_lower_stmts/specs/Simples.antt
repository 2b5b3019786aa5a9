-- What the functions on simple statements answer.
use Rattle.std.specs.Prelude.{ℕ, List, length}
use Rattle.c_lower_rules.specs.Temporaries.{Temp}
use Rattle.c_lower_rules.specs.Values.{Piece}
use Rattle.c_lower_emit.specs.declared.drafts.Label.TheVariants.{At}
use Rattle.c_lower_emit.specs.Emitting.{Out, HasRoom, EmitsCode}

-- a piece was emitted, where there is room for it; it begins at its first node
abbrev pub EmitsPiece : (List Temp → Piece) → ℕ → Out → Out → Type 0
EmitsPiece piece first old new =
    HasRoom first (piece old.temps).code.size old → EmitsCode (piece old.temps).code (piece old.temps).temps (At (length old.nodes)) old new
