-- What is read with no code.
use Rattle.std.proofs.Common.{ℕ, refl}
use Rattle.c_lower_rules.specs.Contexts.{Context}
use Rattle.c_lower_rules.specs.Values.{at_hand}
use Rattle.c_types_names.specs.Seen.{type_seen}
use Rattle.c_lower_emit.specs.declared.uses.Use.TheVariants.{Value}
use Rattle.c_lower_emit.specs.Emitting.{Out}
use Rattle.c_lower_emit.proofs.Joining.{straight_none}
use Rattle.c_lower_exprs.specs.declared.members.Found.{Found}
use Rattle.c_lower_exprs.specs.Lowered.{IsLowered}

pub at_hand_lowered : (c : Context) (first : ℕ) (o : Out) (found : Found)
    → IsLowered Value (at_hand c (type_seen found.kind) found.operand) first o o found
at_hand_lowered c first o found = record { kind = refl; emits = λ room. (straight_none o, refl) }
