-- The pointer before the last of some members.
use Rattle.std.proofs.Common.{◌≡◌, ℕ, List}
use Rattle.c_grammar.specs.Trees.{Name}
use Rattle.c_lower_rules.specs.Contexts.{Context}
use Rattle.c_lower_rules.specs.Values.{Lowering}
use Rattle.c_lower_rules.specs.Statements.{Target, member_target}
use Rattle.c_lower_emit.specs.declared.uses.Use.TheVariants.{Value}
use Rattle.c_lower_emit.specs.Emitting.{Out}
use Rattle.c_lower_exprs.specs.declared.members.Found.{Found}
use Rattle.c_lower_exprs.specs.Lowered.{IsLowered}

-- some members were loaded; what is left are these
pub record TargetSoFar (c : Context) (first : ℕ) (to : Target) (name : Name) (names : List Name) (old now : Out)
    (found : Found) : Type 0 where
  pub lowering : Lowering
  pub is : IsLowered Value lowering first old now found
  pub left : to ≡ member_target c lowering name names
