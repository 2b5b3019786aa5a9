-- One `->` behind another.
use Rattle.std.proofs.Common.{◌≡◌, ℕ, List}
use Rattle.c_grammar.specs.Trees.{Name}
use Rattle.c_lower_rules.specs.Contexts.{Context}
use Rattle.c_lower_rules.specs.Values.{Lowering}
use Rattle.c_lower_rules.specs.Expressions.{members}
use Rattle.c_lower_emit.specs.declared.uses.Use.TheVariants.{Value}
use Rattle.c_lower_emit.specs.Emitting.{Out}
use Rattle.c_lower_exprs.specs.declared.members.Found.{Found}
use Rattle.c_lower_exprs.specs.Lowered.{IsLowered}

-- some members were loaded; what is left are these
pub record MembersSoFar (c : Context) (first : ℕ) (l : Lowering) (before : Out) (all names : List Name) (now : Out)
    (found : Found) : Type 0 where
  pub lowering : Lowering
  pub is : IsLowered Value lowering first before now found
  pub left : members c lowering names ≡ members c l all
