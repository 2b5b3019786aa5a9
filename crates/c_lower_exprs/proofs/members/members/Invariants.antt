use Rattle.std.proofs.Common.{◌∷◌, map, drop}
use Rattle.c_tree.specs.NonEmpty.{items}
use Rattle.c_tree.specs.Syntax.{ident_tree}
use Rattle.c_lower_rules.specs.Values.{Lowering}
use Rattle.c_lower_emit.specs.Emitting.{Out}
use Rattle.c_lower_emit.specs.declared.uses.Use.TheVariants.{Value}
use Rattle.c_lower_exprs.specs.Lowered.{IsLowered}
use Rattle.c_lower_exprs.proofs.Loading.{MembersSoFar}
use Rattle.c_lower_exprs.proofs.members.members.Given as goal

abbrev pub invariant-loop-next : goal.invariant-loop-next
invariant-loop-next l =
    (lowering : Lowering) → (before : Out) → IsLowered Value lowering l.site.first_temp before l.fn.out l.fn.base
    → MembersSoFar l.site l.site.first_temp lowering before (map ident_tree (items l.fields))
    (ident_tree l.field ∷ map ident_tree (drop l.next-index l.next-items)) l.out l.current
