use Rattle.std.proofs.Common.{map, drop}
use Rattle.c_tree.specs.Syntax.{ident_tree}
use Rattle.c_lower_rules.specs.Values.{Lowering}
use Rattle.c_lower_rules.specs.Statements.{member_target}
use Rattle.c_lower_emit.specs.Emitting.{Out}
use Rattle.c_lower_emit.specs.declared.uses.Use.TheVariants.{Value}
use Rattle.c_lower_exprs.specs.Lowered.{IsLowered}
use Rattle.c_lower_stmts.proofs.MemberPointers.{TargetSoFar}
use Rattle.c_lower_stmts.proofs.targets.walk.Given as goal

abbrev pub invariant-loop-next : goal.invariant-loop-next
invariant-loop-next l =
    (lowering : Lowering) → (before : Out) → IsLowered Value lowering l.site.first_temp before l.fn.out l.fn.base
    → TargetSoFar l.site l.site.first_temp
    (member_target l.site lowering (ident_tree l.fields.first) (map ident_tree l.fields.others.items))
    (ident_tree l.field)
    (map ident_tree (drop l.next-index l.next-items)) before l.out l.current
