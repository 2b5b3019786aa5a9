-- What is assigned to.
use Rattle.std.specs.Prelude.{◌≡◌, ℕ, map}
use Rattle.shape_data.specs.declared.program.Ty.{Ty}
use Rattle.c_grammar.specs.Trees as tree
use Rattle.c_tree.specs.Syntax.{ident_tree, expr_tree}
use Rattle.c_lower_rules.specs.Contexts.{Context}
use Rattle.c_lower_rules.specs.Values.{Lowering}
use Rattle.c_lower_rules.specs.Expressions.{field_behind, lowering}
use Rattle.c_lower_rules.specs.Statements as statements
use Rattle.c_lower_rules.specs.Statements.{member_target, target}
use Rattle.c_lower_rules.specs.Numbers.{HasIntNumbers}
use Rattle.c_lower_emit.specs.declared.uses.Use.TheVariants.{Value}
use Rattle.c_lower_emit.specs.Emitting.{Out}
use Rattle.c_lower_exprs.specs.Lowered.{IsLowered}
use Rattle.c_lower_stmts.specs.declared.targets.Pointer.{Pointer}
use Rattle.c_lower_stmts.specs.declared.targets.Target.{Target}
use Rattle.c_lower_stmts.specs.declared.targets.Target.TheVariants.{Variable, Member}

-- the pointer before the last `->` was emitted for its value; what is assigned to is the field of the last name
pub record IsPointer (c : Context) (to : statements.Target) (first : ℕ) (old new : Out) (found : Pointer) : Type 0 where
  pub lowering : Lowering
  pub is : IsLowered Value lowering first old new found.base
  pub means : to ≡ statements.Target.Member lowering (field_behind c lowering.kind (ident_tree found.field.now))

-- what an expression is as a target
abbrev pub IsTarget : Context → tree.Expr → Target → Type 0
IsTarget c left (Variable slot) = target c left ≡ statements.Target.Variable slot
IsTarget c left (Member base fields) =
    (target c left
    ≡ member_target c (lowering c (expr_tree base.now.value)) (ident_tree fields.now.first) (map ident_tree fields.now.others.items))
    × (HasIntNumbers left → HasIntNumbers (expr_tree base.now.value))

-- where the target is a member, this is the type of its field
abbrev pub IsFieldKind : statements.Target → Ty → Type 0
IsFieldKind (statements.Target.Variable slot) kind = Unit {0}
IsFieldKind (statements.Target.Member base field) kind = kind ≡ field.kind
