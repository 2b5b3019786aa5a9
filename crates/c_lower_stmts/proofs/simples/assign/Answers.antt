use Rattle.std.proofs.Common.{sym, subst}
use Rattle.std.proofs.lemmas.Result.{on_ok_weaker}
use Rattle.c_tree.specs.Syntax.{expr_tree}
use Rattle.c_types_rules.specs.Expressions.{kind_of}
use Rattle.c_types_rules.specs.Programs.{known}
use Rattle.c_lower_rules.specs.Statements.{assign}
use Rattle.c_lower_stmts.specs.Simples.{EmitsPiece}
use Rattle.c_lower_stmts.specs.Targets.{IsTarget, IsFieldKind}
use Rattle.c_lower_stmts.proofs.KindsOfTargets.{known_target_kind}
use Rattle.c_lower_stmts.proofs.simples.assign.Goals as goal

pub returns-in-Member : goal.returns-in-Member
returns-in-Member c = on_ok_weaker c.set_member.result (λ emits left value.
    let ctx = c.args.site.now in
    let means = subst (IsTarget ctx (expr_tree c.args.left.now)) c.in-Member.is c.target_of.ensures in
    subst (λ t. EmitsPiece (assign ctx t (expr_tree c.args.value.now)) c.args.site.now.first_temp c.args.out.now c.set_member.new.out)
    (sym means.0)
    (emits (means.1 left) value
    (subst (λ t. IsFieldKind t (known (kind_of ctx.env (expr_tree c.args.left.now)))) means.0
    (known_target_kind ctx (expr_tree c.args.left.now)))))
    c.set_member.ensures
