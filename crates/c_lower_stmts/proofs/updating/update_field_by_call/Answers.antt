use Rattle.std.proofs.Common.{true, sym, subst}
use Rattle.std.proofs.lemmas.Result.{on_ok_weaker}
use Rattle.c_tree.specs.Syntax.{ident_tree}
use Rattle.c_types_names.specs.Seen.{type_seen}
use Rattle.c_lower_rules.specs.Values.{at_hand}
use Rattle.c_lower_rules.specs.Expressions.{field_behind}
use Rattle.c_lower_rules.specs.Statements.{Target, field_at_hand, update}
use Rattle.c_lower_stmts.specs.Amounts.{amount}
use Rattle.c_lower_stmts.specs.Simples.{EmitsPiece}
use Rattle.c_lower_stmts.proofs.AtHand.{at_hand_lowered}
use Rattle.c_lower_stmts.proofs.Stores.{updated_by_call}
use Rattle.c_lower_stmts.proofs.updating.update_field_by_call.Goals as goal

pub returns : goal.returns
returns c = on_ok_weaker c.store.result (λ emits numbers calls to before is.
    let ctx = c.args.site.now in
    let first = c.args.site.now.first_temp in
    let base = c.args.pointer.base in
    let name = ident_tree c.args.pointer.field.now in
    let by = amount ctx c.args.by in
    let field = field_behind ctx (type_seen base.kind) name in
    let called = c.in_ok-called.called in
    let behind = c.lower_amount.new.out in
    let load = c.in_ok-field.ensures (at_hand ctx (type_seen base.kind) base.operand) behind (at_hand_lowered ctx first behind base) in
    let sum =
    c.in_ok-value.ensures (field_at_hand ctx field base.operand)
    (at_hand ctx (type_seen called.kind) called.operand) behind c.load.new.out load
    (at_hand_lowered ctx first c.load.new.out called) in
    let piece =
    updated_by_call ctx first c.args.op is.lowering field by before c.args.out.now behind c.arithmetic.new.out c.store.new.out base called _
    is.is (c.in_ok-called.ensures numbers) sum emits in
    subst (λ b. EmitsPiece (update ctx to c.args.op b by) first before c.store.new.out) (sym calls)
    (subst (λ t. EmitsPiece (update ctx t c.args.op true by) first before c.store.new.out) (sym is.means)
    (subst (λ k. EmitsPiece
    (update ctx (Target.Member is.lowering (field_behind ctx k name)) c.args.op true by) first before c.store.new.out) is.is.kind piece)))
    c.store.ensures
