use Rattle.std.proofs.Common.{false, sym, subst}
use Rattle.std.proofs.lemmas.Result.{on_ok_weaker}
use Rattle.c_tree.specs.Syntax.{ident_tree}
use Rattle.c_types_names.specs.Seen.{type_seen}
use Rattle.c_lower_rules.specs.Expressions.{field_behind}
use Rattle.c_lower_rules.specs.Statements.{Target, update}
use Rattle.c_lower_stmts.specs.Amounts.{amount}
use Rattle.c_lower_stmts.specs.Simples.{EmitsPiece}
use Rattle.c_lower_stmts.proofs.Stores.{updated}
use Rattle.c_lower_stmts.proofs.updating.update_field.Goals as goal

pub returns : goal.returns
returns c = on_ok_weaker c.store.result (λ emits numbers calls to before is.
    let ctx = c.args.site.now in
    let first = c.args.site.now.first_temp in
    let base = c.args.pointer.base in
    let name = ident_tree c.args.pointer.field.now in
    let by = amount ctx c.args.by in
    let piece =
    updated ctx first c.args.op is.lowering
    (field_behind ctx (type_seen base.kind) name) by before c.args.out.now c.computed.new.out c.store.new.out base _
    is.is (c.in_ok-value.ensures numbers) emits in
    subst (λ b. EmitsPiece (update ctx to c.args.op b by) first before c.store.new.out) (sym calls)
    (subst (λ t. EmitsPiece (update ctx t c.args.op false by) first before c.store.new.out) (sym is.means)
    (subst (λ k. EmitsPiece
    (update ctx (Target.Member is.lowering (field_behind ctx k name)) c.args.op false by) first before c.store.new.out) is.is.kind piece)))
    c.store.ensures
