use Rattle.std.proofs.lemmas.Result.{IfOk-weaker}
use Rattle.c_tree.specs.Syntax.{ident_tree}
use Rattle.c_types_names.specs.Seen.{type_seen}
use Rattle.c_lower_rules.specs.Values.{at_hand}
use Rattle.c_lower_rules.specs.Expressions.{field_behind}
use Rattle.c_lower_rules.specs.Statements.{field_at_hand}
use Rattle.c_lower_stmts.specs.Amounts.{amount}
use Rattle.c_lower_stmts.proofs.AtHand.{at_hand_lowered}
use Rattle.c_lower_stmts.proofs.updating.computed.Goals as goal

pub returns : goal.returns
returns c =
    let ctx = c.args.site.now in
    let base = c.args.pointer.base in
    IfOk-weaker c.arithmetic.result _ _ (λ found is numbers.
    is (field_at_hand ctx (field_behind ctx (type_seen base.kind) (ident_tree c.args.pointer.field.now)) base.operand)
    (amount ctx c.args.by) c.args.out.now
    c.load.new.out
    (c.in_ok-field.ensures (at_hand ctx (type_seen base.kind) base.operand) c.args.out.now
    (at_hand_lowered ctx c.args.site.now.first_temp c.args.out.now base))
    (c.in_ok-by.ensures numbers)) c.arithmetic.ensures
