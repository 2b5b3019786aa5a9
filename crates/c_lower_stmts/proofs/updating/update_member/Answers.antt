use Rattle.std.proofs.Common.{sym, ◌∙◌}
use Rattle.std.proofs.lemmas.Result.{on_ok_weaker}
use Rattle.c_lower_stmts.proofs.updating.update_member.Goals as goal

pub returns-then-amount_is_call : goal.returns-then-amount_is_call
returns-then-amount_is_call c = on_ok_weaker c.update_field_by_call.result (λ emits base numbers.
    emits numbers (sym c.amount_is_call.ensures ∙ c.if-amount_is_call.true) _ c.args.out.now (c.in_ok-pointer.ensures base))
    c.update_field_by_call.ensures

pub returns-else-amount_is_call : goal.returns-else-amount_is_call
returns-else-amount_is_call c = on_ok_weaker c.update_field.result (λ emits base numbers.
    emits numbers (sym c.amount_is_call.ensures ∙ c.if-amount_is_call.false) _ c.args.out.now (c.in_ok-pointer.ensures base))
    c.update_field.ensures
