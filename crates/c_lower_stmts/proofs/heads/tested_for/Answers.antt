use Rattle.std.proofs.Common.{option_map, sym, subst}
use Rattle.std.specs.Prelude.{IfSome}
use Rattle.std.proofs.lemmas.Result.{IfOk-weaker}
use Rattle.c_tree.specs.Syntax.{expr_tree}
use Rattle.c_lower_rules.specs.Statements.{for_condition}
use Rattle.c_lower_rules.specs.Numbers.{HasIntNumbers}
use Rattle.c_lower_emit.specs.Emitting.{EmitsTested}
use Rattle.c_lower_exprs.specs.Contexts.{on_line}
use Rattle.c_lower_stmts.specs.Standing.{state}
use Rattle.c_lower_stmts.proofs.heads.tested_for.Goals as goal

pub returns-in-None : goal.returns-in-None
returns-in-None c =
    IfOk-weaker c.forever.result _ _ (λ _ is numbers line locals.
    subst (λ e. EmitsTested
    (for_condition (state (on_line c.args.context.now line) locals c.args.out.now) c.args.place
    (option_map expr_tree e)) c.args.context.now.first_temp c.args.out.now c.forever.new.out)
    (sym c.in-None.is) (is line locals)) c.forever.ensures

pub returns-in-Some : goal.returns-in-Some
returns-in-Some c =
    IfOk-weaker c.tested.result _ _ (λ _ is numbers line locals.
    subst (λ e. EmitsTested
    (for_condition (state (on_line c.args.context.now line) locals c.args.out.now) c.args.place
    (option_map expr_tree e)) c.args.context.now.first_temp c.args.out.now c.tested.new.out)
    (sym c.in-Some.is) (is (subst (λ e. IfSome (option_map expr_tree e) HasIntNumbers) c.in-Some.is numbers) line locals)) c.tested.ensures
