use Rattle.std.proofs.Common.{sym, ap, ◌∙◌}
use Rattle.std.specs.Prelude.{option_map}
use Rattle.c_lower_rules.specs.Programs.{bound_param}
use Rattle.c_tree.specs.Syntax.{ident_tree}
use Rattle.c_lower_exprs.specs.Seen.{stacked}
use Rattle.c_lower_exprs.proofs.Stacking.{stacked-push}
use Rattle.c_lower_exprs.proofs.params.bind_param.Goals as goal

pub returns-in_ok-push-in-Some : goal.returns-in_ok-push-in-Some
returns-in_ok-push-in-Some c =
    ap stacked c.in_ok-push-in-Some.ensures.more ∙ stacked-push c.args.bound.now _
    ∙ ap (λ n. bound_param c.args.slot (option_map ident_tree n) (stacked c.args.bound.now)) (sym c.in-Some.is)
