-- The form of a pair with low variables has low variables.
use Rattle.std.proofs.Common.{◌≡◌, ◌∙◌, ap, sym, subst}
use Rattle.std.specs.Option.{IfSome}
use Rattle.std.proofs.lemmas.Result.{IfOk-weaker}
use Rattle.exec_laws.specs.Pairs.{formed, with_state_fact}
use Rattle.exec_cells.specs.InSetting.{setting_in}
use Rattle.exec_cells.specs.Sizes.{IsLowPair}
use Rattle.exec_cells.proofs.LowForms.{low_where_true}
use Rattle.exec_cells.proofs.pairs.where_true.Goals as goal

pub returns-clause-low : goal.returns-clause-low
returns-clause-low c = λ low is.
    IfOk-weaker c.formed.result (λ form. form ≡ formed c.args.setting.now.mode c.args.setting.now.params c.in_ok-given.given)
    (λ form. IfSome form IsLowPair)
    (λ form told. subst (λ made. IfSome made IsLowPair)
    (sym (told ∙ ap (λ given. formed c.args.setting.now.mode c.args.setting.now.params given)
    (c.in_ok-given.ensures ∙ ap (λ missing. with_state_fact c.args.fact missing) c.in_ok-missing.ensures)))
    (low_where_true (setting_in c.args.setting.now) c.args.fact c.args.pair low is))
    c.formed.ensures
