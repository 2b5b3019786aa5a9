-- Each case is kept in its form, or left out.
use Rattle.std.proofs.Common.{◌∙◌, sym}
use Rattle.exec_laws.specs.Execution.{formed_case}
use Rattle.exec_cells.specs.InSetting.{setting_in}
use Rattle.sym_exec.proofs.Collected.{kept_more, passed_more}
use Rattle.sym_exec.proofs.stepping.in_form.Goals as goal

pub loop-case-preserved-in-Continue-branch-3 : goal.loop-case-preserved-in-Continue-branch-3
loop-case-preserved-in-Continue-branch-3 c =
    kept_more (formed_case
    (setting_in c.args.setting.now)) c.loop-case.yielded c.in-Some.case c.in-Some-2.form c.loop-case.kept.items c.push.new.self.items
    c.loop-case.invariant (sym c.in_ok-form.ensures ∙ c.in-Some-2.is) c.in_ok-push-in-Some-2.ensures.items

pub loop-case-preserved : goal.loop-case-preserved
loop-case-preserved c =
    passed_more (formed_case
    (setting_in c.args.setting.now)) c.loop-case.yielded c.in-Some.case c.loop-case.kept.items c.loop-case.invariant
    (sym c.in_ok-form.ensures ∙ c.in-None-2.is)
