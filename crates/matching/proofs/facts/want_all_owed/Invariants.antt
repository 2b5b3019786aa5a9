use Rattle.std.proofs.Common.{◌≡◌, drop}
use Rattle.sym_matching.specs.WantedFacts.{want_all_owed}
use Rattle.sym_matching.specs.RuleSteps.InSetting.{rules_with}
use Rattle.matching.proofs.facts.want_all_owed.Given as goal

abbrev pub invariant-loop-one : goal.invariant-loop-one
invariant-loop-one l = want_all_owed (rules_with l.setting.mode l.setting.facts.now l.setting.flexible.now) l.owed l.fn.m
    ≡ want_all_owed (rules_with l.setting.mode l.setting.facts.now l.setting.flexible.now) (drop l.one-index l.owed) l.current
