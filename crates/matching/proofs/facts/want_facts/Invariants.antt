use Rattle.std.proofs.Common.{◌≡◌, ◌+◌, drop}
use Rattle.sym_matching.specs.WantedFacts.{want_facts}
use Rattle.sym_matching.specs.RuleSteps.InSetting.{rules_with}
use Rattle.matching.proofs.facts.want_facts.Given as goal

abbrev pub invariant-loop-fact : goal.invariant-loop-fact
invariant-loop-fact l =
    (want_facts (rules_with l.setting.mode l.setting.facts.now l.setting.flexible.now) l.first l.facts l.fn.m
    ≡ want_facts (rules_with l.setting.mode l.setting.facts.now l.setting.flexible.now) l.number (drop l.fact-index l.facts) l.current)
    × (l.number ≡ l.first + l.fact-index)
