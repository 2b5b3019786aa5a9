use Rattle.std.proofs.Common.{◌≡◌, ◌-◌, length}
use Rattle.sym_matching.specs.WantedSegments.{walk}
use Rattle.sym_matching.specs.RuleSteps.InSetting.{rules_with}
use Rattle.matching.proofs.segments.walk.Given as goal

abbrev pub invariant-loop-done : goal.invariant-loop-done
invariant-loop-done l =
    walk (length l.fn.m.left)
    (rules_with l.setting.mode l.setting.facts.now l.setting.flexible.now) l.number l.kind l.link l.to l.fn.e l.fn.m
    ≡ walk (length l.fn.m.left - l.done)
    (rules_with l.setting.mode l.setting.facts.now l.setting.flexible.now) l.number l.kind l.link l.to l.at l.left
