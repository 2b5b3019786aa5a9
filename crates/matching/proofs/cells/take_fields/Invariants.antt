use Rattle.std.proofs.Common.{◌≡◌, drop}
use Rattle.sym_matching.specs.WantedCells.{take_fields}
use Rattle.sym_matching.specs.RuleSteps.InSetting.{rules_with}
use Rattle.matching.proofs.cells.take_fields.Given as goal

abbrev pub invariant-loop-place : goal.invariant-loop-place
invariant-loop-place l = take_fields (rules_with l.setting.mode l.setting.facts.now l.setting.flexible.now) l.number l.wants l.haves l.fn.m
    ≡ take_fields (rules_with l.setting.mode l.setting.facts.now l.setting.flexible.now) l.number (drop l.place l.wants)
    (drop l.place l.haves) l.current
