use Rattle.std.proofs.Common.{◌≡◌, ◌+◌, ◌-◌, ◌<◌, drop, length}
use Rattle.sym_matching.specs.WantedCells.{name_fields}
use Rattle.sym_matching.specs.RuleSteps.InSetting.{rules_with}
use Rattle.matching.proofs.missing_cells.name_fields.Given as goal

abbrev pub invariant-loop-want : goal.invariant-loop-want
invariant-loop-want l =
    (name_fields (rules_with l.setting.mode l.setting.facts.now l.setting.flexible.now) l.wants l.fn.m
    ≡ name_fields (rules_with l.setting.mode l.setting.facts.now l.setting.flexible.now) (drop l.want-index l.wants) l.current)
    × (l.current.next + (length l.wants - l.want-index) < 4294967296)
