use Rattle.std.proofs.Common.{◌≡◌, ◌+◌, ◌-◌, ◌<◌, length}
use Rattle.sym_matching.specs.NewVariables.{HasRoom}
use Rattle.sym_matching.specs.Rooms.{fields_wanted, names_wanted}
use Rattle.sym_matching.specs.WantedAtoms.{want_atoms}
use Rattle.sym_matching.specs.RuleSteps.InSetting.{rules_with}
use Rattle.matching.proofs.atoms.want_atoms.Given as goal

abbrev pub invariant-loop-done : goal.invariant-loop-done
invariant-loop-done l =
    (want_atoms (length l.fn.wanted) (rules_with l.setting.mode l.setting.facts.now l.setting.flexible.now) l.fn.wanted l.fn.m
    ≡ want_atoms (length l.fn.wanted - l.done) (rules_with l.setting.mode l.setting.facts.now l.setting.flexible.now) l.left l.current)
    × HasRoom (fields_wanted l.left) l.current.used
    × (l.current.next + names_wanted l.left < 4294967296)
