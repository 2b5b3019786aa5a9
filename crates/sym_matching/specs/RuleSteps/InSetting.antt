-- The rules of a match as the code has them.
use Rattle.std.specs.Prelude.{ℕ, List}
use Rattle.shape_data.specs.declared.symbolic.Fact.{Fact}
use Rattle.sym_matching.specs.declared.matching.Mode.{Mode}
use Rattle.sym_matching.specs.Steps.{Rules}
use Rattle.sym_matching.specs.declared.rule_steps.reading.Setting.{Setting}

-- the rules of a match in this mode, with these facts and flexible variables
abbrev pub rules_with : Mode → List Fact → List ℕ → Rules
rules_with mode facts flexible = record { mode = mode; facts = facts; flexible = flexible }

-- the rules of a match in a setting
abbrev pub rules_in : Setting → Rules
rules_in setting = rules_with setting.mode setting.facts.now setting.flexible.now
