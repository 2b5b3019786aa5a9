use Rattle.std.proofs.Common.{◌≡◌}
use Rattle.std.specs.List.{filter_map}
use Rattle.exec_laws.specs.Execution.{formed_case}
use Rattle.exec_cells.specs.InSetting.{setting_with}
use Rattle.sym_exec.proofs.stepping.in_form.Given as goal

abbrev pub invariant-loop-case : goal.invariant-loop-case
invariant-loop-case l = l.kept.items
    ≡ filter_map (formed_case (setting_with l.setting.mode l.setting.params l.setting.structs.now l.setting.table.now)) l.yielded
