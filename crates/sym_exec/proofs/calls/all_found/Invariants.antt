use Rattle.std.proofs.Common.{◌≡◌, ◌++◌, All, drop, map}
use Rattle.std.specs.List.{filter_map}
use Rattle.exec_laws.specs.Calling.{found}
use Rattle.sym_exec.specs.Callers.{IsRoomy, fit_in}
use Rattle.exec_cells.specs.InSetting.{setting_with}
use Rattle.sym_exec.proofs.calls.all_found.Given as goal

abbrev pub invariant-loop-spec : goal.invariant-loop-spec
invariant-loop-spec l =
    (filter_map (found
    (setting_with l.setting.mode l.setting.params l.setting.structs.now l.setting.table.now) l.caller.args.now l.caller.pair.now) l.specs
    ≡ map fit_in l.fits.items
    ++ filter_map
    (found (setting_with l.setting.mode l.setting.params l.setting.structs.now l.setting.table.now) l.caller.args.now l.caller.pair.now)
    (drop l.spec-index l.specs))
    × All (IsRoomy l.caller) l.fits.items
