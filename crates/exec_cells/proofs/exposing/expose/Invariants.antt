use Rattle.std.proofs.Common.{◌≡◌, ◌-◌, ◌++◌, length}
use Rattle.std.specs.Prelude.{reverse}
use Rattle.exec_laws.specs.Exposing.{expose_within}
use Rattle.exec_cells.specs.InSetting.{setting_with}
use Rattle.exec_cells.specs.Sizes.{IsLowPair}
use Rattle.exec_cells.proofs.exposing.expose.Given as goal

abbrev pub invariant-loop-done : goal.invariant-loop-done
invariant-loop-done l =
    (expose_within (length l.fn.pair.state.heap.spatial)
    (setting_with l.setting.mode l.setting.params l.setting.structs.now l.setting.table.now) l.kind l.slot l.fn.pair
    ≡ expose_within (length l.fn.pair.state.heap.spatial - l.done)
    (setting_with l.setting.mode l.setting.params l.setting.structs.now l.setting.table.now) l.kind l.slot l.current
    ++ reverse l.noted.items)
    × IsLowPair l.current
