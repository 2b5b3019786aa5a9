-- The setting of an execution as the code has it.
use Rattle.std.specs.Prelude.{ℕ, ◌≤◌, List}
use Rattle.shape_data.specs.declared.program.StructDef.{StructDef}
use Rattle.shape_data.specs.WellFormed.{AreStructs}
use Rattle.exec_laws.specs.declared.parts.Mode.{Mode}
use Rattle.exec_laws.specs.declared.parts.Table.{Table}
use Rattle.exec_laws.specs.Pairs as pairs
use Rattle.exec_cells.specs.declared.setting.Setting.{Setting}

-- the setting of an execution in this mode, of a procedure with so many parameters, with these structures and specs
abbrev pub setting_with : Mode → ℕ → List StructDef → Table → pairs.Setting
setting_with mode params structs table = record { mode = mode; params = params; structs = structs; table = table }

-- the definitions' setting
abbrev pub setting_in : Setting → pairs.Setting
setting_in setting = setting_with setting.mode setting.params setting.structs.now setting.table.now

-- the structures are well formed, and the parameters are few
pub record IsGood (setting : pairs.Setting) : Type 0 where
  pub structs : AreStructs setting.structs
  pub params : setting.params ≤ 32768
