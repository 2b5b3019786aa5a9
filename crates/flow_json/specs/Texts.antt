-- What is well formed can be written: its names are C names, and so texts.
use Rattle.std.specs.Prelude.{List}
use Rattle.shape_data.specs.declared.program.Flow.{Flow}
use Rattle.shape_data.specs.declared.program.StructDef.{StructDef}
use Rattle.shape_data.specs.WellFormed.{AreStructs, IsFlow, IsStruct}
use Rattle.flow_json.specs.Flows.{FlowIsText}
use Rattle.flow_json.specs.Types.{StructIsText}

-- each well-formed structure is
abbrev pub StructsAreTexts : Type 0
StructsAreTexts = (def : StructDef) → IsStruct def → StructIsText def

-- each well-formed flow over well-formed structures is
abbrev pub FlowsAreTexts : Type 0
FlowsAreTexts = (structs : List StructDef) (flow : Flow) → AreStructs structs → IsFlow structs flow → FlowIsText flow
