-- Keys that are composed of a well-formed program, and of callees that are well formed over its structures.
use Rattle.std.specs.Prelude.{◌≡◌, ℕ, List, All, slice_get}
use Rattle.std.specs.List.{AllZip, Contains}
use Rattle.std.specs.declared.option.Option.TheVariants.{Some}
use Rattle.shape_data.specs.declared.answer.Answer.{Answer}
use Rattle.shape_data.specs.declared.answer.Callee.{Callee}
use Rattle.shape_data.specs.declared.answer.Key.{Key}
use Rattle.shape_data.specs.declared.program.Flow.{Flow}
use Rattle.shape_data.specs.declared.program.Program.{Program}
use Rattle.shape_data.specs.declared.program.StructDef.{StructDef}
use Rattle.shape_data.specs.Structures.{ContainsStructures}
use Rattle.shape_data.specs.WellFormed.{AreStructs, IsAnswer, IsCallee, IsKey, IsProgram, Limits}
use Rattle.component_keys.specs.Keys.{Component, Outer, key_over, program_components, specs_in}
use Rattle.component_keys.specs.Structures.{structs_used}

-- the callee is the procedure outside, with its parameters
pub record IsCalleeFor (outer : Outer) (callee : Callee) : Type 0 where
  pub name : callee.name ≡ outer.name
  pub params : callee.params ≡ outer.params

-- a key of a component of a well-formed program is well formed, where its callees are so over the program's structures
abbrev pub ComposedKeysAreFormed : Type 0
ComposedKeysAreFormed =
    (limits : Limits) (program : Program) (place : ℕ) (component : Component) (callees : List Callee) → IsProgram program →
    slice_get (program_components program) place ≡ Some component → AllZip IsCalleeFor component.outer callees →
    All (IsCallee limits program.structs) callees →
    IsKey limits (key_over program.structs component.flows callees)

-- the structures used are some of the listed ones, with the same definitions
abbrev pub UsedAreContained : Type 0
UsedAreContained =
    (structs : List StructDef) (flows : List Flow) (callees : List Callee) → AreStructs structs →
    ContainsStructures structs (structs_used structs flows callees)

-- a procedure of a key as a callee, with the specs that an answer has for it, is well formed over each list that contains the key's
-- structures
abbrev pub AnswersMakeCallees : Type 0
AnswersMakeCallees =
    (limits : Limits) (structs : List StructDef) (key : Key) (answer : Answer) (flow : Flow) → IsKey limits key →
    IsAnswer limits key answer →
    ContainsStructures structs key.structs → Contains key.procs flow →
    IsCallee limits structs (record { name = flow.name; params = flow.params; specs = specs_in answer flow.name })
