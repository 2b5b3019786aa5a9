-- Procedures as callees.
use Rattle.shape_data.specs.declared.answer.Answer.{Answer}
use Rattle.shape_data.specs.declared.answer.Callee.{Callee}
use Rattle.shape_data.specs.declared.program.Flow.{Flow}
use Rattle.component_keys.specs.Keys.{specs_in}

-- a procedure as a callee, with the specs that an answer has for it
abbrev pub known_as : Flow → Answer → Callee
known_as flow answer = record { name = flow.name; params = flow.params; specs = specs_in answer flow.name }
