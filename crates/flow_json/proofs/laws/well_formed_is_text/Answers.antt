use Rattle.flow_json.proofs.TextLaws.{flow_is_text, struct_is_text}
use Rattle.flow_json.proofs.laws.well_formed_is_text.Goals as goal

pub returns-clause-structs : goal.returns-clause-structs
returns-clause-structs c = struct_is_text

pub returns-clause-flows : goal.returns-clause-flows
returns-clause-flows c = flow_is_text
