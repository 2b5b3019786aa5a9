use Rattle.flow_json.proofs.FlowLaws.{flow_inverse}
use Rattle.flow_json.proofs.TypeLaws.{struct_inverse}
use Rattle.flow_json.proofs.laws.reading_is_inverse.Goals as goal

pub returns-clause-structs : goal.returns-clause-structs
returns-clause-structs c = struct_inverse

pub returns-clause-flows : goal.returns-clause-flows
returns-clause-flows c = flow_inverse
