use Rattle.sym_parts.proofs.ShapesLemmas.ContainingShapes.{cmd-carries, field-carries, flow-carries, kind-carries, procs-carry}
use Rattle.sym_parts.proofs.shapes.structures.flows_carry.Goals as goal

pub returns-clause-kind : goal.returns-clause-kind
returns-clause-kind c = kind-carries

pub returns-clause-field : goal.returns-clause-field
returns-clause-field c = field-carries

pub returns-clause-cmd : goal.returns-clause-cmd
returns-clause-cmd c = cmd-carries

pub returns-clause-flow : goal.returns-clause-flow
returns-clause-flow c = flow-carries

pub returns-clause-procs : goal.returns-clause-procs
returns-clause-procs c = procs-carry
