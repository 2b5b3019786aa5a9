use Rattle.sym_parts.proofs.ShapesLemmas.ContainingShapes.{
  atom-carries,
  callee-carries,
  callees-carry,
  cert-carries,
  post-carries,
  spec-carries,
}
use Rattle.sym_parts.proofs.ShapesLemmas.ContainingShapes.{state-carries, states-carry, summary-carries, sym_heap-carries}
use Rattle.sym_parts.proofs.shapes.structures.shapes_carry.Goals as goal

pub returns-clause-atom : goal.returns-clause-atom
returns-clause-atom c = λ limits larger smaller contains. atom-carries larger smaller contains limits

pub returns-clause-heap : goal.returns-clause-heap
returns-clause-heap c = λ limits larger smaller contains. sym_heap-carries larger smaller contains limits

pub returns-clause-state : goal.returns-clause-state
returns-clause-state c = λ limits larger smaller contains. state-carries larger smaller contains limits

pub returns-clause-states : goal.returns-clause-states
returns-clause-states c = λ limits larger smaller contains. states-carry larger smaller contains limits

pub returns-clause-post : goal.returns-clause-post
returns-clause-post c = λ limits larger smaller contains. post-carries larger smaller contains limits

pub returns-clause-spec : goal.returns-clause-spec
returns-clause-spec c = λ limits larger smaller contains. spec-carries larger smaller contains limits

pub returns-clause-cert : goal.returns-clause-cert
returns-clause-cert c = λ limits larger smaller contains. cert-carries larger smaller contains limits

pub returns-clause-callee : goal.returns-clause-callee
returns-clause-callee c = λ limits larger smaller contains. callee-carries larger smaller contains limits

pub returns-clause-callees : goal.returns-clause-callees
returns-clause-callees c = λ limits larger smaller contains. callees-carry larger smaller contains limits

pub returns-clause-summary : goal.returns-clause-summary
returns-clause-summary c = λ limits larger smaller contains. summary-carries larger smaller contains limits
