-- The tests tell what a graph of calls is.
use Rattle.call_components.proofs.Graphs.{graph_of_tested, tested_of}
use Rattle.call_components.proofs.graph.is_call_graph.Goals as goal

pub returns : goal.returns
returns c = (
  λ t. graph_of_tested c.args.names.now c.args.calls.now (c.is_tested.ensures.0 t),
  λ graph. c.is_tested.ensures.1 (tested_of c.args.names.now c.args.calls.now graph),
)
