-- The graph that is handed on is that of C, and so is the answer.
use Rattle.polyover_c.proofs.graph.polyover_graph_edges_result.Goals as goal

pub returns : goal.returns
returns c = record {
  status = c.graph_edges_held.result.status;
  so = rw c.give.ensures.held (rw (
    c.held.ensures.edges,
    c.held.ensures.fill,
  ) at c.graph_edges_held.ensures);
  told = c.give.ensures.code;
}
