-- The graph and the options that are handed on are those of C, and so is the answer.
use Rattle.polyover_c.proofs.graph.polyover_graph_hierarchy_result_with_32.Goals as goal

pub returns : goal.returns
returns c = record {
  status = c.graph_hierarchy_held.result.status;
  so = rw c.give.ensures.held (rw (
    c.numbers.ensures,
    c.held.ensures.edges,
    c.held.ensures.fill,
    c.held.ensures.solver,
    c.held.ensures.keep_given,
  ) at c.graph_hierarchy_held.ensures);
  told = c.give.ensures.code;
}
