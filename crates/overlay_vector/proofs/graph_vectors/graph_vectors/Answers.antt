-- What is listed of the graph's edges are all of them.
use Rattle.std.proofs.Common.{◌≡◌, map, ◌∙◌}
use Rattle.std.proofs.lemmas.Result.{IfOk-weaker}
use Rattle.overlay_order.specs.Counts.{boolean_counts}
use Rattle.overlay_graph.specs.Graphs.{graph_edges}
use Rattle.overlay_vector.specs.DataVectors.{plain_data_vectors, graph_vectors}
use Rattle.overlay_vector.specs.ListedVectors.{uncounted}
use Rattle.overlay_vector.proofs.ListedVectors.{listed_all}
use Rattle.overlay_vector.proofs.graph_vectors.graph_vectors.Goals as goal

pub returns : goal.returns
returns g c = record {
  listed = let whole = g.I.IntNumber.whole in
      let graph = c.args.graph.now in
      let edges = c.edges.result.now in
      let listed = listed_all graph.fill_rule (graph_edges graph) whole (λ k. boolean_counts k.count) edges
      graph.edges c.edges.ensures.carried c.edges.ensures.filled in
      IfOk-weaker c.all_with_data.result (λ v. plain_data_vectors whole v.items ≡ map (uncounted whole) edges)
      (λ v. plain_data_vectors whole v.items ≡ graph_vectors graph.fill_rule graph.edges)
      (λ v is. is ∙ listed)
      c.all_with_data.ensures.ok;
}
