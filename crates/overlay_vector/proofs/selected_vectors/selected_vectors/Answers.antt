-- What is listed of the graph's edges are the selected ones.
use Rattle.std.proofs.Common.{◌≡◌, ◌∙◌}
use Rattle.std.specs.List.{flat_map}
use Rattle.std.proofs.lemmas.Result.{IfOk-weaker}
use Rattle.overlay_order.specs.Counts.{boolean_counts}
use Rattle.overlay_graph.specs.Graphs.{graph_edges}
use Rattle.overlay_vector.specs.DataVectors.{plain_data_vectors, selected_vectors}
use Rattle.overlay_vector.specs.ListedVectors.{vectors_by_bits}
use Rattle.overlay_vector.proofs.ListedVectors.{listed_selected}
use Rattle.overlay_vector.proofs.selected_vectors.selected_vectors.Goals as goal

pub returns : goal.returns
returns g c = record {
  listed = let whole = g.I.IntNumber.whole in
      let rule = c.args.overlay_rule in
      let graph = c.args.graph.now in
      let edges = c.edges.result.now in
      let listed = listed_selected graph.fill_rule rule (graph_edges graph) whole (λ k. boolean_counts k.count) edges
      graph.edges c.edges.ensures.carried c.edges.ensures.filled in
      IfOk-weaker c.listed.result (λ v. plain_data_vectors whole v.items ≡ flat_map (vectors_by_bits whole rule) edges)
      (λ v. plain_data_vectors whole v.items ≡ selected_vectors graph.fill_rule rule graph.edges)
      (λ v is. is ∙ listed)
      c.listed.ensures.ok;
}
