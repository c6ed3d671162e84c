-- The result is a graph.
use Rattle.overlay_graph.proofs.FilledVectors.{graph_made}
use Rattle.overlay_graph.proofs.graph.Graph.filled.Goals as goal

pub invariant_of-result : goal.invariant_of-result
invariant_of-result g c =
    graph_made g.I.IntNumber.whole g.C.EdgeCount.counts g.I.IntNumber.limit c.args.fill_rule c.args.edges.now
    c.in_ok-edges.edges.items
    c.args.fills.now (record {
      content = c.requires.content;
      ascending = c.requires.ascending;
      settled =
          c.requires.settled;
    })
    c.requires.fills c.in_ok-edges.ensures.edges c.in_ok-edges.ensures.fills
