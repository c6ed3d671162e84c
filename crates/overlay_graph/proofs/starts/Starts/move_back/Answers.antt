-- The comparison is an order, so the places moved back stay in it.
use Rattle.std.proofs.Common.{rules}
use Rattle.overlay_order.specs.Content.{plain_edge, plain_edges}
use Rattle.overlay_graph.proofs.PlacedEdges.{place_before, place_before-order}
use Rattle.overlay_graph.proofs.starts.Starts.move_back.Goals as goal

pub returns-clause-sorted : goal.returns-clause-sorted
returns-clause-sorted g c = λ home up.
    let es = plain_edges g.I.IntNumber.whole g.C.EdgeCount.counts c.args.self.now.edges.now in
    let behind = plain_edge g.I.IntNumber.whole g.C.EdgeCount.counts c.args.self.now.behind in
    let held = c.args.self.now.edges_are_held in
    let last = c.args.self.now.behind_is_held in
    c.move_back.ensures.sorted home (place_before g.I.IntNumber.limit es behind held last)
    (place_before-order g.I.IntNumber.limit es behind held last)
    (λ j k o h. search rules) up
