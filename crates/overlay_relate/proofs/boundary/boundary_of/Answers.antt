-- The edges found by their bits bound the shape.
use Rattle.std.proofs.Common.{sym, ap, ◌∙◌, subst}
use Rattle.std.specs.List.{All, flat_map}
use Rattle.overlay_geom.specs.Resolved.{plain_edges, IsLongEdge}
use Rattle.overlay_geom.specs.Rules.{is_filled}
use Rattle.overlay_graph.specs.Graphs.{graph_edges}
use Rattle.overlay_relate.specs.Boundaries.{bounding}
use Rattle.overlay_relate.proofs.BoundingBits.{bounds_by_edges, long_edges}
use Rattle.overlay_relate.proofs.boundary.boundary_of.Goals as goal

pub returns-clause-bounds : goal.returns-clause-bounds
returns-clause-bounds g c =
    let graph = c.args.graph.now in
    bounds_by_edges graph.fill_rule (graph_edges graph) g.I.IntNumber.limit c.edges.ensures.arranged c.requires
    (plain_edges g.I.IntNumber.whole c.in_ok-boundary.boundary.items)
    (c.in_ok-boundary.ensures.ok ∙ ap (flat_map bounding) c.edges.ensures.filled)

pub returns-clause-long : goal.returns-clause-long
returns-clause-long g c =
    let graph = c.args.graph.now in
    let limit = g.I.IntNumber.limit in
    let bounds = bounds_by_edges graph.fill_rule (graph_edges graph) limit c.edges.ensures.arranged c.requires
    (plain_edges g.I.IntNumber.whole c.in_ok-boundary.boundary.items)
    (c.in_ok-boundary.ensures.ok ∙ ap (flat_map bounding) c.edges.ensures.filled) in
    subst (All (IsLongEdge limit)) (sym bounds.are)
    (long_edges limit (is_filled graph.fill_rule) (graph_edges graph) c.edges.ensures.arranged.content)
