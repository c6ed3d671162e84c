-- The edges are arranged, and their graph has the pieces.
use Rattle.std.proofs.Common.{sym, subst}
use Rattle.overlay_geom.specs.Flat.{paths_in}
use Rattle.overlay_geom.specs.Settled.{IsSettled}
use Rattle.overlay_plane.specs.Carried.{edges_in}
use Rattle.overlay_order.specs.declared.string_count.ShapeCountString.{ShapeCountString}
use Rattle.overlay_graph.specs.Graphs.{Graph, graph_edges}
use Rattle.overlay_graph.specs.Arranged.{IsArranged}
use Rattle.overlay_string.specs.ClipPaths.{ArePathsOf}
use Rattle.overlay_string.specs.ClipPieces.{clip_pieces}
use Rattle.overlay_string.proofs.string_overlay.StringOverlay.clip_string_lines_flat.Goals as goal

pub graph_of_balanced-requires-clause-settled : goal.graph_of_balanced-requires-clause-settled
graph_of_balanced-requires-clause-settled g c =
    subst (λ es. IsSettled (edges_in es)) (sym c.content.ensures.edges)
    c.in_ok-arrange.ensures.query.arranged.reached.settled

pub returns-clause-clipped : goal.returns-clause-clipped
returns-clause-clipped g c =
    let whole = g.I.IntNumber.whole in
    let rule = c.args.clip_rule in
    let arrangement = edges_in c.arrange.new.self.edges in
    let paths = paths_in whole c.in_ok-paths.paths.points.items c.in_ok-paths.paths.ranges.items in
    record {
      arrangement = arrangement;
      arranged = subst (λ b. IsArranged c.args.solver b.edges arrangement) c.self.view_is
          c.in_ok-arrange.ensures.query.arranged;
      forward = λ k d lt. (c.in_ok-arrange.ensures.query.content.held k d lt).forward;
      paths_of = subst (λ es. ArePathsOf (clip_pieces c.args.fill_rule rule (edges_in es)) paths)
          c.content.ensures.edges
          (subst (λ (h : Graph ShapeCountString). ArePathsOf (clip_pieces h.fill_rule rule (graph_edges h)) paths)
          c.in_ok-graph.ensures.ok c.in_ok-paths.ensures.paths);
    }
