-- What a view shows of a builder.
use Rattle.std.specs.Prelude.{◌≡◌, ◌≢◌, ℕ, List, []}
use Rattle.std.specs.Int.{Width}
use Rattle.overlay_geom.specs.Edges.{CountedEdge}
use Rattle.overlay_geom.specs.Plane.{Step}
use Rattle.overlay_geom.specs.declared.solver.Solver.{Solver}
use Rattle.overlay_geom.specs.declared.fill_rule.FillRule.{FillRule}
use Rattle.overlay_geom.specs.declared.options.IntOverlayOptions.{IntOverlayOptions}
use Rattle.overlay_geom.specs.declared.overlay_rule.OverlayRule.{OverlayRule}
use Rattle.overlay_graph.specs.Graphs.{Graph, graph_edges}
use Rattle.overlay_graph.specs.Arranged.{IsArranged}
use Rattle.overlay_extract.specs.GivenRegion.{WindsRoundFarPoints}
use Rattle.overlay_extract.specs.Results.{Asked, WindsRoundRegion, asked}

-- what a view shows: a graph, and the options by which contours are extracted from it
pub record Viewed (C U : Type 0) : Type 0 where
  pub graph : Graph C
  pub options : IntOverlayOptions U

-- the counted edges that a view shows
abbrev pub viewed_edges : {C U : Type 0} → Viewed C U → List CountedEdge
viewed_edges v = graph_edges v.graph

-- what an extraction from a view by this rule asks for, by the view's own fill rule and options
abbrev pub asked_of : {C U : Type 0} → Width → (U → ℕ) → Viewed C U → OverlayRule → Asked
asked_of area_width natural v rule = asked area_width natural v.graph.fill_rule rule v.options

-- a view of an arrangement with some edge, of a builder that held these edges and had these options
pub record IsView {C U : Type 0} (solver : Solver) (rule : FillRule) (options : IntOverlayOptions U)
    (held : List CountedEdge)
    (view : Viewed C U) : Type 0 where
  pub arranged : IsArranged solver held (viewed_edges view)
  pub some_edge : viewed_edges view ≢ []
  pub filled : view.graph.fill_rule ≡ rule
  pub optioned : view.options ≡ options
  -- steps that wind as asked off the view's edges wind as asked of the edges that the builder held, far from these
  pub far : (q : Asked) (steps : List Step) → WindsRoundRegion q (viewed_edges view) steps →
      WindsRoundFarPoints arranged.moving q held steps
