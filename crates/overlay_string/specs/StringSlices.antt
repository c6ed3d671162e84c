-- What a shape is sliced into along strings.
use Rattle.std.specs.Prelude.{◌≡◌, ℕ, List}
use Rattle.std.specs.Int.{Width}
use Rattle.overlay_geom.specs.Plane.{Point}
use Rattle.overlay_geom.specs.Edges.{CountedEdge}
use Rattle.overlay_geom.specs.declared.solver.Solver.{Solver}
use Rattle.overlay_geom.specs.declared.fill_rule.FillRule.{FillRule}
use Rattle.overlay_geom.specs.declared.options.ContourDirection.TheVariants.{CounterClockwise}
use Rattle.overlay_geom.specs.declared.options.IntOverlayOptions.{IntOverlayOptions}
use Rattle.overlay_graph.specs.Graphs.{Graph, graph_edges}
use Rattle.overlay_graph.specs.Arranged.{IsArranged}
use Rattle.overlay_builder.specs.PathLists.{AddedPath, HoldsPaths}
use Rattle.overlay_extract.specs.Sliced.{IsSliced}
use Rattle.overlay_plane.specs.ShapeWindings.{steps_of_shapes}
use Rattle.overlay_string.specs.FarSlices.{WindsRoundFarShape}
use Rattle.overlay_string.specs.OneShot.{shape_and_strings}

-- the shapes into which what the graph's shape fills is sliced along the graph's edges, strings too, as the options ask
-- for: in their output direction, and without contours below their minimum area, in a type of this width
abbrev pub IsSlicedBy : {C U : Type 0} → Width → (U → ℕ) → IntOverlayOptions U → Graph C → List (List (List Point)) →
    Type 0
IsSlicedBy width natural options g result =
    IsSliced width (natural options.min_output_area) g.fill_rule options.output_direction (graph_edges g) result

-- and the same by the default options: outlines run counterclockwise, and none is too small
abbrev pub IsSlicedWhole : Width → FillRule → List CountedEdge → List (List (List Point)) → Type 0
IsSlicedWhole width fill es result = IsSliced width 0 fill CounterClockwise es result

-- the shapes are those slices over an arrangement of the edges, which the solver splits
pub record AreSliced (width : Width) (solver : Solver) (fill : FillRule) (es : List CountedEdge)
    (result : List (List (List Point))) : Type 0 where
  pub arrangement : List CountedEdge
  pub arranged : IsArranged solver es arrangement
  pub sliced : IsSlicedWhole width fill arrangement result

-- and of the edges that the paths give
pub record AreSlicedOfPaths (solver : Solver) (width : Width) (fill : FillRule)
    (paths : List (AddedPath CountedEdge)) (result : List (List (List Point))) : Type 0 where
  pub content : List CountedEdge
  pub holds : HoldsPaths paths content
  pub sliced : AreSliced width solver fill content result
  -- of a shape and strings they wind as the shape's contours ask, far from all of them: k rounds moved some point
  pub winds : (shape strings : List (List Point)) → paths ≡ shape_and_strings shape strings →
      WindsRoundFarShape sliced.arranged.moving fill shape strings (steps_of_shapes result)
