-- The shapes into which strings slice a shape, in the direction that is asked for, without small contours.
use Rattle.std.specs.Prelude.{◌≡◌, ◌≢◌, ◌⊎◌, List, []}
use Rattle.overlay_builder.specs.PathLists.{AddedPath, HoldsPaths}
use Rattle.overlay_extract.specs.Results.{Asked}
use Rattle.overlay_extract.specs.Sliced.{IsSliced}
use Rattle.overlay_geom.specs.Edges.{CountedEdge}
use Rattle.overlay_geom.specs.Plane.{Point}
use Rattle.overlay_geom.specs.declared.solver.Solver.{Solver}
use Rattle.overlay_graph.specs.Arranged.{IsArranged}
use Rattle.overlay_plane.specs.ShapeWindings.{steps_of_shapes}
use Rattle.overlay_string.specs.FarSlices.{WindsRoundFarFilled}

-- the shapes into which what the subject fills is sliced along the edges; none where there is no edge
abbrev pub AreSlicesAlong : Asked → List CountedEdge → List (List (List Point)) → Type 0
AreSlicesAlong q es shapes = ((es ≡ []) × (shapes ≡ []))
    ⊎ ((es ≢ []) × IsSliced q.area_width q.min_output_area q.fill q.output_direction es shapes)

-- the same along some arrangement, by the solver, of the edges that the paths give
pub record AreSlicesOfPaths (solver : Solver) (q : Asked) (paths : List (AddedPath CountedEdge))
    (shapes : List (List (List Point))) : Type 0 where
  pub content : List CountedEdge
  pub edges : List CountedEdge
  pub holds : HoldsPaths paths content
  pub arranged : IsArranged solver content edges
  pub sliced : AreSlicesAlong q edges shapes
  -- with the minimum area zero they wind as asked of the edges that the paths give, far from these: k rounds moved some
  -- point
  pub winds : q.min_output_area ≡ 0 →
      WindsRoundFarFilled arranged.moving q.fill q.output_direction content (steps_of_shapes shapes)
