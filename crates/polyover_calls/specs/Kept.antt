-- Answers about paths whose points on one line are kept as they are added, or dropped.
use Rattle.std.specs.Prelude.{◌≡◌, Bool, List}
use Rattle.overlay_geom.specs.Edges.{CountedEdge}
use Rattle.overlay_geom.specs.Plane.{Point}
use Rattle.overlay_geom.specs.declared.solver.Solver.{Solver}
use Rattle.overlay_plane.specs.Islands.{ChildLink}
use Rattle.overlay_plane.specs.ShapeWindings.{steps_of_shapes}
use Rattle.overlay_graph.specs.Arranged.{IsArranged}
use Rattle.overlay_builder.specs.GivenPaths.{GivenPath, added_paths}
use Rattle.overlay_builder.specs.PathLists.{HoldsPaths}
use Rattle.overlay_extract.specs.PlacedResults.{IsHierarchy}
use Rattle.overlay_extract.specs.Results.{Asked, IsResult}
use Rattle.i_overlay.specs.OneShot.{WindsRoundFarPaths}

-- the result over some arrangement, by the solver, of the edges that the paths give, with all their points or without
-- those on one line with their neighbours
pub record IsResultAsAdded (keep : Bool) (solver : Solver) (q : Asked) (paths : List GivenPath)
    (result : List (List (List Point))) : Type 0 where
  pub content : List CountedEdge
  pub edges : List CountedEdge
  pub holds : HoldsPaths (added_paths keep paths) content
  pub arranged : IsArranged solver content edges
  pub is_result : IsResult q edges result
  -- with the minimum area zero it winds as asked of the paths, far from them: k rounds moved some point
  pub winds : q.min_output_area ≡ 0 → WindsRoundFarPaths arranged.moving q paths (steps_of_shapes result)

-- the shapes and links over such an arrangement
pub record IsHierarchyAsAdded (keep : Bool) (solver : Solver) (q : Asked) (paths : List GivenPath)
    (shapes : List (List (List Point))) (links : List ChildLink) : Type 0 where
  pub content : List CountedEdge
  pub edges : List CountedEdge
  pub holds : HoldsPaths (added_paths keep paths) content
  pub arranged : IsArranged solver content edges
  pub is_hierarchy : IsHierarchy q edges shapes links
  -- with the minimum area zero the shapes wind as asked of the paths, far from them
  pub winds : q.min_output_area ≡ 0 → WindsRoundFarPaths arranged.moving q paths (steps_of_shapes shapes)
