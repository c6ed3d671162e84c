-- What queries of paths answer that leave no builder.
use Rattle.std.specs.Prelude.{◌≡◌, ℕ, false, cond, pos, List, map}
use Rattle.std.specs.Int.{Width}
use Rattle.overlay_geom.specs.Plane.{Point, PlanePoint, Step, winding}
use Rattle.overlay_geom.specs.Edges.{CountedEdge}
use Rattle.overlay_geom.specs.declared.error.OverlayError.{OverlayError}
use Rattle.overlay_geom.specs.declared.solver.Solver.{Solver}
use Rattle.overlay_geom.specs.declared.fill_rule.FillRule.{FillRule}
use Rattle.overlay_geom.specs.declared.overlay_rule.OverlayRule.{OverlayRule}
use Rattle.overlay_geom.specs.declared.options.ContourDirection.TheVariants.{CounterClockwise}
use Rattle.overlay_geom.specs.declared.options.ShapeType.TheVariants.{Subject, Clip}
use Rattle.overlay_order.specs.Vectors.{Vector, vector_of}
use Rattle.overlay_graph.specs.Arranged.{IsArranged}
use Rattle.overlay_builder.specs.GivenPaths.{GivenPath, added_paths}
use Rattle.overlay_builder.specs.PathLists.{HoldsPaths}
use Rattle.overlay_builder.specs.PathWindings.{winding_of_paths, IsFarFromPaths}
use Rattle.overlay_extract.specs.PlacedResults.{IsHierarchy}
use Rattle.overlay_extract.specs.Results.{Asked, IsResult, region_asked, filled_asked}
use Rattle.overlay_plane.specs.ContourWindings.{once_round}
use Rattle.overlay_plane.specs.Islands.{ChildLink}
use Rattle.overlay_plane.specs.ShapeWindings.{steps_of_shapes}
use Rattle.i_overlay.specs.Alone.{MayRefuseAlone}

-- what rules ask for with the default options
abbrev pub asked_by_default : Width → FillRule → OverlayRule → Asked
asked_by_default area_width fill rule = record {
  fill = fill;
  rule = rule;
  output_direction = CounterClockwise;
  preserve_output_collinear = false;
  ogc = false;
  min_output_area = 0;
  area_width = area_width;
}

-- round each point more than k/2 away from the paths, in x or in y, the contours wind once, in the output direction,
-- where the rules hold of the windings of the paths. They wind zero times round each other such point
abbrev pub WindsRoundFarPaths : ℕ → Asked → List GivenPath → List Step → Type 0
WindsRoundFarPaths k q paths steps = (p : PlanePoint) → IsFarFromPaths k paths p →
    winding steps p ≡ cond (region_asked q (winding_of_paths Subject paths p) (winding_of_paths Clip paths p))
    (once_round (filled_asked q)) (pos 0)

-- the result over some arrangement, by the solver, of the edges that the paths give
pub record IsResultOfPaths (solver : Solver) (q : Asked) (paths : List GivenPath)
    (result : List (List (List Point))) : Type 0 where
  pub content : List CountedEdge
  pub edges : List CountedEdge
  pub holds : HoldsPaths (added_paths false paths) content
  pub arranged : IsArranged solver content edges
  pub is_result : IsResult q edges result
  -- with the minimum area zero it winds as asked of the paths, far from them: k rounds moved some point
  pub winds : q.min_output_area ≡ 0 → WindsRoundFarPaths arranged.moving q paths (steps_of_shapes result)

-- the shapes and links over some arrangement, by the solver, of the edges that the paths give
pub record IsHierarchyOfPaths (solver : Solver) (q : Asked) (paths : List GivenPath)
    (shapes : List (List (List Point))) (links : List ChildLink) : Type 0 where
  pub content : List CountedEdge
  pub edges : List CountedEdge
  pub holds : HoldsPaths (added_paths false paths) content
  pub arranged : IsArranged solver content edges
  pub is_hierarchy : IsHierarchy q edges shapes links
  -- with the minimum area zero the shapes wind as asked of the paths, far from them
  pub winds : q.min_output_area ≡ 0 → WindsRoundFarPaths arranged.moving q paths (steps_of_shapes shapes)

-- the edges in order of some arrangement, by the solver, of those that the paths give, with the sides that are filled
pub record AreEdgesOfPaths (solver : Solver) (fill : FillRule) (paths : List GivenPath)
    (vectors : List Vector) : Type 0 where
  pub content : List CountedEdge
  pub edges : List CountedEdge
  pub holds : HoldsPaths (added_paths false paths) content
  pub arranged : IsArranged solver content edges
  pub listed : vectors ≡ map (vector_of fill edges) edges

-- the paths may be refused so
abbrev pub MayRefusePaths : Solver → List GivenPath → OverlayError → Type 0
MayRefusePaths solver = MayRefuseAlone false solver
