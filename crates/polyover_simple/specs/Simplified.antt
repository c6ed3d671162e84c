-- What paths are simplified to, and whether they stay as they are given.
use Rattle.std.specs.Prelude.{◌≡◌, ◌↔◌, Bool, IsTrue, List}
use Rattle.overlay_builder.specs.GivenPaths.{paths_for}
use Rattle.overlay_extract.specs.Results.{Asked}
use Rattle.overlay_geom.specs.Edges.{CountedEdge}
use Rattle.overlay_geom.specs.Plane.{Point}
use Rattle.overlay_geom.specs.declared.options.ShapeType.TheVariants.{Subject}
use Rattle.overlay_geom.specs.declared.solver.Solver.{Solver}
use Rattle.overlay_plane.specs.ShapeWindings.{steps_of_shapes}
use Rattle.i_overlay.specs.Alone.{IsArrangedAlone}
use Rattle.i_overlay.specs.OneShot.{WindsRoundFarPaths}
use Rattle.i_overlay.specs.Simplified.{IsSimplified, StayAsGiven}

-- the shapes are those that the paths are simplified to over some arrangement, by the solver, of these alone: one path
-- whatever the minimum area is. It is told whether they stay as they are given
pub record AreSimplifiedSo (solver : Solver) (q : Asked) (keep : Bool) (paths : List (List Point))
    (shapes : List (List (List Point))) (stay : Bool) : Type 0 where
  pub edges : List CountedEdge
  pub arranged : IsArrangedAlone keep solver (paths_for Subject paths) edges
  pub simplified : IsSimplified q keep paths edges shapes
  pub as_given : IsTrue stay ↔ StayAsGiven q keep paths edges
  -- with the minimum area zero they wind as asked of the paths, far from them: k rounds moved some point
  pub winds : q.min_output_area ≡ 0 →
      WindsRoundFarPaths arranged.arranged.moving q (paths_for Subject paths) (steps_of_shapes shapes)
