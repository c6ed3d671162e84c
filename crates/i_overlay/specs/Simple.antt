-- Contours that are simple as they are added, and the direction in which they run.
use Rattle.std.specs.Prelude.{◌≡◌, ◌≢◌, cond, List, [], map, Contains}
use Rattle.overlay_geom.specs.Plane.{Point, Step, is_forward, edge_of, steps_of}
use Rattle.overlay_geom.specs.Edges.{CountedEdge, subject_edge}
use Rattle.overlay_geom.specs.declared.solver.Solver.TheVariants.{Rounds}
use Rattle.overlay_geom.specs.declared.options.ContourDirection.{ContourDirection}
use Rattle.overlay_geom.specs.declared.options.ContourDirection.TheVariants.{CounterClockwise, Clockwise}
use Rattle.overlay_plane.specs.Arrangements.{IsReachedBy}
use Rattle.overlay_plane.specs.Groups.{HasEachPointOnce}
use Rattle.overlay_plane.specs.LeftmostSteps.{NoneHasEndBefore, NoneTakenBelow}

-- the edges of the contour's steps, as a subject's
abbrev pub subject_edges : List Point → List CountedEdge
subject_edges ps = map subject_edge (steps_of ps)

-- no point of the contour is visited twice, and none of its edges is cut where others meet it; these edges, of which
-- there are some, are left. Without a round both solvers say the same.
pub record IsSimple (ps : List Point) (es : List CountedEdge) : Type 0 where
  pub points_once : HasEachPointOnce ps
  pub none_cut : IsReachedBy Rounds [] (subject_edges ps) es
  pub some_edge : es ≢ []

-- the step along the lowest edge at the leftmost lowest point of the steps
pub record IsLowestStep (steps : List Step) (s : Step) : Type 0 where
  pub among : Contains steps s
  pub leftmost : NoneHasEndBefore steps (edge_of s).a
  pub lowest : NoneTakenBelow steps (edge_of s).a (edge_of s)

-- a simple contour runs in this direction: clockwise where it passes that edge from its larger to its smaller end
pub record RunsIn (direction : ContourDirection) (ps : List Point) : Type 0 where
  pub step : Step
  pub is_lowest : IsLowestStep (steps_of ps) step
  pub passed : direction ≡ cond (is_forward step) CounterClockwise Clockwise
