-- Paths that become counted edges: the ways in which their points are taken, and the counts of the edge of a step.
use Rattle.std.specs.Prelude.{◌≡◌, ◌^◌, ◌<◌, ◌++◌, Bool, true, false, cond, List, map}
use Rattle.overlay_geom.specs.Counts.{Counts, weight_of_counts}
use Rattle.overlay_geom.specs.Plane.{Point, Step, edge_of, is_forward, path_steps, steps_of}
use Rattle.overlay_geom.specs.Thinned.{IsThinned}
use Rattle.overlay_plane.specs.Carried.{Carried}
use Rattle.overlay_order.specs.Content.{edge_with}
use Rattle.overlay_builder.specs.declared.path.PathKind.{PathKind}
use Rattle.overlay_builder.specs.declared.path.PathKind.TheVariants.{Open, Closed, Thinned}
use Rattle.overlay_builder.specs.declared.path.StepCounts.{StepCounts}

-- ---- the edge of a step

-- the value of an edge that the step passes, from its smaller to its larger end or back
abbrev pub count_of_step : {C : Type 0} → StepCounts C → Step → C
count_of_step passing s = cond (is_forward s) passing.along passing.back

-- the edge of the step, with that value
abbrev pub passed_edge : {C : Type 0} → (C → Counts) → StepCounts C → Step → Carried C
passed_edge counts passing s = record {
  edge = edge_with (edge_of s).a (edge_of s).b (counts (count_of_step passing s));
  carries = count_of_step passing s;
}

-- a step either way weighs less than 2^31
pub record AreLight {C : Type 0} (counts : C → Counts) (passing : StepCounts C) : Type 0 where
  pub along : weight_of_counts (counts passing.along) < 2 ^ 31
  pub back : weight_of_counts (counts passing.back) < 2 ^ 31

-- ---- the path

-- the points that are taken of the given points
abbrev pub IsTakenAs : PathKind → List Point → List Point → Type 0
IsTakenAs Open given taken = taken ≡ given
IsTakenAs Closed given taken = taken ≡ given
IsTakenAs Thinned given taken = IsThinned given taken

-- the steps of a path, with or without the step from its last point back to its first
abbrev pub path_steps_of : Bool → List Point → List Step
path_steps_of is_closed ps = cond is_closed (steps_of ps) (path_steps ps)

-- a path of this kind leads back from its last point to its first
abbrev pub leads_back : PathKind → Bool
leads_back Open = false
leads_back Closed = true
leads_back Thinned = true

-- the second list extends the first by the edges of the steps of a path, taken as its kind says
pub record AddsPath {E : Type 0} (kind : PathKind) (edge_for : Step → E) (given : List Point)
    (old new : List E) : Type 0 where
  pub taken : List Point
  pub is_taken : IsTakenAs kind given taken
  pub content : new ≡ old ++ map edge_for (path_steps_of (leads_back kind) taken)

-- a contour, with collinear points where they are kept
abbrev pub contour_kind : Bool → PathKind
contour_kind keeps_points = cond keeps_points Closed Thinned
