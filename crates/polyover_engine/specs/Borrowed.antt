-- Paths that are borrowed.
use Rattle.std.specs.Prelude.{ℤ, List, map}
use Rattle.overlay_geom.specs.Plane.{Point}
use Rattle.overlay_geom.specs.declared.path.PathRef.{PathRef}
use Rattle.polyover_text.specs.Points.{points_at}

-- the points of each path
abbrev pub points_of_each : List (PathRef ℤ) → List (List Point)
points_of_each paths = map (λ p. points_at p.points.now) paths
