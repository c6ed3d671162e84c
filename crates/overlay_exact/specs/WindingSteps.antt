-- By how much the windings beside an edge change along it, where it passes a point of another edge.
use Rattle.std.specs.Prelude.{cond, ℤ, pos, ◌-ℤ◌}
use Rattle.overlay_geom.specs.Plane.{PlanePoint, Edge}
use Rattle.overlay_plane.specs.CutPoints.{are_along}
use Rattle.overlay_plane.specs.Regions.{one_if}
use Rattle.overlay_scaled.specs.BesidePieces.{is_right_of, is_at}

-- how many times f's counts are added to the winding right of e, where e passes a point of f on its way from e.a to e.b
abbrev pub winding_step : Edge → Edge → ℤ
winding_step e f = one_if (is_right_of e f.b) -ℤ one_if (is_right_of e f.a)

-- how many times they are added to the counts along e at the point p of e, where f runs along e: 1 where f starts at p,
-- -1 where it ends there
abbrev pub along_step : Edge → Edge → PlanePoint → ℤ
along_step e f p = cond (are_along e f) (one_if (is_at f.a p) -ℤ one_if (is_at f.b p)) (pos 0)
