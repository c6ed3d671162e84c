-- What holds of simple contours.
use Rattle.std.specs.Prelude.{◌≡◌, cond, ℤ, pos, negsuc, List}
use Rattle.overlay_geom.specs.Plane.{Point, PlanePoint, winding}
use Rattle.overlay_geom.specs.Edges.{CountedEdge, subj_of, winding_by}
use Rattle.overlay_geom.specs.Rules.{is_filled}
use Rattle.overlay_geom.specs.declared.fill_rule.FillRule.{FillRule}
use Rattle.overlay_geom.specs.declared.options.ContourDirection.{ContourDirection}
use Rattle.overlay_geom.specs.declared.options.ContourDirection.TheVariants.{CounterClockwise, Clockwise}
use Rattle.overlay_plane.specs.ShapeWindings.{steps_of_shapes}
use Rattle.i_overlay.specs.Simple.{IsSimple, RunsIn}
use Rattle.i_overlay.specs.Outcome.{outcome_of, shapes_left}

-- the winding of a contour that runs in the direction, round what it encloses
abbrev pub once_in : ContourDirection → ℤ
once_in CounterClockwise = pos 1
once_in Clockwise = negsuc 0

-- what is left of a simple contour winds exactly once, in the output direction, round each point that the rule fills of
-- the windings of its edges, and zero times round any other
abbrev pub SimpleContoursWindOnce : Type 0
SimpleContoursWindOnce = (fill : FillRule) (output direction : ContourDirection) (ps : List Point)
    (es : List CountedEdge) → IsSimple ps es → RunsIn direction ps → (p : PlanePoint) →
    winding (steps_of_shapes (shapes_left (outcome_of fill output direction) ps)) p
    ≡ cond (is_filled fill (winding_by subj_of es p)) (once_in output) (pos 0)
