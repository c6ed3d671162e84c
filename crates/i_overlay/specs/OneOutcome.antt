-- What becomes of a contour that is simplified is one thing.
use Rattle.std.specs.Prelude.{◌≡◌, Bool, List}
use Rattle.overlay_geom.specs.Plane.{Point}
use Rattle.overlay_geom.specs.Edges.{CountedEdge}
use Rattle.overlay_geom.specs.declared.fill_rule.FillRule.{FillRule}
use Rattle.overlay_geom.specs.declared.options.ContourDirection.{ContourDirection}
use Rattle.i_overlay.specs.Outcome.{IsOutcome}
use Rattle.i_overlay.specs.declared.simplifying.outcome.Outcome.{Outcome}

-- of one contour and the edges that are left of its own, two outcomes are one
abbrev pub OneOutcome : Type 0
OneOutcome = (keep : Bool) (fill : FillRule) (output : ContourDirection) (ps : List Point) (es : List CountedEdge)
    (first second : Outcome) → IsOutcome keep fill output ps es first → IsOutcome keep fill output ps es second →
    first ≡ second
