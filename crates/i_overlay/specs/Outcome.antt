-- What becomes of a contour where it is simplified.
use Rattle.std.specs.Prelude.{◌≡◌, Bool, true, false, cond, List, [], ◌∷◌, reverse}
use Rattle.overlay_geom.specs.Plane.{Point}
use Rattle.overlay_geom.specs.Edges.{CountedEdge}
use Rattle.overlay_geom.specs.declared.fill_rule.FillRule.{FillRule}
use Rattle.overlay_geom.specs.declared.fill_rule.FillRule.TheVariants.{EvenOdd, NonZero, Positive, Negative}
use Rattle.overlay_geom.specs.declared.options.ContourDirection.{ContourDirection}
use Rattle.overlay_geom.specs.declared.options.ContourDirection.TheVariants.{CounterClockwise, Clockwise}
use Rattle.overlay_builder.specs.Paths.{IsTakenAs, contour_kind}
use Rattle.i_overlay.specs.Simple.{IsSimple, RunsIn}
use Rattle.i_overlay.specs.declared.simplifying.outcome.Outcome.{Outcome}
use Rattle.i_overlay.specs.declared.simplifying.outcome.Outcome.TheVariants.{NotSimple, Empty, AsGiven, Reversed}

-- ---- of a simple contour

-- one that runs so is filled under the rule
abbrev pub fills_simple : FillRule → ContourDirection → Bool
fills_simple EvenOdd direction = true
fills_simple NonZero direction = true
fills_simple Positive CounterClockwise = true
fills_simple Positive Clockwise = false
fills_simple Negative CounterClockwise = false
fills_simple Negative Clockwise = true

-- the two directions are one
abbrev pub is_same_direction : ContourDirection → ContourDirection → Bool
is_same_direction CounterClockwise CounterClockwise = true
is_same_direction CounterClockwise Clockwise = false
is_same_direction Clockwise CounterClockwise = false
is_same_direction Clockwise Clockwise = true

-- one that runs so stays as it is given, or is reversed, to run in the output direction; or it is not filled
abbrev pub outcome_of : FillRule → (output direction : ContourDirection) → Outcome
outcome_of fill output direction =
    cond (fills_simple fill direction) (cond (is_same_direction output direction) AsGiven Reversed) Empty

-- the shapes that are left of it
abbrev pub shapes_left : Outcome → List Point → List (List (List Point))
shapes_left NotSimple ps = []
shapes_left Empty ps = []
shapes_left AsGiven ps = (ps ∷ []) ∷ []
shapes_left Reversed ps = (reverse ps ∷ []) ∷ []

-- and the contours, in one list
abbrev pub contours_left : Outcome → List Point → List (List Point)
contours_left NotSimple ps = []
contours_left Empty ps = []
contours_left AsGiven ps = ps ∷ []
contours_left Reversed ps = reverse ps ∷ []

-- ---- of any contour, of whose edges these are left when they are merged, or cut

-- it is simple, and no point of it was left out in adding
pub record IsSimpleAsAdded (keep : Bool) (ps : List Point) (es : List CountedEdge) : Type 0 where
  pub none_left_out : IsTakenAs (contour_kind keep) ps ps
  pub simple : IsSimple ps es

-- it is so, and this becomes of it
pub record HasOutcome (keep : Bool) (fill : FillRule) (output : ContourDirection) (ps : List Point)
    (es : List CountedEdge) (outcome : Outcome) : Type 0 where
  pub added : IsSimpleAsAdded keep ps es
  pub direction : ContourDirection
  pub runs : RunsIn direction ps
  pub is : outcome ≡ outcome_of fill output direction

-- it has to be cut, or is simple, and this becomes of it
abbrev pub IsOutcome : Bool → FillRule → ContourDirection → List Point → List CountedEdge → Outcome → Type 0
IsOutcome keep fill output ps es NotSimple = ¬ (IsSimpleAsAdded keep ps es)
IsOutcome keep fill output ps es Empty = HasOutcome keep fill output ps es Empty
IsOutcome keep fill output ps es AsGiven = HasOutcome keep fill output ps es AsGiven
IsOutcome keep fill output ps es Reversed = HasOutcome keep fill output ps es Reversed
