-- What becomes of a simple contour is one thing, and winds as the rule fills it.
use Rattle.std.proofs.Common.{◌≡◌, ⊎_elim, Bool, cond, ℤ, pos, neg_ℤ, List, [], ◌∷◌, ◌++◌, refl, sym, ap, ◌∙◌}
use Rattle.std.proofs.lemmas.List.{append-nil}
use Rattle.std.specs.Prelude.{reverse}
use Rattle.overlay_geom.specs.Plane.{Point, PlanePoint, winding, steps_of}
use Rattle.overlay_geom.specs.Edges.{CountedEdge, subj_of, winding_by}
use Rattle.overlay_geom.specs.Rules.{is_filled}
use Rattle.overlay_geom.specs.declared.fill_rule.FillRule.{FillRule}
use Rattle.overlay_geom.specs.declared.fill_rule.FillRule.TheVariants.{EvenOdd, NonZero, Positive, Negative}
use Rattle.overlay_geom.specs.declared.options.ContourDirection.{ContourDirection}
use Rattle.overlay_geom.specs.declared.options.ContourDirection.TheVariants.{CounterClockwise, Clockwise}
use Rattle.overlay_plane.specs.ShapeWindings.{steps_of_shapes}
use Rattle.overlay_order.proofs.RuledContents.{zero_is_empty}
use Rattle.i_overlay.specs.Laws.{once_in, SimpleContoursWindOnce}
use Rattle.i_overlay.specs.Outcome.{HasOutcome, outcome_of, shapes_left}
use Rattle.i_overlay.specs.declared.simplifying.outcome.Outcome.{Outcome}
use Rattle.i_overlay.specs.declared.simplifying.outcome.Outcome.TheVariants.{NotSimple, Empty, AsGiven, Reversed}
use Rattle.i_overlay.proofs.ReversedContours.{winding-back}
use Rattle.i_overlay.proofs.SimpleWindings.{same_winding, winds_once, one_direction}

-- two things that become of a contour are one
pub one_outcome : (keep : Bool) (fill : FillRule) (output : ContourDirection) (ps : List Point) (es : List CountedEdge)
    (first second : Outcome) → HasOutcome keep fill output ps es first → HasOutcome keep fill output ps es second →
    first ≡ second
one_outcome keep fill output ps es first second has also = has.is
    ∙ ap (outcome_of fill output) (one_direction ps es has.added.simple has.direction also.direction has.runs also.runs)
    ∙ sym also.is

-- how often what is left winds, of how often the contour does
abbrev left_winding : Outcome → ℤ → ℤ
left_winding NotSimple w = pos 0
left_winding Empty w = pos 0
left_winding AsGiven w = w
left_winding Reversed w = neg_ℤ w

-- the steps of one contour
one_contour : (ps : List Point) → steps_of_shapes ((ps ∷ []) ∷ []) ≡ steps_of ps
one_contour ps = append-nil (steps_of ps ++ []) ∙ append-nil (steps_of ps)

left_winds : (outcome : Outcome) (ps : List Point) (p : PlanePoint) →
    winding (steps_of_shapes (shapes_left outcome ps)) p ≡ left_winding outcome (winding (steps_of ps) p)
left_winds NotSimple ps p = refl
left_winds Empty ps p = refl
left_winds AsGiven ps p = ap (λ ss. winding ss p) (one_contour ps)
left_winds Reversed ps p = ap (λ ss. winding ss p) (one_contour (reverse ps)) ∙ winding-back p ps

-- of a contour that winds zero times
none : (outcome : Outcome) → left_winding outcome (pos 0) ≡ pos 0
none NotSimple = refl
none Empty = refl
none AsGiven = refl
none Reversed = refl

-- and of one that winds once in its direction
once : (fill : FillRule) (output direction : ContourDirection) →
    left_winding (outcome_of fill output direction) (once_in direction)
    ≡ cond (is_filled fill (once_in direction)) (once_in output) (pos 0)
once EvenOdd CounterClockwise CounterClockwise = refl
once EvenOdd CounterClockwise Clockwise = refl
once EvenOdd Clockwise CounterClockwise = refl
once EvenOdd Clockwise Clockwise = refl
once NonZero CounterClockwise CounterClockwise = refl
once NonZero CounterClockwise Clockwise = refl
once NonZero Clockwise CounterClockwise = refl
once NonZero Clockwise Clockwise = refl
once Positive CounterClockwise CounterClockwise = refl
once Positive CounterClockwise Clockwise = refl
once Positive Clockwise CounterClockwise = refl
once Positive Clockwise Clockwise = refl
once Negative CounterClockwise CounterClockwise = refl
once Negative CounterClockwise Clockwise = refl
once Negative Clockwise CounterClockwise = refl
once Negative Clockwise Clockwise = refl

-- the law
pub simple_contours_wind_once : SimpleContoursWindOnce
simple_contours_wind_once fill output direction ps es simple runs p =
    let w = winding_by subj_of es p in
    let outcome = outcome_of fill output direction in
    left_winds outcome ps p ∙ ap (left_winding outcome) (same_winding ps es simple direction runs p)
    ∙ ⊎_elim
    (λ zero. ap (left_winding outcome) zero ∙ none outcome
    ∙ sym (ap (λ z. cond (is_filled fill z) (once_in output) (pos 0)) zero
    ∙ ap (λ t. cond t (once_in output) (pos 0)) (zero_is_empty fill)))
    (λ one. ap (left_winding outcome) one ∙ once fill output direction
    ∙ sym (ap (λ z. cond (is_filled fill z) (once_in output) (pos 0)) one))
    (winds_once ps es simple direction runs p)
