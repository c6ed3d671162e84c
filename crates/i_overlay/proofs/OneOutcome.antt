-- A contour is simple or it is not, and runs in one direction.
use Rattle.std.proofs.Common.{◌≡◌, Bool, List, refl}
use Rattle.overlay_geom.specs.Plane.{Point}
use Rattle.overlay_geom.specs.Edges.{CountedEdge}
use Rattle.overlay_geom.specs.declared.fill_rule.FillRule.{FillRule}
use Rattle.overlay_geom.specs.declared.options.ContourDirection.{ContourDirection}
use Rattle.i_overlay.specs.OneOutcome.{OneOutcome}
use Rattle.i_overlay.specs.Outcome.{IsOutcome, HasOutcome}
use Rattle.i_overlay.specs.declared.simplifying.outcome.Outcome.{Outcome}
use Rattle.i_overlay.specs.declared.simplifying.outcome.Outcome.TheVariants.{NotSimple, Empty, AsGiven, Reversed}
use Rattle.i_overlay.proofs.Outcomes.{one_outcome}

module _ (keep : Bool) (fill : FillRule) (output : ContourDirection) (ps : List Point) (es : List CountedEdge) where
  -- one that has to be cut is not simple
  cut_or_simple : (outcome : Outcome) → IsOutcome keep fill output ps es NotSimple →
      ¬ (HasOutcome keep fill output ps es outcome)
  cut_or_simple outcome cut has = cut has.added

  -- and of one that is simple one thing becomes
  one_of_two : (first second : Outcome) → IsOutcome keep fill output ps es first →
      IsOutcome keep fill output ps es second → first ≡ second
  one_of_two NotSimple NotSimple a b = refl
  one_of_two NotSimple Empty a b = absurd (cut_or_simple Empty a b)
  one_of_two NotSimple AsGiven a b = absurd (cut_or_simple AsGiven a b)
  one_of_two NotSimple Reversed a b = absurd (cut_or_simple Reversed a b)
  one_of_two Empty NotSimple a b = absurd (cut_or_simple Empty b a)
  one_of_two AsGiven NotSimple a b = absurd (cut_or_simple AsGiven b a)
  one_of_two Reversed NotSimple a b = absurd (cut_or_simple Reversed b a)
  one_of_two Empty Empty a b = refl
  one_of_two Empty AsGiven a b = one_outcome keep fill output ps es Empty AsGiven a b
  one_of_two Empty Reversed a b = one_outcome keep fill output ps es Empty Reversed a b
  one_of_two AsGiven Empty a b = one_outcome keep fill output ps es AsGiven Empty a b
  one_of_two AsGiven AsGiven a b = refl
  one_of_two AsGiven Reversed a b = one_outcome keep fill output ps es AsGiven Reversed a b
  one_of_two Reversed Empty a b = one_outcome keep fill output ps es Reversed Empty a b
  one_of_two Reversed AsGiven a b = one_outcome keep fill output ps es Reversed AsGiven a b
  one_of_two Reversed Reversed a b = refl

-- the law
pub outcomes_are_one : OneOutcome
outcomes_are_one keep fill output ps es first second = one_of_two keep fill output ps es first second
