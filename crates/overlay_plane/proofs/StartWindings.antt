-- Steps that have their top edge at their leftmost lowest point filled below have their winding once on its filled
-- side.
use Rattle.std.proofs.Common.{◌≡◌, false, cond, ℤ, pos, negsuc, ◌+ℤ◌, List, refl, ap}
use Rattle.std.proofs.Common.{◌∙◌}
use Rattle.std.proofs.lemmas.Bool.{not-false}
use Rattle.overlay_geom.specs.Plane.{Step, is_forward, edge_of}
use Rattle.overlay_geom.specs.Edges.{CountedEdge}
use Rattle.overlay_geom.proofs.Signs.{linear}
use Rattle.overlay_plane.specs.Turn.{Hand, other_hand}
use Rattle.overlay_plane.specs.Turn.Hand.{left, right}
use Rattle.overlay_plane.specs.Alternates.{Alternates}
use Rattle.overlay_plane.specs.BesideOrbits.{winding_under, winding_over, winding_beside, WalksAlong, IsBalancedPart}
use Rattle.overlay_plane.specs.BesideOrbits.{HasEachOnce}
use Rattle.overlay_plane.specs.Contours.{is_filled_above, IsStart}
use Rattle.overlay_plane.specs.ContourWindings.{once_round}
use Rattle.overlay_plane.proofs.BeforeTheSteps.{nothing_before_the_steps}
use Rattle.overlay_plane.proofs.BesideAcross.{winding_across_alternating_steps}

-- where a step is not filled above, its empty side is the upper of its edge
pub empty_over : (filled : Hand) (es : List CountedEdge) (taken : List Step) (t : Step) →
    is_filled_above filled t ≡ false →
    winding_beside (other_hand filled) es taken t ≡ winding_over es taken (edge_of t)
empty_over left es taken t h =
    ap (λ b. cond b (winding_under es taken (edge_of t)) (winding_over es taken (edge_of t))) h
empty_over right es taken t h =
    ap (λ b. cond b (winding_over es taken (edge_of t)) (winding_under es taken (edge_of t)))
    (not-false (is_forward t) h)

-- and its filled side the lower
pub filled_under : (filled : Hand) (es : List CountedEdge) (taken : List Step) (t : Step) →
    is_filled_above filled t ≡ false →
    winding_beside filled es taken t ≡ winding_under es taken (edge_of t)
filled_under left es taken t h =
    ap (λ b. cond b (winding_over es taken (edge_of t)) (winding_under es taken (edge_of t))) h
filled_under right es taken t h =
    ap (λ b. cond b (winding_under es taken (edge_of t)) (winding_over es taken (edge_of t)))
    (not-false (is_forward t) h)

-- across a step with winding 0 on the empty side it is once on the filled
pub once_from_none : (filled : Hand) (es : List CountedEdge) (taken : List Step) (t : Step) →
    winding_beside left es taken t ≡ winding_beside right es taken t +ℤ pos 1 →
    winding_beside (other_hand filled) es taken t ≡ pos 0 →
    winding_beside filled es taken t ≡ once_round filled
once_from_none left es taken t rises none = apart (winding_beside left es taken t) (winding_beside right es taken t)
    rises none
  where
    apart : (a b : ℤ) → a ≡ b +ℤ pos 1 → b ≡ pos 0 → a ≡ pos 1
    apart a b h i = omega linear
once_from_none right es taken t rises none = apart (winding_beside left es taken t) (winding_beside right es taken t)
    rises none
  where
    apart : (a b : ℤ) → a ≡ b +ℤ pos 1 → a ≡ pos 0 → b ≡ negsuc 0
    apart a b h i = omega linear

-- once round is not 0
pub once_not_none : (filled : Hand) → ¬ (once_round filled ≡ pos 0)
once_not_none left e = omega linear
once_not_none right e = omega linear

module _ (es : List CountedEdge) (steps taken : List Step) (along : WalksAlong es steps) (alternates : Alternates steps)
    (filled : Hand) (part : IsBalancedPart es steps taken) (start : Step) (first : IsStart taken start) where
  -- above the start the winding is 0
  pub none_over_start : winding_over es taken (edge_of start) ≡ pos 0
  none_over_start = (nothing_before_the_steps es steps taken along part (edge_of start).a first.lowest).over_top_step
      start (part.inside start first.among) refl first.top

  -- the winding on its filled side is once, where that is the lower side
  pub once_beside_start : HasEachOnce taken → is_filled_above filled start ≡ false →
      winding_beside filled es taken start ≡ once_round filled
  once_beside_start once below = once_from_none filled es taken start
      ((winding_across_alternating_steps es steps taken alternates part.inside).rises once start first.among)
      (empty_over filled es taken start below ∙ none_over_start)
