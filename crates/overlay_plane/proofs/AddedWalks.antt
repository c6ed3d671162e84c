-- Walks taken together: their windings add up. Along a walk along which each has a constant winding, so have all
-- together. Their counts are balanced.
use Rattle.std.proofs.Common.{◌≡◌, Bool, true, false, cond, ℤ, pos, ◌+ℤ◌, List, [], ◌∷◌, ◌++◌, Contains}
use Rattle.std.proofs.Common.{refl, sym}
use Rattle.std.proofs.Common.{ap, ap₂, ◌∙◌}
use Rattle.std.proofs.lemmas.List.Elements.{Contains-append_left, Contains-append_right}
use Rattle.overlay_geom.specs.Plane.{Point, Step, edge_of, edge_eq, sign_of, is_forward, midpoint, points_of}
use Rattle.overlay_geom.specs.Plane.{total, winding}
use Rattle.overlay_geom.specs.Edges.{CountedEdge}
use Rattle.overlay_geom.proofs.Signs.{linear}
use Rattle.overlay_plane.specs.Turn.{Hand}
use Rattle.overlay_plane.specs.Turn.Hand.{left, right}
use Rattle.overlay_plane.specs.BesideOrbits.{count_along, winding_beside, WalksAlong, IsBalancedPart}
use Rattle.overlay_plane.specs.Contours.{all_steps, IsContour}
use Rattle.overlay_plane.specs.ShapesAlone.{HasOneWinding}
use Rattle.overlay_plane.proofs.AlongLines.{winding_part}
use Rattle.overlay_plane.proofs.BalancedSteps.{balanced_from_rises}
use Rattle.overlay_plane.proofs.CountedSteps.{winding_counted}
use Rattle.overlay_plane.proofs.JoinedLists.{total-append}
use Rattle.overlay_plane.proofs.KeepingBalance.{contours_are_balanced}
use Rattle.overlay_plane.proofs.Telescopes.{signed_rise}
use Rattle.overlay_plane.proofs.Totals.{Contains-head, Contains-later}

-- the winding on a hand's side, from the winding below and the count along the edge
abbrev side_by : Hand → Bool → (under count : ℤ) → ℤ
side_by left forward under count = cond forward (under +ℤ count) under
side_by right forward under count = cond forward under (under +ℤ count)

-- both summed
side_added : (hand : Hand) (forward : Bool) (u c v d : ℤ) →
    side_by hand forward (u +ℤ v) (c +ℤ d) ≡ side_by hand forward u c +ℤ side_by hand forward v d
side_added left true u c v d = omega linear
side_added left false u c v d = refl
side_added right true u c v d = refl
side_added right false u c v d = omega linear

module _ (es : List CountedEdge) (steps : List Step) (along : WalksAlong es steps) where
  -- the list's steps are steps of the set
  abbrev AreInside : List Step → Type 0
  AreInside taken = (s : Step) → Contains taken s → Contains steps s

  beside_is : (hand : Hand) (taken : List Step) → AreInside taken → (s : Step) →
      winding_beside hand es taken s ≡
      side_by hand (is_forward s) (winding taken (midpoint (edge_of s))) (count_along taken (edge_of s))
  beside_is left taken inside s = ap (λ u. cond (is_forward s) (u +ℤ count_along taken (edge_of s)) u)
      (sym (winding_counted es steps along taken inside (midpoint (edge_of s))))
  beside_is right taken inside s = ap (λ u. cond (is_forward s) u (u +ℤ count_along taken (edge_of s)))
      (sym (winding_counted es steps along taken inside (midpoint (edge_of s))))

  -- lists joined wind as both together
  beside_joined : (hand : Hand) (xs ys : List Step) → AreInside xs → AreInside ys → AreInside (xs ++ ys) → (s : Step) →
      winding_beside hand es (xs ++ ys) s ≡ winding_beside hand es xs s +ℤ winding_beside hand es ys s
  beside_joined hand xs ys in_x in_y in_both s =
      beside_is hand (xs ++ ys) in_both s
      ∙ ap₂ (λ u c. side_by hand (is_forward s) u c)
      (total-append (winding_part (midpoint (edge_of s))) xs ys)
      (total-append (λ t. cond (edge_eq (edge_of t) (edge_of s)) (sign_of t) (pos 0)) xs ys)
      ∙ side_added hand (is_forward s) (winding xs (midpoint (edge_of s))) (count_along xs (edge_of s))
      (winding ys (midpoint (edge_of s))) (count_along ys (edge_of s))
      ∙ sym (ap₂ (λ a b. a +ℤ b) (beside_is hand xs in_x s) (beside_is hand ys in_y s))

  -- an empty list has winding 0
  beside_nothing : (hand : Hand) (s t : Step) → winding_beside hand es [] s ≡ winding_beside hand es [] t
  beside_nothing hand s t = none s ∙ sym (none t)
    where
      zero : (h : Hand) (f : Bool) → side_by h f (pos 0) (pos 0) ≡ pos 0
      zero left true = refl
      zero left false = refl
      zero right true = refl
      zero right false = refl

      none : (u : Step) → winding_beside hand es [] u ≡ pos 0
      none u = beside_is hand [] (λ w c. elim c.1 [ ]) u ∙ zero hand (is_forward u)

  -- walks that each have one winding along a walk have one together
  pub one_together : (filled : Hand) (walk : List Step) (ws : List (List Step)) → AreInside (all_steps ws) →
      ((w : List Step) → Contains ws w → HasOneWinding filled es w walk) →
      HasOneWinding filled es (all_steps ws) walk
  one_together filled walk [] inside each s t c d = beside_nothing filled s t
  one_together filled walk (w ∷ ws) inside each s t c d =
      beside_joined filled w (all_steps ws) first rest inside s
      ∙ ap₂ (λ a b. a +ℤ b) (each w (Contains-head w ws) s t c d)
      (one_together filled walk ws rest (λ v e. each v (Contains-later w ws v e)) s t c d)
      ∙ sym (beside_joined filled w (all_steps ws) first rest inside t)
    where
      first : AreInside w
      first u e = inside u (Contains-append_left w (all_steps ws) u e)

      rest : AreInside (all_steps ws)
      rest u e = inside u (Contains-append_right w (all_steps ws) u e)

  -- ---- balance

  -- a number rises by 0 in all along a contour
  contour_rises : (walk : List Step) → IsContour walk → (g : Point → ℤ) → total (signed_rise g) walk ≡ pos 0
  contour_rises walk contour g = sym (ap (λ ss. total (signed_rise g) ss) contour.whole)
      ∙ contours_are_balanced (points_of walk) g

  -- a contour has balanced counts
  pub contour_part : (walk : List Step) → IsContour walk → AreInside walk → IsBalancedPart es steps walk
  contour_part walk contour inside = balanced_from_rises es steps along walk inside (contour_rises walk contour)

  -- along contours it rises by 0 too
  contours_rise : (g : Point → ℤ) (ws : List (List Step)) → ((w : List Step) → Contains ws w → IsContour w) →
      total (signed_rise g) (all_steps ws) ≡ pos 0
  contours_rise g [] each = refl
  contours_rise g (w ∷ ws) each = total-append (signed_rise g) w (all_steps ws)
      ∙ ap₂ (λ a b. a +ℤ b) (contour_rises w (each w (Contains-head w ws)) g)
      (contours_rise g ws (λ v e. each v (Contains-later w ws v e)))

  -- the steps together have balanced counts
  pub contours_part : (ws : List (List Step)) → ((w : List Step) → Contains ws w → IsContour w) →
      AreInside (all_steps ws) → IsBalancedPart es steps (all_steps ws)
  contours_part ws each inside = balanced_from_rises es steps along (all_steps ws) inside
      (λ g. contours_rise g ws each)
