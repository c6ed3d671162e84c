-- Where the shapes to which loops of filled sides are bound have all loops, each of them winds once or zero times round
-- each point: together they wind as all filled sides.
use Rattle.std.proofs.Common.{◌≡◌, ◌⊎◌, inl, inr, ℕ, Bool, true, false, ℤ, pos, List, Contains, Option, refl, sym, ◌∙◌}
use Rattle.std.proofs.Common.{subst}
use Rattle.std.specs.List.Sorted.{IsPermutation}
use Rattle.overlay_geom.specs.Plane.{Step}
use Rattle.overlay_geom.specs.Edges.{CountedEdge, winding_by}
use Rattle.overlay_geom.proofs.Totals.{total-IsPermutation}
use Rattle.overlay_plane.specs.Binding.{walks_of}
use Rattle.overlay_plane.specs.BoundContours.{walks_in, AreShapesFound, contours_bound, shapes_bound}
use Rattle.overlay_plane.specs.Contours.{all_steps}
use Rattle.overlay_plane.specs.Nodes.{IsBalancedArrangement}
use Rattle.overlay_plane.specs.Regions.{one_if}
use Rattle.overlay_plane.specs.RoledContours.{Contour}
use Rattle.overlay_plane.specs.ShapesAlone.{WindsOnceOrNot}
use Rattle.overlay_plane.specs.Turn.Hand.{left}
use Rattle.overlay_plane.proofs.AlongLines.{winding_part}
use Rattle.overlay_plane.proofs.EachOfShapes.{each_winds}
use Rattle.overlay_plane.proofs.ShuffledPairs.{once_shuffled}
use Rattle.overlay_extract.specs.Bound.{HaveRoles}
use Rattle.overlay_extract.specs.FilledSides.{filled_sides}
use Rattle.overlay_extract.specs.Loops.{AreLoops}
use Rattle.overlay_extract.proofs.LoopWindings.{loops_wind}
use Rattle.overlay_extract.proofs.SlicesAlone.{shape_winds}

-- once or not
filled_or_not : (t : Bool) → (one_if t ≡ pos 1) ⊎ (one_if t ≡ pos 0)
filled_or_not true = inl refl
filled_or_not false = inr refl

module _ (fills : ℤ → Bool) (count : CountedEdge → ℤ) (es : List CountedEdge)
    (arranged : IsBalancedArrangement count es) (empty : fills (pos 0) ≡ false) (contours : List Contour)
    (roles : HaveRoles 0 contours) (are : AreLoops (filled_sides fills count es) (walks_in contours))
    (shapes : List (Option ℕ)) (found : AreShapesFound left contours shapes)
    (all : IsPermutation (all_steps (walks_in contours))
    (all_steps (walks_of (shapes_bound (contours_bound contours shapes))))) where
  abbrev taken : List Step
  taken = all_steps (walks_of (shapes_bound (contours_bound contours shapes)))

  -- together they wind as all loops
  together : WindsOnceOrNot left taken
  together p = subst (λ z. (z ≡ pos 1) ⊎ (z ≡ pos 0))
      (sym (loops_wind fills count es arranged (walks_in contours) are empty p)
      ∙ sym (total-IsPermutation (winding_part p) (all_steps (walks_in contours)) taken all))
      (filled_or_not (fills (winding_by count es p)))

  pub each_slice_winds : (shape : List (List Step)) → Contains (shapes_bound (contours_bound contours shapes)) shape →
      WindsOnceOrNot left (all_steps shape)
  each_slice_winds = each_winds left contours shapes found
      (once_shuffled (all_steps (walks_in contours)) taken all are.at_most_once) together
      (λ many b. shape_winds fills count es arranged empty contours roles are shapes found many b)
