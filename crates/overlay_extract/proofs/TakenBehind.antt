-- Contours added to flat lists one by one, each kept or thinned, and the shape that they make.
use Rattle.std.proofs.Common.{◌≡◌, ℕ, ℤ, Bool, List, [], ◌∷◌, ◌++◌, length, sym, ◌∙◌, ap, ap₂, subst, subst₂}
use Rattle.std.specs.List.{AllZip}
use Rattle.std.specs.declared.ops.Range.{Range}
use Rattle.std.proofs.lemmas.List.{length-append}
use Rattle.std.proofs.lemmas.List.Elements.{AllZip-push}
use Rattle.overlay_geom.specs.Flat.{range_behind}
use Rattle.overlay_geom.specs.FlatShapes.{ArePathsAdded}
use Rattle.overlay_geom.specs.Plane.{Point}
use Rattle.overlay_geom.specs.Points.{plain_points}
use Rattle.overlay_geom.specs.Thinned.{IsKeptOrThinned}
use Rattle.overlay_geom.specs.declared.point.IntPoint.{IntPoint}
use Rattle.overlay_geom.proofs.FlatShapes.{none_added, one_added}
use Rattle.overlay_extract.specs.TakenBehind.{IsTakenBehind, AreTakenBehind}

module _ {I : Type 0} (whole : I → ℤ) (keep : Bool) (ps : List (IntPoint I)) (rs : List (Range ℕ)) where
  -- no contour is added
  pub none_taken : AreTakenBehind whole keep [] ps rs ps rs
  none_taken = record {
    paths = [];
    added = none_added whole ps rs;
    taken = tt;
  }

  -- one more contour is added, with the range of its points
  pub one_taken : (contours : List (List Point)) (contour : List Point) (qs new : List (IntPoint I))
      (ss new_ranges : List (Range ℕ)) → IsTakenBehind whole keep contour qs new →
      new_ranges ≡ ss ++ record { start = length qs; end = length new } ∷ [] →
      AreTakenBehind whole keep contours ps rs qs ss →
      AreTakenBehind whole keep (contours ++ contour ∷ []) ps rs new new_ranges
  one_taken contours contour qs new ss new_ranges one more before =
      let path = plain_points whole one.points in
      let ranges : ss ++ range_behind qs one.points ∷ [] ≡ new_ranges
      = ap (λ n. ss ++ (record { start = length qs; end = n }) ∷ []) (sym (ap length one.longer
      ∙ length-append qs one.points)) ∙ sym more in
      record {
        paths = before.paths ++ path ∷ [];
        added = subst₂ (λ xs ys. ArePathsAdded whole ps rs (before.paths ++ path ∷ []) xs ys) (sym one.longer) ranges
            (one_added whole ps rs before.paths qs one.points ss before.added);
        taken = AllZip-push (IsKeptOrThinned keep) contours before.paths contour path before.taken one.taken;
      }
