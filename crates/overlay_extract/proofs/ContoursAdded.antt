-- A further contour adds a path to those that show walks.
use Rattle.std.proofs.Common.{◌≡◌, ℤ, List, [], ◌∷◌, ◌++◌, Bool, map, sym, subst}
use Rattle.std.specs.List.{AllZip}
use Rattle.std.specs.declared.ops.Range.{Range}
use Rattle.std.specs.Prelude.{ℕ}
use Rattle.std.proofs.lemmas.List.{map-append}
use Rattle.std.proofs.lemmas.List.Elements.{AllZip-push}
use Rattle.overlay_geom.specs.Flat.{paths_in, range_behind}
use Rattle.overlay_geom.specs.Packed.{IsPacked}
use Rattle.overlay_geom.specs.Plane.{Step, points_of}
use Rattle.overlay_geom.specs.Points.{plain_points}
use Rattle.overlay_geom.specs.Thinned.{IsKeptOrThinned}
use Rattle.overlay_geom.specs.declared.point.IntPoint.{IntPoint}
use Rattle.overlay_geom.proofs.FlatPaths.{paths_added}
use Rattle.overlay_geom.proofs.PackedPaths.{packed_none, packed_inside, packed_more}

module _ {I : Type 0} (whole : I → ℤ) (keep : Bool) where
  -- the points and ranges show the walks, one behind the other
  pub record Show (walks : List (List Step)) (points : List (IntPoint I)) (ranges : List (Range ℕ)) : Type 0 where
    pub shown : AllZip (IsKeptOrThinned keep) (map points_of walks) (paths_in whole points ranges)
    pub packed : IsPacked points ranges

  -- nothing shows no walks
  pub show_none : (points : List (IntPoint I)) (ranges : List (Range ℕ)) → points ≡ [] → ranges ≡ [] →
      Show [] points ranges
  show_none points ranges no_points no_ranges = record {
    shown = subst (λ rs. AllZip (IsKeptOrThinned keep) [] (paths_in whole points rs)) (sym no_ranges) tt;
    packed = packed_none points ranges no_points no_ranges;
  }

  -- a walk more
  pub show_more : (walks : List (List Step)) (w : List Step) (points contour : List (IntPoint I))
      (ranges : List (Range ℕ)) →
      Show walks points ranges → IsKeptOrThinned keep (points_of w) (plain_points whole contour) →
      Show (walks ++ w ∷ []) (points ++ contour) (ranges ++ range_behind points contour ∷ [])
  show_more walks w points contour ranges h taken = record {
    shown = subst (AllZip (IsKeptOrThinned keep) (map points_of (walks ++ w ∷ [])))
        (sym (paths_added whole points contour ranges (packed_inside points ranges h.packed)))
        (subst (λ given. AllZip (IsKeptOrThinned keep) given
        (paths_in whole points ranges ++ plain_points whole contour ∷ []))
        (sym (map-append points_of walks (w ∷ [])))
        (AllZip-push (IsKeptOrThinned keep) (map points_of walks) (paths_in whole points ranges) (points_of w)
        (plain_points whole contour) h.shown taken));
    packed = packed_more points contour ranges h.packed;
  }
