-- A point has one location: near it there are points off the edges, which are filled or not.
use Rattle.std.proofs.Common.{◌≡◌, Bool, true, false, ℕ, suc, ◌+◌, [], refl, subst, arith}
use Rattle.overlay_geom.specs.Edges.{all_ends, subj_of, winding_by}
use Rattle.overlay_geom.specs.Plane.{PlanePoint, IsOff}
use Rattle.overlay_geom.specs.declared.options.ShapeType.TheVariants.{Subject}
use Rattle.overlay_builder.specs.PathWindings.{IsFarFromPaths}
use Rattle.overlay_relate.specs.Closures.{AreWithinPart}
use Rattle.overlay_relate.specs.PathRelations.{path_fills}
use Rattle.overlay_relate.specs.declared.location.PointLocation.{PointLocation}
use Rattle.overlay_relate.specs.declared.location.PointLocation.TheVariants.{Inside, Boundary, Outside}
use Rattle.overlay_relate.proofs.PathRelations.{edges_of_paths, off_paths}
use Rattle.overlay_relate.proofs.SteepPoints.{HasPointNear, point_near, less_near}
use Rattle.overlay_located.specs.Laws.{OneLocation, OneLocationInPaths}
use Rattle.overlay_sectors.specs.Located.{HasNoneNear, IsLocatedNear}

module _ (off : PlanePoint → Type 0) (fills : PlanePoint → Bool) (p : PlanePoint)
    (some : (n : ℕ) → (q : PlanePoint) × off q × AreWithinPart n q p) where
  abbrev In : PlanePoint → Type 0
  In q = off q × (fills q ≡ true)

  abbrev Ex : PlanePoint → Type 0
  Ex q = off q × (fills q ≡ false)

  -- a point off the edges is filled or not
  not_both : HasNoneNear In p → HasNoneNear Ex p → ⊥
  not_both (n, no_in) (k, no_ex) =
      let at = some (suc (n + k)) in
      by at.0 (fills at.0) refl at.1 (less_near n k at.0 p at.2)
      (less_near k n at.0 p (subst (λ (m : ℕ). AreWithinPart m at.0 p) (turned n k) at.2))
    where
      turned : (n k : ℕ) → suc (n + k) ≡ suc (k + n)
      turned n k = omega arith

      by : (q : PlanePoint) (t : Bool) → fills q ≡ t → off q → AreWithinPart n q p → AreWithinPart k q p → ⊥
      by q true is at first second = no_in q (at, is) first
      by q false is at first second = no_ex q (at, is) second

  pub one_near : (l m : PointLocation) → IsLocatedNear In Ex p l → IsLocatedNear In Ex p m → l ≡ m
  one_near Inside Inside a b = refl
  one_near Inside Boundary (n, none) b = let at = b.1 n in absurd (none at.0 at.1 at.2)
  one_near Inside Outside a b = absurd (not_both b a)
  one_near Boundary Inside a (n, none) = let at = a.1 n in absurd (none at.0 at.1 at.2)
  one_near Boundary Boundary a b = refl
  one_near Boundary Outside a (n, none) = let at = a.0 n in absurd (none at.0 at.1 at.2)
  one_near Outside Inside a b = absurd (not_both a b)
  one_near Outside Boundary (n, none) b = let at = b.0 n in absurd (none at.0 at.1 at.2)
  one_near Outside Outside a b = refl

pub one_location : OneLocation
one_location filled es p l m = one_near (IsOff (all_ends es)) (λ q. filled (winding_by subj_of es q)) p
    (λ n. let at : HasPointNear n es [] p = point_near n es [] p in (at.near, at.off, at.close)) l m

pub one_location_in_paths : OneLocationInPaths
one_location_in_paths filled paths p l m = one_near (IsFarFromPaths 0 paths) (path_fills filled paths Subject) p
    (λ n. let at : HasPointNear n (edges_of_paths paths) [] p = point_near n (edges_of_paths paths) [] p in
    (at.near, off_paths paths at.near at.off, at.close)) l m
