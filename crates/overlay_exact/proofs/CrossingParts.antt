-- The single point that two edges across each other share lies at the part that two cross products tell.
use Rattle.std.proofs.Common.{◌≡◌, inl, inr, ℤ, refl}
use Rattle.overlay_geom.specs.Plane.{PlanePoint, Edge}
use Rattle.overlay_geom.specs.Placed.{IsBeside, IsAcross}
use Rattle.overlay_geom.specs.Settled.{IsCommon}
use Rattle.overlay_geom.proofs.Meeting.{across_not_along}
use Rattle.overlay_geom.proofs.PointOrder.{IsBefore}
use Rattle.overlay_geom.proofs.Signs.{linear}
use Rattle.overlay_plane.specs.CutPoints.{to_line, across}
use Rattle.overlay_plane.proofs.CommonPoints.{only_unless_along}
use Rattle.overlay_plane.proofs.CrossingPoints.{IsPartWay, part_way_across, crossing_point, crossing_is_common}
use Rattle.overlay_plane.proofs.Placements.{AreCrossing}
use Rattle.overlay_exact.specs.Parts.{IsPart, ShareOneAt}

-- the fraction of the distances is a part
pub crossing_is_part : (e f : Edge) (n d : ℤ) → IsAcross f e → n ≡ to_line e f → d ≡ across e f →
    IsPart (record { n = n; d = d })
crossing_is_part e f n d back n_is d_is =
    let way : IsPartWay e f = part_way_across e f back in
    let begun = way.0 in
    let within = way.1 in
    let positive = way.2 in
    record { begun = omega linear; within = omega linear; positive = omega linear }

-- an edge that goes across a line does not lie on one side of it
not_beside : (e f : Edge) → IsAcross e f → ¬ (IsBeside e f)
not_beside e f (inl (low, high, less)) (inl (a, b)) = omega linear
not_beside e f (inl (low, high, less)) (inr (a, b)) = omega linear
not_beside e f (inr (high, low, less)) (inl (a, b)) = omega linear
not_beside e f (inr (high, low, less)) (inr (a, b)) = omega linear

module _ (e f : Edge) (e_before : IsBefore e.a e.b) (f_before : IsBefore f.a f.b) (forth : IsAcross e f)
    (back : IsAcross f e) where
  crossing : AreCrossing e f
  crossing = record {
    apart = across_not_along f e e_before back;
    not_beside = not_beside e f forth;
    not_back = not_beside f e back;
  }

  way : IsPartWay e f
  way = part_way_across e f back

  -- the point that they share
  abbrev shared : PlanePoint
  shared = crossing_point e f way.2

  shared-common : IsCommon e f shared
  shared-common = crossing_is_common e f way.2 crossing

  shared_at : ShareOneAt e f (record { n = to_line e f; d = across e f })
  shared_at = record {
    point = shared;
    common = shared-common;
    place = record { x = refl; y = refl };
    alone = λ q common. only_unless_along e f shared q f_before crossing.apart shared-common common;
  }

  -- it lies at the fraction of those distances
  pub shares_at : (n d : ℤ) → n ≡ to_line e f → d ≡ across e f → ShareOneAt e f (record { n = n; d = d })
  shares_at n d n_is d_is = rw (n_is, d_is) shared_at
