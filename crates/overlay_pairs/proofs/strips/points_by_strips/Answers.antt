-- The boxes of the points are at their places, and their points are in strips.
use Rattle.std.proofs.Common.{◌≡◌, ◌∙◌, ℕ, List, get_or, refl, sym, ap, subst, arith}
use Rattle.std.specs.List.Sorted.{IsPermutation}
use Rattle.std.proofs.lemmas.List.{get_or_default, length-map}
use Rattle.std.proofs.lemmas.Result.{IfOk-weaker}
use Rattle.overlay_geom.specs.Plane.{Point}
use Rattle.overlay_geom.specs.Points.{plain_point, plain_points}
use Rattle.overlay_pairs.specs.Extents.{extent_of_point, extents_of_points, plain_extent, plain_extents, Extent}
use Rattle.overlay_pairs.specs.Extents.{AreAtPlaces, AreByHeights, AreInStrips}
use Rattle.overlay_pairs.specs.PointStrips.{AreStripsOf}
use Rattle.overlay_pairs.proofs.Entries.{placed_in_mapped}
use Rattle.overlay_pairs.proofs.PlacedExtents.{placed_at_places}
use Rattle.overlay_pairs.proofs.StripPoints.{are_strips, boxes_within}
use Rattle.overlay_pairs.proofs.strips.points_by_strips.Goals as goal

pub by_strips-requires-clause-places : goal.by_strips-requires-clause-places
by_strips-requires-clause-places g c =
    let whole = g.I.IntNumber.whole in
    subst AreAtPlaces (sym (ap (plain_extents whole) c.deref.ensures.value ∙ c.in_ok-extents.ensures.ok))
    (placed_at_places extent_of_point (λ v place. (refl, refl)) (plain_points whole c.args.points.now))

-- the boxes of the points, sorted
abbrev AreSorted : List Point → ℕ → List Extent → Type 0
AreSorted vs width ss = IsPermutation (extents_of_points vs) ss × AreInStrips width ss × AreByHeights width ss

sorted_so : (vs : List Point) (width : ℕ) (boxes ss now : List Extent) → boxes ≡ extents_of_points vs → now ≡ ss →
    IsPermutation boxes ss → AreInStrips width ss → AreByHeights width ss → AreSorted vs width now
sorted_so vs width boxes ss now of_points is moved strips heights = subst (AreSorted vs width) (sym is)
    (subst (λ bs. IsPermutation bs ss) of_points moved, strips, heights)

pub points_of-requires : goal.points_of-requires
points_of-requires g c = λ k d less.
    let whole = g.I.IntNumber.whole in
    let vs = plain_points whole c.args.points.now in
    let boxes = c.deref-2.result.now in
    let sorted = sorted_so vs c.args.width (plain_extents whole c.deref.result.now)
    (plain_extents whole c.in_ok-sorted.sorted.items) (plain_extents whole boxes)
    (ap (plain_extents whole) c.deref.ensures.value ∙ c.in_ok-extents.ensures.ok)
    (ap (plain_extents whole) c.deref-2.ensures.value) c.in_ok-sorted.ensures.permutation
    c.in_ok-sorted.ensures.strips c.in_ok-sorted.ensures.heights in
    let l = length-map c.args.points.now (plain_point whole) in
    let within = boxes_within vs c.args.width (plain_extents whole boxes) sorted.0 k
    (plain_extent whole (get_or boxes k d)) (placed_in_mapped (plain_extent whole) boxes k (get_or boxes k d) less
    (get_or_default boxes k d (get_or boxes k d) less)) in
    omega (arith, l, within)

pub returns : goal.returns
returns g c = record {
  ok = let whole = g.I.IntNumber.whole in
      let vs = plain_points whole c.args.points.now in
      let ss = plain_extents whole c.deref-2.result.now in
      let sorted = sorted_so vs c.args.width (plain_extents whole c.deref.result.now)
      (plain_extents whole c.in_ok-sorted.sorted.items) ss
      (ap (plain_extents whole) c.deref.ensures.value ∙ c.in_ok-extents.ensures.ok)
      (ap (plain_extents whole) c.deref-2.ensures.value) c.in_ok-sorted.ensures.permutation
      c.in_ok-sorted.ensures.strips c.in_ok-sorted.ensures.heights in
      IfOk-weaker c.points_of.result _ _ (λ taken is. subst (AreStripsOf vs c.args.width) (sym is)
      (are_strips vs c.args.width ss sorted.0 c.requires sorted.1 sorted.2)) c.points_of.ensures.ok;
}
