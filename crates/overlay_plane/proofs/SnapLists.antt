-- The points of an edge that stand for the hot points whose pixels it meets, in ascending order, each once.
use Rattle.std.proofs.Common.{◌≡◌, Bool, true, false, List, map, Contains, refl, sym, ap, ◌∙◌, subst}
use Rattle.std.specs.List.{Any, filter}
use Rattle.std.proofs.lemmas.Bool.{both_ways}
use Rattle.overlay_geom.specs.Plane.{Point, PlanePoint, Edge, IsOn, in_plane, point_lt}
use Rattle.overlay_geom.specs.Edges.{CountedEdge, ends_of}
use Rattle.overlay_geom.specs.Rounding.{nearest_point}
use Rattle.overlay_geom.proofs.Rounded.{nearest_point-rounding}
use Rattle.overlay_plane.specs.CutPoints.{comes_first}
use Rattle.overlay_plane.specs.EdgeLists.{IsForwardBy}
use Rattle.overlay_plane.specs.Rounds.{IsSmaller}
use Rattle.overlay_plane.specs.SnapPoints.{meets_pixel, hot_points, snap_points}
use Rattle.overlay_plane.specs.Snaps.{IsHot, IsSnappedAt}
use Rattle.overlay_plane.proofs.CutLists.{leads_forward}
use Rattle.overlay_plane.proofs.EachOnce.{each_once, once_entry, once_each, IsLower, once_ascends}
use Rattle.overlay_plane.proofs.Entries.{all_of_entries, any_of_entry, Contains-filter, Contains-from_filter}
use Rattle.overlay_plane.proofs.Entries.{Contains-map, Contains-from_map}
use Rattle.overlay_plane.proofs.HotPoints.{computed_is_hot, hot_is_computed}
use Rattle.overlay_plane.proofs.InOrderLists.{Contains-in_order, Contains-put_in_order}
use Rattle.overlay_plane.proofs.LaterEntries.{Each, Each-weaker, AllPairs-from_each}
use Rattle.overlay_plane.proofs.MetPixels.{pixels_met_by_test}
use Rattle.overlay_plane.proofs.SmallerPoints.{is_smaller, Decides-is_smaller, smaller-irreflexive, smaller-transitive}
use Rattle.overlay_plane.proofs.SmallerPoints.{same_place-from_tie}

-- ---- a point for a pixel

-- a point of e that rounds to v, where e is a forward edge that meets v's pixel
pub record PixelPoint (e : Edge) (v : Point) : Type 0 where
  pub point : PlanePoint
  pub is : point_lt e.a e.b ≡ true → meets_pixel e v ≡ true → IsOn e point × (nearest_point point ≡ v)

-- there is one for any edge and whole point
pub pixel_point : (e : Edge) (v : Point) → PixelPoint e v
pixel_point e v = by (point_lt e.a e.b) (meets_pixel e v) refl refl
  where
    by : (s t : Bool) → point_lt e.a e.b ≡ s → meets_pixel e v ≡ t → PixelPoint e v
    by false t back met = record {
      point = in_plane v;
      is = λ forward meets. absurd (both_ways (point_lt e.a e.b) back forward);
    }
    by true false forward missed = record {
      point = in_plane v;
      is = λ leads meets. absurd (both_ways (meets_pixel e v) missed meets);
    }
    by true true forward met =
        let found = (pixels_met_by_test e v forward).0 met in
        record { point = found.0; is = λ leads meets. (found.1, found.2) }

-- the point for a whole point
abbrev pub point_for : CountedEdge → Point → PlanePoint
point_for e v = (pixel_point (ends_of e) v).point

-- those for the hot points whose pixels e meets, in ascending order, each once
abbrev pub snap_cuts : List CountedEdge → CountedEdge → List PlanePoint
snap_cuts es e = each_once is_smaller (map (point_for e) (snap_points es e))

-- they are ascending
pub snap_cuts_ascend : (es : List CountedEdge) (e : CountedEdge) → Each IsSmaller (snap_cuts es e)
snap_cuts_ascend es e = Each-weaker (IsLower is_smaller) IsSmaller (snap_cuts es e)
    (λ p q at_p at_q lower. (Decides-is_smaller p q).0 lower)
    (once_ascends is_smaller smaller-transitive (map (point_for e) (snap_points es e)))

-- ---- the points of an edge of a list

module _ (es : List CountedEdge) (forward : IsForwardBy ends_of es) (e : CountedEdge) (at_e : Contains es e) where
  -- the edge leads forward
  leads : point_lt e.a e.b ≡ true
  leads = leads_forward es forward e at_e e at_e

  -- a computed point is hot, and e meets its pixel
  pub computed_is_met : (v : Point) → Contains (snap_points es e) v → IsHot es v × (meets_pixel (ends_of e) v ≡ true)
  computed_is_met v at_v =
      let kept = Contains-from_filter (meets_pixel (ends_of e)) (hot_points es) v
      (Contains-in_order (comes_first (ends_of e)) (filter (meets_pixel (ends_of e)) (hot_points es)) v at_v) in
      (computed_is_hot es forward v kept.0, kept.1)

  -- the point for it is on e and rounds to it
  pub point_for_computed : (v : Point) → Contains (snap_points es e) v →
      IsOn (ends_of e) (point_for e v) × (nearest_point (point_for e v) ≡ v)
  point_for_computed v at_v = (pixel_point (ends_of e) v).is leads (computed_is_met v at_v).1

  -- a cut is at the place of that point
  pub cut_for : (v : Point) → Contains (snap_points es e) v →
      (q : PlanePoint) × Contains (snap_cuts es e) q × (nearest_point q ≡ v)
  cut_for v at_v =
      let kept = once_each is_smaller smaller-irreflexive (map (point_for e) (snap_points es e)) (point_for e v)
      (Contains-map (point_for e) (snap_points es e) v at_v) in
      let same = same_place-from_tie (point_for e v) kept.0 kept.2.0 kept.2.1 in
      (kept.0, kept.1, sym (nearest_point-rounding.one (point_for e v) kept.0 same) ∙ (point_for_computed v at_v).1)

  -- each cut is the point for the whole point nearest it, which is computed
  pub cut_is_for : (p : PlanePoint) → Contains (snap_cuts es e) p →
      Contains (snap_points es e) (nearest_point p) × (point_for e (nearest_point p) ≡ p)
  cut_is_for p at_p =
      let from = Contains-from_map (point_for e) (snap_points es e) p
      (once_entry is_smaller (map (point_for e) (snap_points es e)) p at_p) in
      let rounds = sym (ap nearest_point from.2) ∙ (point_for_computed from.0 from.1).1 in
      (subst (Contains (snap_points es e)) (sym rounds) from.1, ap (point_for e) rounds ∙ from.2)

  -- the cut is on e
  pub snap_cut_on : (p : PlanePoint) → Contains (snap_cuts es e) p → IsOn (ends_of e) p
  snap_cut_on p at_p =
      let is = cut_is_for p at_p in
      subst (IsOn (ends_of e)) is.1 (point_for_computed (nearest_point p) is.0).0

  -- two cuts have different nearest whole points if one is smaller
  cuts_apart : (p q : PlanePoint) → Contains (snap_cuts es e) p → Contains (snap_cuts es e) q → IsSmaller p q →
      ¬ (nearest_point p ≡ nearest_point q)
  cuts_apart p q at_p at_q smaller same =
      let one = sym (cut_is_for p at_p).1 ∙ ap (point_for e) same ∙ (cut_is_for q at_q).1 in
      both_ways (is_smaller q q) (smaller-irreflexive q)
      ((Decides-is_smaller q q).1 (subst (λ r. IsSmaller r q) one smaller))

  -- a hot point to which a point of e rounds is computed
  pub met_is_computed : (p : PlanePoint) → IsOn (ends_of e) p → IsHot es (nearest_point p) →
      Contains (snap_points es e) (nearest_point p)
  met_is_computed p on hot = Contains-put_in_order (comes_first (ends_of e))
      (filter (meets_pixel (ends_of e)) (hot_points es)) (nearest_point p)
      (Contains-filter (meets_pixel (ends_of e)) (hot_points es) (nearest_point p)
      (hot_is_computed es forward (nearest_point p) hot)
      ((pixels_met_by_test (ends_of e) (nearest_point p) leads).1 (p, on, refl)))

  -- the cuts are where a snap cuts e
  pub is_snapped_at : IsSnappedAt es e (snap_cuts es e)
  is_snapped_at = record {
    ascending = AllPairs-from_each IsSmaller (snap_cuts es e) (snap_cuts_ascend es e);
    on = all_of_entries (IsOn (ends_of e)) (snap_cuts es e) snap_cut_on;
    hot = all_of_entries (λ p. IsHot es (nearest_point p)) (snap_cuts es e)
        (λ p at_p. (computed_is_met (nearest_point p) (cut_is_for p at_p).0).0);
    apart = AllPairs-from_each (λ p q. ¬ (nearest_point p ≡ nearest_point q)) (snap_cuts es e)
        (Each-weaker IsSmaller (λ p q. ¬ (nearest_point p ≡ nearest_point q)) (snap_cuts es e) cuts_apart
        (snap_cuts_ascend es e));
    every = every;
  }
    where
      every : (p : PlanePoint) → IsOn (ends_of e) p → IsHot es (nearest_point p) →
          Any (λ q. nearest_point q ≡ nearest_point p) (snap_cuts es e)
      every p on hot =
          let cut = cut_for (nearest_point p) (met_is_computed p on hot) in
          any_of_entry (λ q. nearest_point q ≡ nearest_point p) (snap_cuts es e) cut.0 cut.1 cut.2
