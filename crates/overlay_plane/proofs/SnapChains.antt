-- The chain of an edge through the whole points nearest to its snapped cuts is the chain through the computed hot
-- points. It is also the chain through any other such points in order, whether or not these include ends.
use Rattle.std.proofs.Common.{◌≡◌, inr, false, List, [], ◌∷◌, ◌++◌, map, Contains, subst}
use Rattle.std.specs.List.{filter}
use Rattle.overlay_geom.specs.Plane.{Point, PlanePoint, steps_through}
use Rattle.overlay_geom.specs.Edges.{CountedEdge, ends_of}
use Rattle.overlay_geom.specs.Rounding.{nearest_point}
use Rattle.overlay_geom.proofs.PointOrder.{IsBefore}
use Rattle.overlay_plane.specs.CutPoints.{comes_first}
use Rattle.overlay_plane.specs.EdgeLists.{IsForwardBy}
use Rattle.overlay_plane.specs.Rounds.{IsSmaller}
use Rattle.overlay_plane.specs.SnapPoints.{meets_pixel, hot_points, snap_points}
use Rattle.overlay_plane.proofs.AlongOrder.{IsUpToAlong, along-order}
use Rattle.overlay_plane.proofs.CutChains.{IsEndOrIn, chains_alike}
use Rattle.overlay_plane.proofs.CutLists.{leads_forward}
use Rattle.overlay_plane.proofs.Entries.{Contains-map, Contains-from_map}
use Rattle.overlay_plane.proofs.InOrderLists.{Each-in_weak_order}
use Rattle.overlay_plane.proofs.LaterEntries.{Each, Each-map, Each-weaker}
use Rattle.overlay_plane.proofs.RoundedAlong.{start_up_to_rounded, rounded_up_to_end, rounded_up_to}
use Rattle.overlay_plane.proofs.SnapLists.{snap_cuts, snap_cuts_ascend, snap_cut_on, cut_is_for, cut_for, point_for}
use Rattle.overlay_plane.proofs.SnapLists.{point_for_computed}
use Rattle.overlay_plane.proofs.WholeOnEdges.{forward_from_test}

module _ (es : List CountedEdge) (forward : IsForwardBy ends_of es) (e : CountedEdge) (at_e : Contains es e) where
  -- the cuts rounded
  abbrev rounded : List Point
  rounded = map nearest_point (snap_cuts es e)

  -- e leads forward
  before : IsBefore e.a e.b
  before = forward_from_test (ends_of e) (leads_forward es forward e at_e e at_e)

  -- each computed point comes between the ends of e
  pub computed_within : (v : Point) → Contains (snap_points es e) v →
      IsUpToAlong (ends_of e) e.a v × IsUpToAlong (ends_of e) v e.b
  computed_within v at_v =
      let is = point_for_computed es forward e at_e v at_v in
      subst (λ w. IsUpToAlong (ends_of e) e.a w × IsUpToAlong (ends_of e) w e.b) is.1 (
        start_up_to_rounded (ends_of e) before (point_for e v) is.0,
        rounded_up_to_end (ends_of e) before (point_for e v) is.0,
      )

  -- the computed points are in order along e
  pub computed_in_order : Each (IsUpToAlong (ends_of e)) (snap_points es e)
  computed_in_order = Each-in_weak_order (comes_first (ends_of e)) (IsUpToAlong (ends_of e)) (along-order (ends_of e))
      (filter (meets_pixel (ends_of e)) (hot_points es))

  -- and so are the rounded cuts
  rounded_in_order : Each (IsUpToAlong (ends_of e)) rounded
  rounded_in_order = Each-map IsSmaller (IsUpToAlong (ends_of e)) nearest_point (snap_cuts es e) kept
      (snap_cuts_ascend es e)
    where
      kept : (p q : PlanePoint) → Contains (snap_cuts es e) p → Contains (snap_cuts es e) q → IsSmaller p q →
          IsUpToAlong (ends_of e) (nearest_point p) (nearest_point q)
      kept p q at_p at_q smaller = rounded_up_to (ends_of e) before p q (snap_cut_on es forward e at_e p at_p)
          (snap_cut_on es forward e at_e q at_q) smaller

  -- the rounded cuts are the computed points
  rounded_is_computed : (v : Point) → Contains rounded v → Contains (snap_points es e) v
  rounded_is_computed v at_v =
      let cut = Contains-from_map nearest_point (snap_cuts es e) v at_v in
      subst (Contains (snap_points es e)) cut.2 (cut_is_for es forward e at_e cut.0 cut.1).0

  -- and the computed points the rounded cuts
  computed_is_rounded : (v : Point) → Contains (snap_points es e) v → Contains rounded v
  computed_is_rounded v at_v =
      let cut = cut_for es forward e at_e v at_v in
      subst (Contains rounded) cut.2 (Contains-map nearest_point (snap_cuts es e) cut.0 cut.1)

  -- any points in order along e that are, but for ends, the computed ones, lead e along the same chain
  pub same_snap_through : (us : List Point) → Each (IsUpToAlong (ends_of e)) us →
      ((v : Point) → Contains us v → IsEndOrIn e.a e.b (snap_points es e) v) →
      ((v : Point) → Contains (snap_points es e) v → IsEndOrIn e.a e.b us v) →
      steps_through e.a (us ++ e.b ∷ []) ≡ steps_through e.a (snap_points es e ++ e.b ∷ [])
  same_snap_through us us_in_order computed all = chains_alike (ends_of e) before us (snap_points es e) us_in_order
      computed_in_order computed_within computed all

  -- such points stand in order if none comes before an earlier point by the test
  pub same_snap_ascending : (us : List Point) → Each (λ v w. comes_first (ends_of e) w v ≡ false) us →
      ((v : Point) → Contains us v → IsEndOrIn e.a e.b (snap_points es e) v) →
      ((v : Point) → Contains (snap_points es e) v → IsEndOrIn e.a e.b us v) →
      steps_through e.a (us ++ e.b ∷ []) ≡ steps_through e.a (snap_points es e ++ e.b ∷ [])
  same_snap_ascending us ascending = same_snap_through us
      (Each-weaker (λ v w. comes_first (ends_of e) w v ≡ false) (IsUpToAlong (ends_of e)) us
      (λ v w at_v at_w none. (along-order (ends_of e)).failed w v none) ascending)

  -- and so do the rounded cuts
  pub same_snap : steps_through e.a (rounded ++ e.b ∷ []) ≡ steps_through e.a (snap_points es e ++ e.b ∷ [])
  same_snap = same_snap_through rounded rounded_in_order (λ v at_v. inr (inr (rounded_is_computed v at_v)))
      (λ v at_v. inr (inr (computed_is_rounded v at_v)))
