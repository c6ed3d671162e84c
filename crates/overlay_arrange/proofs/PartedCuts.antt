-- The points through which cutting rounds and snap rounding lead an edge are those nearest to certain points of it:
-- where it is met, and where it rounds to hot points.
use Rattle.std.proofs.Common.{◌≡◌, ◌⊎◌, ⊎_elim, inl, inr, true, List, ◌∷◌, Contains, refl, sym, ap, subst}
use Rattle.std.specs.List.{Any, filter, flat_map}
use Rattle.std.proofs.lemmas.List.Elements.{All-contains}
use Rattle.overlay_geom.specs.Edges.{CountedEdge, ends_of}
use Rattle.overlay_geom.specs.Plane.{Point, PlanePoint, Edge, IsOn, SamePlace, in_plane, point_lt}
use Rattle.overlay_geom.specs.Rounding.{nearest_point}
use Rattle.overlay_geom.proofs.OneLine.{holds_end, holds_start}
use Rattle.overlay_geom.proofs.PointOrder.{IsBefore, Decides-point_lt}
use Rattle.overlay_geom.proofs.Rounded.{nearest_point-rounding}
use Rattle.overlay_plane.specs.CutPoints.{comes_first, cut_points, met_at}
use Rattle.overlay_plane.specs.EdgeLists.{IsForwardBy}
use Rattle.overlay_plane.specs.InOrder.{in_order}
use Rattle.overlay_plane.specs.Meetings.{IsMeetingPoint}
use Rattle.overlay_plane.specs.SnapPoints.{hot_points, meets_pixel, snap_points}
use Rattle.overlay_plane.proofs.AlongOrder.{IsUpToAlong, along-order}
use Rattle.overlay_plane.proofs.CutChains.{IsEndOrIn}
use Rattle.overlay_plane.proofs.Entries.{Contains-filter, Contains-flat_map, Contains-from_any, Contains-from_filter}
use Rattle.overlay_plane.proofs.Entries.{Contains-from_flat_map}
use Rattle.overlay_plane.proofs.InOrderLists.{Contains-in_order, Contains-put_in_order, Each-in_weak_order}
use Rattle.overlay_plane.proofs.LaterEntries.{Contains-cases}
use Rattle.overlay_plane.proofs.MeetingsOf.{HasMeetings, meetings_of}
use Rattle.overlay_plane.proofs.MetPixels.{pixels_met_by_test}
use Rattle.overlay_plane.proofs.Totals.{Contains-head, Contains-later}
use Rattle.overlay_plane.proofs.WholeOnEdges.{at_itself, on_of_held}
use Rattle.overlay_plane.proofs.WholePlaces.{rounded_whole}
use Rattle.overlay_arrange.proofs.PartedChains.{LeadBy}
use Rattle.overlay_arrange.proofs.PartedPoints.{IsMet, met_at_end}

-- ---- the points of cutting rounds

-- the meeting points of two forward edges, and the whole points nearest to them
found_between : (es : List CountedEdge) → IsForwardBy ends_of es → (e : CountedEdge) → IsBefore e.a e.b →
    (f : CountedEdge) → Contains es f → HasMeetings (ends_of e) (ends_of f)
found_between es forward e before f at = meetings_of (ends_of e) (ends_of f) before
    ((Decides-point_lt f.a f.b).0 (All-contains (λ (g : CountedEdge). point_lt g.a g.b ≡ true) es f forward at))

-- cut points are those nearest to where edges are met
pub cuts_lead : LeadBy cut_points IsMet
cuts_lead = record {
  in_order = λ es e. Each-in_weak_order (comes_first (ends_of e)) (IsUpToAlong (ends_of e)) (along-order (ends_of e))
      (flat_map (λ f. met_at (ends_of e) (ends_of f)) es);
  all = all;
  only = only;
  by_ends = λ es e f same. ap (λ g. in_order (comes_first g) (flat_map (λ h. met_at g (ends_of h)) es)) same;
}
  where
    all : (es : List CountedEdge) → IsForwardBy ends_of es → (e : CountedEdge) → IsBefore e.a e.b →
        (p : PlanePoint) → IsOn (ends_of e) p → IsMet es (ends_of e) p →
        IsEndOrIn e.a e.b (cut_points es e) (nearest_point p)
    all es forward e before p on (f, at, meeting) =
        let found = found_between es forward e before f at in
        let q = Contains-from_any (SamePlace p) found.0 (found.1.every p meeting) in
        let led = All-contains (λ r. (nearest_point r ≡ e.a)
        ⊎ ((nearest_point r ≡ e.b) ⊎ Contains (met_at (ends_of e) (ends_of f)) (nearest_point r)))
        found.0 q.0 found.2.from q.1 in
        subst (IsEndOrIn e.a e.b (cut_points es e)) (sym (nearest_point-rounding.one p q.0 q.2))
        (⊎_elim (λ is. inl is) (λ other. inr (⊎_elim (λ is. inl is) (λ there. inr (listed q.0 there)) other)) led)
      where
        listed : (q : PlanePoint) → Contains (met_at (ends_of e) (ends_of f)) (nearest_point q) →
            Contains (cut_points es e) (nearest_point q)
        listed q there = Contains-put_in_order (comes_first (ends_of e))
            (flat_map (λ h. met_at (ends_of e) (ends_of h)) es) (nearest_point q)
            (Contains-flat_map (λ (h : CountedEdge). met_at (ends_of e) (ends_of h)) es f (nearest_point q) at there)

    only : (es : List CountedEdge) → IsForwardBy ends_of es → (e : CountedEdge) → IsBefore e.a e.b → (v : Point) →
        Contains (cut_points es e) v →
        (v ≡ e.a) ⊎ ((v ≡ e.b)
        ⊎ ((p : PlanePoint) × IsOn (ends_of e) p × IsMet es (ends_of e) p × (nearest_point p ≡ v)))
    only es forward e before v at =
        let from = Contains-from_flat_map (λ (h : CountedEdge). met_at (ends_of e) (ends_of h)) es v
        (Contains-in_order (comes_first (ends_of e)) (flat_map (λ h. met_at (ends_of e) (ends_of h)) es) v at) in
        let found = found_between es forward e before from.0 from.1 in
        ⊎_elim (λ is. inl is) (λ other. inr (⊎_elim (λ is. inl is) (λ some. inr (met from.0 from.1 found some)) other))
        (All-contains (λ w. (w ≡ e.a) ⊎ ((w ≡ e.b) ⊎ Any (λ p. w ≡ nearest_point p) found.0))
        (met_at (ends_of e) (ends_of from.0)) v found.2.to from.2)
      where
        met : (f : CountedEdge) → Contains es f → (found : HasMeetings (ends_of e) (ends_of f)) →
            Any (λ p. v ≡ nearest_point p) found.0 →
            (p : PlanePoint) × IsOn (ends_of e) p × IsMet es (ends_of e) p × (nearest_point p ≡ v)
        met f at_f found some =
            let q = Contains-from_any (λ p. v ≡ nearest_point p) found.0 some in
            let meeting = All-contains (IsMeetingPoint (ends_of e) (ends_of f)) found.0 q.0 found.1.only q.1 in
            (q.0, meeting.common.0, (f, at_f, meeting), sym q.2)

-- ---- the points of snap rounding

-- some edge of the list is met at a point nearest to v
abbrev pub IsHotAt : List CountedEdge → Point → Type 0
IsHotAt es v = (e : CountedEdge) × Contains es e × (p : PlanePoint) × IsMet es (ends_of e) p × (nearest_point p ≡ v)

-- p rounds to a hot point
abbrev pub RoundsToHot : List CountedEdge → Edge → PlanePoint → Type 0
RoundsToHot es e p = IsHotAt es (nearest_point p)

-- a whole point is nearest to itself
pub nearest_itself : (v : Point) → nearest_point (in_plane v) ≡ v
nearest_itself v = rounded_whole nearest_point v (in_plane v) nearest_point-rounding (at_itself v)

module _ (es : List CountedEdge) (forward : IsForwardBy ends_of es) where
  leads_on : (e : CountedEdge) → Contains es e → IsBefore e.a e.b
  leads_on e at =
      (Decides-point_lt e.a e.b).0 (All-contains (λ (g : CountedEdge). point_lt g.a g.b ≡ true) es e forward at)

  -- the ends of the edges are hot
  start_is_hot : (e : CountedEdge) → Contains es e → IsHotAt es e.a
  start_is_hot e at = (
    e,
    at,
    in_plane e.a,
    met_at_end es e (in_plane e.a) at (on_of_held (ends_of e) e.a (in_plane e.a) (leads_on e at) (at_itself e.a)
        (holds_start (ends_of e) (leads_on e at))) (inl (at_itself e.a)),
    nearest_itself e.a,
  )

  end_is_hot : (e : CountedEdge) → Contains es e → IsHotAt es e.b
  end_is_hot e at = (
    e,
    at,
    in_plane e.b,
    met_at_end es e (in_plane e.b) at (on_of_held (ends_of e) e.b (in_plane e.b) (leads_on e at) (at_itself e.b)
        (holds_end (ends_of e) (leads_on e at))) (inr (at_itself e.b)),
    nearest_itself e.b,
  )

  -- the computed hot points are hot
  pub hot_of_computed : (v : Point) → Contains (hot_points es) v → IsHotAt es v
  hot_of_computed v at =
      let from = Contains-from_flat_map (λ (e : CountedEdge). e.a ∷ e.b ∷ cut_points es e) es v at in
      by from.0 from.1 from.2
    where
      of_cut : (e : CountedEdge) → Contains es e → Contains (cut_points es e) v → IsHotAt es v
      of_cut e at_e at_v = ⊎_elim (λ is. subst (IsHotAt es) (sym is) (start_is_hot e at_e))
          (λ other. ⊎_elim (λ is. subst (IsHotAt es) (sym is) (end_is_hot e at_e))
          (λ found. (e, at_e, found.0, found.2, found.3)) other)
          (cuts_lead.only es forward e (leads_on e at_e) v at_v)

      by : (e : CountedEdge) → Contains es e → Contains (e.a ∷ e.b ∷ cut_points es e) v → IsHotAt es v
      by e at_e at_v = ⊎_elim (λ is. subst (IsHotAt es) is (start_is_hot e at_e))
          (λ later. ⊎_elim (λ is. subst (IsHotAt es) is (end_is_hot e at_e)) (of_cut e at_e)
          (Contains-cases e.b (cut_points es e) v later))
          (Contains-cases e.a (e.b ∷ cut_points es e) v at_v)

  -- each hot point is computed
  pub computed_of_hot : (v : Point) → IsHotAt es v → Contains (hot_points es) v
  computed_of_hot v (e, at, p, met, is) = subst (Contains (hot_points es)) is
      (Contains-flat_map (λ (g : CountedEdge). g.a ∷ g.b ∷ cut_points es g) es e (nearest_point p) at
      (listed (cuts_lead.all es forward e (leads_on e at) p met.2.common.0 met)))
    where
      listed : IsEndOrIn e.a e.b (cut_points es e) (nearest_point p) →
          Contains (e.a ∷ e.b ∷ cut_points es e) (nearest_point p)
      listed (inl is_a) = subst (Contains (e.a ∷ e.b ∷ cut_points es e)) (sym is_a)
          (Contains-head e.a (e.b ∷ cut_points es e))
      listed (inr (inl is_b)) = subst (Contains (e.a ∷ e.b ∷ cut_points es e)) (sym is_b)
          (Contains-later e.a (e.b ∷ cut_points es e) e.b (Contains-head e.b (cut_points es e)))
      listed (inr (inr there)) = Contains-later e.a (e.b ∷ cut_points es e) (nearest_point p)
          (Contains-later e.b (cut_points es e) (nearest_point p) there)

-- the points of snap rounding are those nearest to points of the edge that round to hot points
pub snaps_lead : LeadBy snap_points RoundsToHot
snaps_lead = record {
  in_order = λ es e. Each-in_weak_order (comes_first (ends_of e)) (IsUpToAlong (ends_of e)) (along-order (ends_of e))
      (filter (meets_pixel (ends_of e)) (hot_points es));
  all = λ es forward e before p on hot. inr (inr (Contains-put_in_order (comes_first (ends_of e))
      (filter (meets_pixel (ends_of e)) (hot_points es)) (nearest_point p)
      (Contains-filter (meets_pixel (ends_of e)) (hot_points es) (nearest_point p)
      (computed_of_hot es forward (nearest_point p) hot)
      ((pixels_met_by_test (ends_of e) (nearest_point p) ((Decides-point_lt e.a e.b).1 before)).1 (p, on, refl)))));
  only = λ es forward e before v at.
      let kept = Contains-from_filter (meets_pixel (ends_of e)) (hot_points es) v
      (Contains-in_order (comes_first (ends_of e)) (filter (meets_pixel (ends_of e)) (hot_points es)) v at) in
      let found = (pixels_met_by_test (ends_of e) v ((Decides-point_lt e.a e.b).1 before)).0 kept.1 in
      inr (inr (
        found.0,
        found.1,
        subst (IsHotAt es) (sym found.2) (hot_of_computed es forward v kept.0),
        found.2,
      ));
  by_ends = λ es e f same. ap (λ g. in_order (comes_first g) (filter (meets_pixel g) (hot_points es))) same;
}
