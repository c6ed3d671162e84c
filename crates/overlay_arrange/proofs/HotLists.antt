-- The ends of edges and the points of all their meetings are their hot points.
use Rattle.std.proofs.Common.{◌≡◌, ◌⊎◌, ⊎_elim, inl, inr, List, [], ◌∷◌, ◌++◌, map, flat_map, Contains, sym}
use Rattle.std.proofs.Common.{subst}
use Rattle.std.proofs.lemmas.List.Elements.{Contains-append_cases, Contains-append_left, Contains-append_right}
use Rattle.overlay_geom.specs.Plane.{Point}
use Rattle.overlay_geom.specs.Edges.{CountedEdge, ends_of}
use Rattle.overlay_geom.proofs.Entries.{Contains-cases, Contains-head, Contains-later}
use Rattle.overlay_plane.specs.CutPoints.{comes_first, cut_points, met_at}
use Rattle.overlay_plane.specs.SnapPoints.{hot_points}
use Rattle.overlay_plane.proofs.Entries.{Contains-flat_map, Contains-from_flat_map, Contains-from_map, Contains-map}
use Rattle.overlay_plane.proofs.InOrderLists.{Contains-in_order}
use Rattle.overlay_arrange.specs.Cut.{IsEndOf}
use Rattle.overlay_arrange.specs.HotPoints.{ArePointsAscending, AreHotPoints, HaveSameMembers}
use Rattle.overlay_arrange.specs.Meetings.{AreMeetings, Meeting}

module _ (es : List CountedEdge) (ms : List Meeting) (meetings : AreMeetings es ms) where
  -- the ends of the edges, and the points of the meetings
  abbrev starts : List Point
  starts = map (λ (e : CountedEdge). e.a) es

  abbrev ends : List Point
  ends = map (λ (e : CountedEdge). e.b) es

  abbrev points : List Point
  points = map (λ (m : Meeting). m.point) ms

  abbrev pub ends_and_met : List Point
  ends_and_met = (starts ++ ends) ++ points

  -- the hot points that an edge adds
  abbrev added_by : CountedEdge → List Point
  added_by e = e.a ∷ e.b ∷ cut_points es e

  end_there : (e : CountedEdge) (v : Point) → Contains es e → IsEndOf e v → Contains ends_and_met v
  end_there e v at_e (inl is) = subst (Contains ends_and_met) (sym is)
      (Contains-append_left (starts ++ ends) points e.a
      (Contains-append_left starts ends e.a (Contains-map (λ (e : CountedEdge). e.a) es e at_e)))
  end_there e v at_e (inr is) = subst (Contains ends_and_met) (sym is)
      (Contains-append_left (starts ++ ends) points e.b
      (Contains-append_right starts ends e.b (Contains-map (λ (e : CountedEdge). e.b) es e at_e)))

  -- each hot point is there
  hot_there : (v : Point) → Contains (hot_points es) v → Contains ends_and_met v
  hot_there v at =
      let of = Contains-from_flat_map added_by es v at in
      by of.0 of.1 (Contains-cases of.0.a (of.0.b ∷ cut_points es of.0) v of.2)
    where
      cut : (e : CountedEdge) → Contains es e → Contains (cut_points es e) v → Contains ends_and_met v
      cut e at_e at_v =
          let met = Contains-from_flat_map (λ f. met_at (ends_of e) (ends_of f)) es v
          (Contains-in_order (comes_first (ends_of e)) (flat_map (λ f. met_at (ends_of e) (ends_of f)) es) v at_v) in
          ⊎_elim (λ end. end_there e v at_e end)
          (λ there. Contains-append_right (starts ++ ends) points v
          (Contains-map (λ (m : Meeting). m.point) ms (record { place = at_e.0; point = v }) there))
          (meetings.all at_e.0 met.1.0 e met.0 (at_e.1, at_e.2) (met.1.1, met.1.2) (inl at_e.1) v met.2)

      by : (e : CountedEdge) → Contains es e → (e.a ≡ v) ⊎ Contains (e.b ∷ cut_points es e) v →
          Contains ends_and_met v
      by e at_e (inl is) = end_there e v at_e (inl (sym is))
      by e at_e (inr later) = ⊎_elim (λ is. end_there e v at_e (inr (sym is))) (cut e at_e)
          (Contains-cases e.b (cut_points es e) v later)

  -- the points there are hot
  there_hot : (v : Point) → Contains ends_and_met v → Contains (hot_points es) v
  there_hot v at = ⊎_elim of_end of_meeting (Contains-append_cases (starts ++ ends) points v at)
    where
      an_end : (e : CountedEdge) → Contains es e → Contains (e.a ∷ e.b ∷ []) v → Contains (hot_points es) v
      an_end e at_e at_v = Contains-flat_map added_by es e v at_e
          (Contains-append_left (e.a ∷ e.b ∷ []) (cut_points es e) v at_v)

      of_start : Contains starts v → Contains (hot_points es) v
      of_start start =
          let of = Contains-from_map (λ (e : CountedEdge). e.a) es v start in
          an_end of.0 of.1 (subst (Contains (of.0.a ∷ of.0.b ∷ [])) of.2 (Contains-head of.0.a (of.0.b ∷ [])))

      of_last : Contains ends v → Contains (hot_points es) v
      of_last end =
          let of = Contains-from_map (λ (e : CountedEdge). e.b) es v end in
          an_end of.0 of.1 (subst (Contains (of.0.a ∷ of.0.b ∷ [])) of.2
          (Contains-later of.0.a (of.0.b ∷ []) of.0.b (Contains-head of.0.b [])))

      of_end : Contains (starts ++ ends) v → Contains (hot_points es) v
      of_end end = ⊎_elim of_start of_last (Contains-append_cases starts ends v end)

      of_meeting : Contains points v → Contains (hot_points es) v
      of_meeting at_met =
          let m = Contains-from_map (λ (m : Meeting). m.point) ms v at_met in
          let led = meetings.led m.0 m.1 in
          Contains-flat_map added_by es led.0 v (m.0.place, led.1.0, led.1.1)
          (Contains-append_right (led.0.a ∷ led.0.b ∷ []) (cut_points es led.0) v
          (subst (Contains (cut_points es led.0)) m.2 led.2))

  -- a list with the same members that ascends holds the hot points
  pub are_hot_points : (vs : List Point) → HaveSameMembers ends_and_met vs → ArePointsAscending vs → AreHotPoints es vs
  are_hot_points vs members up = record {
    members = record {
      forth = λ v at. members.forth v (hot_there v at);
      back = λ v at. there_hot v (members.back v at);
    };
    ascending = up;
  }
