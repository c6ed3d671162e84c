-- The hot points of a list of edges are those that are computed: the ends of the edges and their cut points.
use Rattle.std.proofs.Common.{◌≡◌, ◌⊎◌, inl, inr, ⊎_elim, List, ◌∷◌, map, Contains, sym, subst}
use Rattle.overlay_geom.specs.Plane.{Point, PlanePoint, SamePlace}
use Rattle.overlay_geom.specs.Edges.{CountedEdge, ends_of}
use Rattle.overlay_geom.specs.Rounding.{nearest_point}
use Rattle.overlay_geom.proofs.Rounded.{nearest_point-rounding}
use Rattle.overlay_plane.specs.CutPoints.{cut_points}
use Rattle.overlay_plane.specs.EdgeLists.{IsForwardBy}
use Rattle.overlay_plane.specs.Meetings.{MeetsAnother}
use Rattle.overlay_plane.specs.SnapPoints.{hot_points}
use Rattle.overlay_plane.specs.Snaps.{IsHot}
use Rattle.overlay_plane.proofs.CutChains.{IsEndOrIn, computed_is_rounded, cut_is_computed}
use Rattle.overlay_plane.proofs.CutLists.{cuts_of, cut_meets, is_cut_at}
use Rattle.overlay_plane.proofs.Entries.{any_of_entry, Contains-from_any, Contains-from_map, Contains-flat_map}
use Rattle.overlay_plane.proofs.Entries.{Contains-from_flat_map}
use Rattle.overlay_plane.proofs.LaterEntries.{Contains-cases}
use Rattle.overlay_plane.proofs.Totals.{Contains-head, Contains-later}

module _ (es : List CountedEdge) (forward : IsForwardBy ends_of es) where
  -- the hot points that an edge adds
  abbrev added_by : CountedEdge → List Point
  added_by e = e.a ∷ e.b ∷ cut_points es e

  -- ---- computed points are hot

  -- an end of an edge is hot
  end_is_hot : (e : CountedEdge) (v : Point) → Contains es e → (v ≡ e.a) ⊎ (v ≡ e.b) → IsHot es v
  end_is_hot e v at_e end = inl (any_of_entry (λ f. (v ≡ f.a) ⊎ (v ≡ f.b)) es e at_e end)

  -- a cut point is hot
  cut_is_hot : (e : CountedEdge) (v : Point) → Contains es e → Contains (cut_points es e) v → IsHot es v
  cut_is_hot e v at_e at_v = ⊎_elim (λ is. end_is_hot e v at_e (inl is))
      (λ other. ⊎_elim (λ is. end_is_hot e v at_e (inr is)) met other)
      (computed_is_rounded es forward e at_e v at_v)
    where
      met : Contains (map nearest_point (cuts_of es e)) v → IsHot es v
      met rounded =
          let cut = Contains-from_map nearest_point (cuts_of es e) v rounded in
          inr (e, cut.0, at_e, cut_meets es forward e at_e cut.0 cut.1, cut.2)

  -- each computed point is hot
  pub computed_is_hot : (v : Point) → Contains (hot_points es) v → IsHot es v
  computed_is_hot v at_v =
      let from = Contains-from_flat_map added_by es v at_v in
      of_edge from.0 from.1 from.2
    where
      of_edge : (e : CountedEdge) → Contains es e → Contains (added_by e) v → IsHot es v
      of_edge e at_e at_v = ⊎_elim (λ is. end_is_hot e v at_e (inl (sym is)))
          (λ later. ⊎_elim (λ is. end_is_hot e v at_e (inr (sym is))) (cut_is_hot e v at_e)
          (Contains-cases e.b (cut_points es e) v later))
          (Contains-cases e.a (e.b ∷ cut_points es e) v at_v)

  -- ---- hot points are computed

  -- the ends and the cut points of an edge are computed
  end_or_cut_is_computed : (e : CountedEdge) (v : Point) → Contains es e → IsEndOrIn e.a e.b (cut_points es e) v →
      Contains (hot_points es) v
  end_or_cut_is_computed e v at_e is = Contains-flat_map added_by es e v at_e (added is)
    where
      added : IsEndOrIn e.a e.b (cut_points es e) v → Contains (added_by e) v
      added (inl is) = subst (Contains (added_by e)) (sym is) (Contains-head e.a (e.b ∷ cut_points es e))
      added (inr (inl is)) = subst (Contains (added_by e)) (sym is)
          (Contains-later e.a (e.b ∷ cut_points es e) e.b (Contains-head e.b (cut_points es e)))
      added (inr (inr cut)) = Contains-later e.a (e.b ∷ cut_points es e) v
          (Contains-later e.b (cut_points es e) v cut)

  -- the whole point nearest one in which another edge meets an edge is computed
  nearest_is_computed : (e : CountedEdge) (p : PlanePoint) → Contains es e → MeetsAnother es e p →
      Contains (hot_points es) (nearest_point p)
  nearest_is_computed e p at_e meets =
      let cut = Contains-from_any (SamePlace p) (cuts_of es e) ((is_cut_at es forward e at_e).every p meets) in
      subst (Contains (hot_points es)) (sym (nearest_point-rounding.one p cut.0 cut.2))
      (end_or_cut_is_computed e (nearest_point cut.0) at_e (cut_is_computed es forward e at_e cut.0 cut.1))

  -- each hot point is computed
  pub hot_is_computed : (v : Point) → IsHot es v → Contains (hot_points es) v
  hot_is_computed v (inl end) =
      let of = Contains-from_any (λ e. (v ≡ e.a) ⊎ (v ≡ e.b)) es end in
      end_or_cut_is_computed of.0 v of.1 (⊎_elim (λ is. inl is) (λ is. inr (inl is)) of.2)
  hot_is_computed v (inr (e, p, at_e, meets, is)) = subst (Contains (hot_points es)) is
      (nearest_is_computed e p at_e meets)
