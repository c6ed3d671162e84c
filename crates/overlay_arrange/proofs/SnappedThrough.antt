-- The hot points whose pixels an edge meets, taken in their order along it, make its snapped chain, and lie in range.
use Rattle.std.proofs.Common.{◌≡◌, ◌⊎◌, ⊎_elim, inl, inr, ℕ, true, List, [], ◌∷◌, ◌++◌, All, Contains, length, sym}
use Rattle.std.proofs.Common.{ap, ◌∙◌, subst}
use Rattle.std.specs.List.{filter}
use Rattle.std.proofs.lemmas.List.Elements.{All-contains, All-weaker}
use Rattle.overlay_geom.specs.Plane.{Point, point_lt, steps_through}
use Rattle.overlay_geom.specs.Edges.{CountedEdge, ends_of}
use Rattle.overlay_geom.specs.Points.{InRange}
use Rattle.overlay_plane.specs.CutPoints.{comes_first}
use Rattle.overlay_plane.specs.EdgeLists.{IsForwardBy}
use Rattle.overlay_plane.specs.InOrder.{in_order}
use Rattle.overlay_plane.specs.SnapPoints.{hot_points, meets_pixel, snap_points}
use Rattle.overlay_plane.proofs.AlongOrder.{IsUpToAlong, along-order}
use Rattle.overlay_plane.proofs.Entries.{all_of_entries, Contains-filter, Contains-from_filter}
use Rattle.overlay_plane.proofs.InOrderLists.{Contains-in_order, Contains-put_in_order, Each-in_weak_order}
use Rattle.overlay_plane.proofs.LaterEntries.{Each}
use Rattle.overlay_plane.proofs.PixelTests.{Decides-meets_pixel}
use Rattle.overlay_plane.proofs.SnapChains.{same_snap_through}
use Rattle.overlay_plane.proofs.WholeChains.{ends_where_one_step, one_step_through}
use Rattle.overlay_order.specs.Content.{IsHeld}
use Rattle.overlay_pairs.specs.Places.{IsAt}
use Rattle.overlay_arrange.specs.Cut.{chain_by, IsEndOf}
use Rattle.overlay_arrange.specs.HotPoints.{AreHotPoints, AreMetAmong, AreMetInside}
use Rattle.overlay_arrange.proofs.CutContents.{within_between}
use Rattle.overlay_arrange.proofs.LedThrough.{IsLedThrough}

-- a point whose pixel an edge in range meets is in range
pub met_in_range : (limit : ℕ) (e : CountedEdge) (v : Point) → IsHeld limit e → meets_pixel (ends_of e) v ≡ true →
    InRange limit v
met_in_range limit e v held met = ⊎_elim
    (λ end. ⊎_elim (λ is. subst (InRange limit) (sym is) held.a_in_range)
    (λ is. subst (InRange limit) (sym is) held.b_in_range) end)
    (λ inside. record {
      x = within_between limit v.x e.a.x e.b.x held.a_in_range.x held.b_in_range.x inside.0.0;
      y = within_between limit v.y e.a.y e.b.y held.a_in_range.y held.b_in_range.y inside.0.1;
    })
    ((Decides-meets_pixel (ends_of e) v).0 met)

-- the points left of those near an edge at place i, put in order along it
module _ (limit : ℕ) (es : List CountedEdge) (held : All (IsHeld limit) es) (vs : List Point)
    (hot : AreHotPoints es vs) (i : ℕ) (e : CountedEdge) (at_e : IsAt es i e) (us ws ps : List Point)
    (among : AreMetAmong vs e us) (inside : AreMetInside e us ws) (order : ps ≡ in_order (comes_first (ends_of e)) ws)
  where
    -- the edges run forward
    forward : IsForwardBy ends_of es
    forward = All-weaker (IsHeld limit) (λ f. point_lt f.a f.b ≡ true) (λ f h. h.forward) es held

    held_here : IsHeld limit e
    held_here = All-contains (IsHeld limit) es e held (i, at_e.0, at_e.1)

    along : Each (IsUpToAlong (ends_of e)) ps
    along = subst (Each (IsUpToAlong (ends_of e))) (sym order)
        (Each-in_weak_order (comes_first (ends_of e)) (IsUpToAlong (ends_of e)) (along-order (ends_of e)) ws)

    -- each is a hot point whose pixel the edge meets
    hot_met : (v : Point) → Contains ps v → Contains vs v × (meets_pixel (ends_of e) v ≡ true)
    hot_met v at =
        let met = inside.within v (Contains-in_order (comes_first (ends_of e)) ws v
        (subst (λ qs. Contains qs v) order at)) in
        (among.within v met.0, met.1)

    of_snap : (v : Point) → Contains ps v → Contains (snap_points es e) v
    of_snap v at =
        let met = hot_met v at in
        Contains-put_in_order (comes_first (ends_of e)) (filter (meets_pixel (ends_of e)) (hot_points es)) v
        (Contains-filter (meets_pixel (ends_of e)) (hot_points es) v (hot.members.back v met.0) met.1)

    -- all such points are there, but perhaps its own ends
    all_met : (v : Point) → Contains (snap_points es e) v → IsEndOf e v ⊎ Contains ps v
    all_met v at =
        let kept = Contains-from_filter (meets_pixel (ends_of e)) (hot_points es) v
        (Contains-in_order (comes_first (ends_of e)) (filter (meets_pixel (ends_of e)) (hot_points es)) v at) in
        ⊎_elim (λ end. inl end)
        (λ there. inr (subst (λ qs. Contains qs v) (sym order)
        (Contains-put_in_order (comes_first (ends_of e)) ws v there)))
        (inside.all v (among.all v (hot.members.forth v kept.0) kept.1) kept.1)

    chain : steps_through e.a (ps ++ e.b ∷ []) ≡ chain_by (snap_points es) e
    chain = same_snap_through es forward e (i, at_e.0, at_e.1) ps along (λ v at. inr (inr (of_snap v at)))
        (λ v at. ⊎_elim (λ end. ⊎_elim (λ is. inl is) (λ is. inr (inl is)) end) (λ there. inr (inr there))
        (all_met v at))

    -- they lead it along its snapped chain
    pub snapped_through : IsLedThrough (snap_points es) e ps
    snapped_through = record {
      chain = chain;
      whole = (
        λ all. ap length (sym chain) ∙ one_step_through (ends_of e) held_here.forward ps all along,
        λ one. ends_where_one_step e.a e.b ps (ap length chain ∙ one),
      );
    }

    -- they are in range
    pub snapped_in_range : All (InRange limit) ps
    snapped_in_range = all_of_entries (InRange limit) ps (λ v at. met_in_range limit e v held_here (hot_met v at).1)
