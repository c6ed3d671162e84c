-- A snap, merged, is settled: edges of steps that meet share an end, and no hot point but its ends lies on an edge.
use Rattle.std.proofs.Common.{◌≡◌, ◌⊎◌, inl, inr, Bool, true, false, Contains, List, refl, sym, ap, ◌∙◌, subst}
use Rattle.std.proofs.lemmas.Bool.{false_from_ne_true}
use Rattle.overlay_geom.specs.Plane.{Point, PlanePoint, Step, Edge, IsAt, IsOn, IsEnd, SamePlace, in_plane, edge_eq}
use Rattle.overlay_geom.specs.Plane.{edge_of, is_forward, point_eq}
use Rattle.overlay_geom.specs.Edges.{CountedEdge, ends_of}
use Rattle.overlay_geom.specs.Merged.{IsMerged}
use Rattle.overlay_geom.specs.Settled.{IsCommon, IsSettled, MeetInEnds}
use Rattle.overlay_geom.proofs.Orders.{Decides-point_eq}
use Rattle.overlay_geom.proofs.PointOrder.{IsBefore}
use Rattle.overlay_plane.specs.Cutting.{piece_along, pieces_through}
use Rattle.overlay_plane.specs.EdgeLists.{IsForwardBy}
use Rattle.overlay_plane.specs.Meetings.{IsMeetingPoint}
use Rattle.overlay_plane.specs.PixelSteps.{MeetingStepsPassPixels}
use Rattle.overlay_plane.specs.Rounds.{Round, pieces_of, chain_of, whole_cuts}
use Rattle.overlay_plane.specs.Snaps.{IsHot, IsSnap, SnapsSettle}
use Rattle.overlay_plane.proofs.EdgesOfSteps.{edge_by}
use Rattle.overlay_plane.proofs.Ends.{start_on, end_on}
use Rattle.overlay_plane.proofs.Entries.{Contains-from_map, Contains-from_flat_map}
use Rattle.overlay_plane.proofs.NearChains.{long_forward}
use Rattle.overlay_plane.proofs.PlaceOrder.{on_same_place}
use Rattle.overlay_plane.proofs.SettledMeetings.{meet_in_ends_of_meetings}
use Rattle.overlay_plane.proofs.SnapPieces.{IsSnapStep, step_near, step_of_snap}
use Rattle.overlay_plane.proofs.SnapSteps.{IsEndOf, hot_is_end, ShareAnEnd, meeting_steps_share}
use Rattle.overlay_plane.proofs.WholeCuts.{ends_of_merged}
use Rattle.overlay_plane.proofs.WholeOnEdges.{at_itself, at_whole, same_place_at, forward_from_test}
use Rattle.overlay_plane.proofs.WholePlaces.{at_moved}

-- an end of a step is an end of its edge
end_of_edge : (s : Step) (u : Point) → IsEndOf s u → IsEnd (edge_of s) (in_plane u)
end_of_edge s u end = by (is_forward s) end
  where
    -- it is at itself
    at : (v : Point) → u ≡ v → IsAt v (in_plane u)
    at v is = subst (λ w. IsAt w (in_plane u)) is (at_itself u)

    by : (t : Bool) → IsEndOf s u → IsEnd (edge_by t s) (in_plane u)
    by true (inl is) = inl (at s.from is)
    by true (inr is) = inr (at s.to is)
    by false (inl is) = inr (at s.from is)
    by false (inr is) = inl (at s.to is)

-- a whole point that is an end of an edge is on it
end_on_edge : (g : Edge) (u : Point) → IsEnd g (in_plane u) → IsOn g (in_plane u)
end_on_edge g u (inl start) = subst (λ v. IsOn g (in_plane v)) (at_whole g.a u start) (start_on g)
end_on_edge g u (inr end) = subst (λ v. IsOn g (in_plane v)) (at_whole g.b u end) (end_on g)

-- where a whole point that is an end is, any point of the plane is an end
end_moved : (g : Edge) (u : Point) (x : PlanePoint) → IsAt u x → IsEnd g (in_plane u) → IsEnd g x
end_moved g u x at (inl start) = inl (at_moved g.a (in_plane u) x (same_place_at u (in_plane u) x (at_itself u) at)
    start)
end_moved g u x at (inr end) = inr (at_moved g.b (in_plane u) x (same_place_at u (in_plane u) x (at_itself u) at) end)

module _ (core : MeetingStepsPassPixels) (old : List CountedEdge) (r : Round) (forward : IsForwardBy ends_of old)
    (snap : IsSnap old r) where
  -- the edge of a step of the snap leads forward
  step_forward : (s : Step) → IsSnapStep r s → IsBefore (edge_of s).a (edge_of s).b
  step_forward s step = forward_from_test (edge_of s) (long_forward s (false_from_ne_true (point_eq s.from s.to)
      (λ same. subst (λ (t : Step). ¬ (t.from ≡ t.to)) step.is step.differ
      ((Decides-point_eq s.from s.to).0 same))))

  -- both its ends are hot
  ends_hot : (s : Step) → IsSnapStep r s → (u : Point) → IsEndOf s u → IsHot r.edges u
  ends_hot s step u end = by (subst (λ t. IsEndOf t u) (sym step.is) end)
    where
      by : IsEndOf (step_near step.p step.q) u → IsHot r.edges u
      by (inl is) = subst (IsHot r.edges) (sym is) step.piece.hot_p
      by (inr is) = subst (IsHot r.edges) (sym is) step.piece.hot_q

  -- an end of a step's edge that lies on that of another step is an end of that one
  hot_end : (s t : Step) → IsSnapStep r s → IsSnapStep r t → (x : PlanePoint) → IsOn (edge_of t) x →
      IsEnd (edge_of s) x →
      IsEnd (edge_of t) x
  hot_end s t step_s step_t x on end = by (is_forward s) end
    where
      -- the end is hot
      at_end : (u : Point) → IsEndOf s u → IsAt u x → IsEnd (edge_of t) x
      at_end u end at = end_moved (edge_of t) u x at (end_of_edge t u
          (hot_is_end old r forward snap t step_t (step_forward t step_t) u (ends_hot s step_s u end)
          (on_same_place (edge_of t) (step_forward t step_t) x (in_plane u) (same_place_at u x (in_plane u) at
          (at_itself u)) on)))

      by : (b : Bool) → IsEnd (edge_by b s) x → IsEnd (edge_of t) x
      by true (inl at) = at_end s.from (inl refl) at
      by true (inr at) = at_end s.to (inr refl) at
      by false (inl at) = at_end s.to (inr refl) at
      by false (inr at) = at_end s.from (inl refl) at

  -- each meeting point of two steps' edges is an end of both
  meets_in_ends : (s t : Step) → IsSnapStep r s → IsSnapStep r t → (x : PlanePoint) →
      IsMeetingPoint (edge_of s) (edge_of t) x →
      IsEnd (edge_of s) x × IsEnd (edge_of t) x
  meets_in_ends s t step_s step_t x meeting = by meeting.only_or_end
    where
      -- the steps share an end
      shared : ShareAnEnd s t
      shared = meeting_steps_share old r forward snap core s t step_s step_t (step_forward s step_s)
          (step_forward t step_t) x meeting.common.0 meeting.common.1

      by : ((y : PlanePoint) → IsCommon (edge_of s) (edge_of t) y → SamePlace y x) ⊎ (IsEnd (edge_of s) x ⊎ IsEnd
          (edge_of t) x) →
          IsEnd (edge_of s) x × IsEnd (edge_of t) x
      by (inr (inl end)) = (end, hot_end s t step_s step_t x meeting.common.1 end)
      by (inr (inr end)) = (hot_end t s step_t step_s x meeting.common.0 end, end)
      by (inl only) =
          let u : Point = shared.0 in
          let of_s = end_of_edge s u shared.1 in
          let of_t = end_of_edge t u shared.2 in
          let at : IsAt u x = at_moved u (in_plane u) x (only (in_plane u)
          (end_on_edge (edge_of s) u of_s, end_on_edge (edge_of t) u of_t)) (at_itself u) in
          (end_moved (edge_of s) u x at of_s, end_moved (edge_of t) u x at of_t)

  -- each piece lies along the edge of a step
  piece_step : (g : CountedEdge) → Contains (pieces_of r) g → (s : Step) × IsSnapStep r s × (edge_of s ≡ ends_of g)
  piece_step g has =
      let of_edge = Contains-from_flat_map (pieces_through (whole_cuts r)) r.edges g has in
      let e : CountedEdge = of_edge.0 in
      let of_step = Contains-from_map (piece_along e) (chain_of r e) g of_edge.2 in
      (of_step.0, step_of_snap old r forward snap e of_edge.1 of_step.0 of_step.1, ap ends_of of_step.2)

  -- the pieces, merged, are settled
  snapped_settled : (new : List CountedEdge) → IsMerged (pieces_of r) new → IsSettled new
  snapped_settled new merged g k has_g has_k other =
      let from_g = ends_of_merged (pieces_of r) new merged g has_g in
      let from_k = ends_of_merged (pieces_of r) new merged k has_k in
      let of_g = piece_step from_g.0 from_g.1 in
      let of_k = piece_step from_k.0 from_k.1 in
      let is_g : edge_of of_g.0 ≡ ends_of g = of_g.2 ∙ from_g.2 in
      let is_k : edge_of of_k.0 ≡ ends_of k = of_k.2 ∙ from_k.2 in
      subst (λ h. MeetInEnds h (ends_of k)) is_g (subst (λ h. MeetInEnds (edge_of of_g.0) h) is_k
      (meet_in_ends_of_meetings (edge_of of_g.0) (edge_of of_k.0) (step_forward of_g.0 of_g.1)
      (step_forward of_k.0 of_k.1)
      (subst (λ h. edge_eq h (edge_of of_k.0) ≡ false) (sym is_g)
      (subst (λ h. edge_eq (ends_of g) h ≡ false) (sym is_k) other))
      (meets_in_ends of_g.0 of_k.0 of_g.1 of_k.1)))

-- the pieces of a snap are settled, by the facts of steps that meet
pub snaps_settle_by : MeetingStepsPassPixels → SnapsSettle
snaps_settle_by core old new r forward snap merged = snapped_settled core old r forward snap new merged
