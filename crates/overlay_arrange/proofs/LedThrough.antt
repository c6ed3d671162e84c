-- The points of an edge's meetings, taken in their order along it, make the chain through the points that lead it.
use Rattle.std.proofs.Common.{◌≡◌, ⊎_elim, inl, inr, ℕ, ◌+◌, ◌-◌, ◌<◌, ◌≤◌, true, List, [], ◌∷◌, ◌++◌, All, Contains}
use Rattle.std.proofs.Common.{length, map, drop, get_or, slice_range, refl, sym, ap, ◌∙◌, subst, arith}
use Rattle.std.specs.Prelude.{◌↔◌}
use Rattle.std.specs.List.{flat_map}
use Rattle.std.proofs.lemmas.List.{get_or-take, get_or-drop, length-take, length-drop}
use Rattle.std.proofs.lemmas.List.Elements.{All-contains, All-weaker}
use Rattle.overlay_geom.specs.Plane.{Point, Edge, point_lt, steps_through}
use Rattle.overlay_geom.specs.Edges.{CountedEdge, ends_of}
use Rattle.overlay_geom.specs.Points.{InRange}
use Rattle.overlay_plane.specs.CutPoints.{comes_first, cut_points, met_at}
use Rattle.overlay_plane.specs.EdgeLists.{IsForwardBy}
use Rattle.overlay_plane.specs.InOrder.{in_order}
use Rattle.overlay_plane.proofs.AlongOrder.{IsUpToAlong, along-order}
use Rattle.overlay_plane.proofs.CutChains.{same_chain_through}
use Rattle.overlay_plane.proofs.Entries.{all_of_entries, Contains-from_flat_map, Contains-from_map, Contains-map}
use Rattle.overlay_plane.proofs.InOrderLists.{Contains-in_order, Contains-put_in_order, Each-in_weak_order}
use Rattle.overlay_plane.proofs.LaterEntries.{Each}
use Rattle.overlay_plane.proofs.WholeChains.{ends_where_one_step, one_step_through}
use Rattle.overlay_order.specs.Content.{IsHeld}
use Rattle.overlay_pairs.specs.Places.{IsAt}
use Rattle.overlay_pairs.proofs.Entries.{one_entry}
use Rattle.overlay_arrange.specs.Cut.{chain_by, LeadingPoints, StaysWhole}
use Rattle.overlay_arrange.specs.Meetings.{AreInRange, AreLedAlong, AreMeetings, ArePointsAt, IsEndOrMet}
use Rattle.overlay_arrange.specs.Meetings.{IsRunAt, Meeting}
use Rattle.overlay_arrange.proofs.CutContents.{cut_points_in_range}

-- ---- the points of a run

-- a part of a list has the entries at its places
pub ranged : {X : Type 0} (xs : List X) (low high k : ℕ) (x : X) → low ≤ k → k < high → high ≤ length xs → IsAt xs k x →
    Contains (slice_range xs low high) x
ranged xs low high k x past inside within at = (
  k - low,
  omega (arith, length-take (high - low) (drop low xs), length-drop low xs),
  get_or-take (high - low) (drop low xs) (k - low) x (omega arith) ∙ get_or-drop low xs (k - low) x
      ∙ ap (λ n. get_or xs n x) (let same : low + (k - low) ≡ k = omega arith in same) ∙ at.1,
)

-- no other item is in the range
pub from_ranged : {X : Type 0} (xs : List X) (low high : ℕ) (x : X) → high ≤ length xs →
    Contains (slice_range xs low high) x →
    (k : ℕ) × (low ≤ k) × (k < high) × IsAt xs k x
from_ranged xs low high x within at =
    let count = length-take (high - low) (drop low xs) in
    let inside : at.0 < high - low = omega (arith, at.1, count) in (
      low + at.0,
      omega arith,
      omega arith,
      (
        omega arith,
        sym (get_or-drop low xs at.0 x) ∙ sym (get_or-take (high - low) (drop low xs) at.0 x inside)
            ∙ at.2,
      ),
    )

-- the points of the run of an edge, put in their order along it, are its points
pub points_of_run : (ms : List Meeting) (i : ℕ) (e : Edge) (low high : ℕ) (us vs : List Point) →
    IsRunAt ms i low high → us ≡ map (λ m. m.point) (slice_range ms low high) →
    vs ≡ in_order (comes_first e) us → ArePointsAt ms i e vs
points_of_run ms i e low high us vs run are order = record { from = from; all = all; points = us; order = order }
  where
    from : (v : Point) → Contains vs v → Contains ms (record { place = i; point = v })
    from v at =
        let in_us = Contains-in_order (comes_first e) us v (subst (λ ws. Contains ws v) order at) in
        let met = Contains-from_map (λ (m : Meeting). m.point) (slice_range ms low high) v
        (subst (λ ws. Contains ws v) are in_us) in
        let place = from_ranged ms low high met.0 run.within met.1 in
        let same : met.0.place ≡ i = run.from place.0 met.0 place.1 place.2 place.3 in
        let found : Contains ms met.0 = (place.0, place.3.0, place.3.1) in
        subst (λ w. Contains ms (record { place = i; point = w })) met.2
        (subst (λ n. Contains ms (record { place = n; point = met.0.point })) same found)

    all : (v : Point) → Contains ms (record { place = i; point = v }) → Contains vs v
    all v at =
        let m : Meeting = record { place = i; point = v } in
        let inside = run.all at.0 m (at.1, at.2) refl in
        let in_range = ranged ms low high at.0 m inside.0 inside.1 run.within (at.1, at.2) in
        subst (λ ws. Contains ws v) (sym order) (Contains-put_in_order (comes_first e) us v
        (subst (λ ws. Contains ws v) (sym are)
        (Contains-map (λ (n : Meeting). n.point) (slice_range ms low high) m in_range)))

-- ---- the chain through them

-- the edge is led through these points along the chain through the others
pub record IsLedThrough (points : LeadingPoints) (e : CountedEdge) (vs : List Point) : Type 0 where
  pub chain : steps_through e.a (vs ++ e.b ∷ []) ≡ chain_by points e
  pub whole : StaysWhole e vs ↔ (length (chain_by points e) ≡ 1)

-- the points of an edge's meetings are in their order along it
pub points_in_order : (ms : List Meeting) (i : ℕ) (e : Edge) (vs : List Point) → ArePointsAt ms i e vs →
    Each (IsUpToAlong e) vs
points_in_order ms i e vs points = subst (Each (IsUpToAlong e)) (sym points.order)
    (Each-in_weak_order (comes_first e) (IsUpToAlong e) (along-order e) points.points)

-- the points are in range if all meetings are
pub points_in_range : (limit : ℕ) (ms : List Meeting) (i : ℕ) (e : Edge) (vs : List Point) → AreInRange limit ms →
    ArePointsAt ms i e vs → All (InRange limit) vs
points_in_range limit ms i e vs in_range points = all_of_entries (InRange limit) vs
    (λ v at. All-contains (λ (m : Meeting). InRange limit m.point) ms (record { place = i; point = v }) in_range
    (points.from v at))

-- an edge is led through the points of its meetings
pub led_through : (limit : ℕ) (points : LeadingPoints) (i : ℕ) (e : CountedEdge) → IsHeld limit e →
    (ms : List Meeting) (vs : List Point) → ArePointsAt ms i (ends_of e) vs →
    steps_through e.a (vs ++ e.b ∷ []) ≡ chain_by points e → IsLedThrough points e vs
led_through limit points i e held ms vs at chain = record {
  chain = chain;
  whole = (
    λ all. ap length (sym chain) ∙ one_step_through (ends_of e) held.forward vs all
        (points_in_order ms i (ends_of e) vs at),
    λ one. ends_where_one_step e.a e.b vs (ap length chain ∙ one),
  );
}

-- ---- where the edges meet

module _ (limit : ℕ) (es : List CountedEdge) (held : All (IsHeld limit) es) (ms : List Meeting)
    (meetings : AreMeetings es ms) where
  -- the edges run forward
  pub forward : IsForwardBy ends_of es
  forward = All-weaker (IsHeld limit) (λ f. point_lt f.a f.b ≡ true) (λ f h. h.forward) es held

  -- a meeting of an edge is one of its computed points
  pub computed_of : (i : ℕ) (e : CountedEdge) → IsAt es i e → (v : Point) →
      Contains ms (record { place = i; point = v }) → Contains (cut_points es e) v
  computed_of i e at_e v at =
      let led = meetings.led (record { place = i; point = v }) at in
      subst (λ d. Contains (cut_points es d) v) (one_entry es i led.0 e led.1 at_e) led.2

  -- each computed point of an edge is one of its meetings, or an end of it
  pub all_computed : (i : ℕ) (e : CountedEdge) → IsAt es i e → (v : Point) → Contains (cut_points es e) v →
      IsEndOrMet ms i e v
  all_computed i e at_e v at =
      let from = Contains-from_flat_map (λ f. met_at (ends_of e) (ends_of f)) es v
      (Contains-in_order (comes_first (ends_of e)) (flat_map (λ f. met_at (ends_of e) (ends_of f)) es) v at) in
      meetings.all i from.1.0 e from.0 at_e (from.1.1, from.1.2) (inl at_e.0) v from.2

  -- the meetings make the chains through the computed points
  pub meetings_lead_along : AreLedAlong es ms (cut_points es)
  meetings_lead_along i e at_e vs points = same_chain_through es forward e (i, at_e.0, at_e.1) vs
      (points_in_order ms i (ends_of e) vs points) (λ v at. computed_of i e at_e v (points.from v at))
      (λ v at. ⊎_elim (λ end. ⊎_elim (λ is. inl is) (λ is. inr (inl is)) end)
      (λ there. inr (inr (points.all v there))) (all_computed i e at_e v at))

  -- the meetings are in range
  pub meetings_in_range : AreInRange limit ms
  meetings_in_range = all_of_entries (λ (m : Meeting). InRange limit m.point) ms (λ m at.
      let led = meetings.led m at in
      All-contains (InRange limit) (cut_points es led.0) m.point
      (cut_points_in_range limit es led.0 (subst (IsHeld limit) led.1.1 (held m.place led.0 led.1.0))) led.2)
