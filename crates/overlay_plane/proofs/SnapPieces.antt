-- The pieces of a snap, between neighbouring cuts of an edge, or an end and a cut. Each hot point whose pixel the piece
-- meets is the rounding of one of the two.
use Rattle.std.proofs.Common.{◌≡◌, ◌⊎◌, inl, inr, true, List, [], ◌∷◌, ◌++◌, map, Contains, refl, sym}
use Rattle.std.proofs.Common.{ap, ap₂, ◌∙◌, subst}
use Rattle.std.proofs.lemmas.List.{map-append}
use Rattle.std.proofs.lemmas.List.Elements.{All-contains, Contains-append_left, Contains-push_cases}
use Rattle.overlay_geom.specs.Plane.{Point, PlanePoint, Step, IsOn, in_plane, point_lt, steps_through}
use Rattle.overlay_geom.specs.Edges.{CountedEdge, ends_of}
use Rattle.overlay_geom.specs.Rounding.{nearest_point}
use Rattle.overlay_geom.proofs.PointOrder.{IsBefore}
use Rattle.overlay_geom.proofs.Rounded.{nearest_point-rounding}
use Rattle.overlay_plane.specs.EdgeLists.{IsForwardBy}
use Rattle.overlay_plane.specs.Rounds.{Round, IsSmaller, chain_of}
use Rattle.overlay_plane.specs.Snaps.{IsHot, IsSnappedAt, IsSnap}
use Rattle.overlay_plane.proofs.Ends.{start_on, end_on}
use Rattle.overlay_plane.proofs.Entries.{any_of_entry, Contains-from_any}
use Rattle.overlay_plane.proofs.LaterEntries.{Contains-cases, Each, Each-from_all_pairs, Each-weaker}
use Rattle.overlay_plane.proofs.LaterEntries.{Each-between_ends}
use Rattle.overlay_plane.proofs.Neighbours.{AreNeighbours, step_of_neighbours}
use Rattle.overlay_plane.proofs.PlaceOrder.{IsUpToPlace, place_up_to_itself, place_of_smaller}
use Rattle.overlay_plane.proofs.PlaceOrder.{start_up_to_place, place_up_to_end, rounded_alike}
use Rattle.overlay_plane.proofs.Totals.{Contains-later}
use Rattle.overlay_plane.proofs.WholeCuts.{forward_merged}
use Rattle.overlay_plane.proofs.WholeOnEdges.{at_itself, forward_from_test}
use Rattle.overlay_plane.proofs.WholePlaces.{rounded_whole}

-- from p to q an edge of the snap passes no hot pixels but those of the two whole points nearest to p and q, which are
-- hot
pub record IsSnapPiece (r : Round) (e : CountedEdge) (p q : PlanePoint) : Type 0 where
  pub has : Contains r.edges e
  pub on_p : IsOn (ends_of e) p
  pub on_q : IsOn (ends_of e) q
  pub in_order : IsUpToPlace p q
  pub hot_p : IsHot r.edges (nearest_point p)
  pub hot_q : IsHot r.edges (nearest_point q)
  pub alone : (c : PlanePoint) → IsOn (ends_of e) c → IsUpToPlace p c → IsUpToPlace c q →
      IsHot r.edges (nearest_point c) →
      (nearest_point c ≡ nearest_point p) ⊎ (nearest_point c ≡ nearest_point q)

-- the step between the points nearest p and q
abbrev pub step_near : PlanePoint → PlanePoint → Step
step_near p q = record { from = nearest_point p; to = nearest_point q }

-- the step is that of a piece, and leads to another point
pub record IsSnapStep (r : Round) (s : Step) : Type 0 where
  pub e : CountedEdge
  pub p : PlanePoint
  pub q : PlanePoint
  pub piece : IsSnapPiece r e p q
  pub is : step_near p q ≡ s
  pub differ : ¬ (nearest_point p ≡ nearest_point q)

-- a whole point in the plane is nearest itself
pub nearest_itself : (v : Point) → nearest_point (in_plane v) ≡ v
nearest_itself v = rounded_whole nearest_point v (in_plane v) nearest_point-rounding (at_itself v)

module _ (old : List CountedEdge) (r : Round) (forward : IsForwardBy ends_of old) (snap : IsSnap old r) where
  -- the edges of a snap lead forward
  pub snap_leads_forward : (e : CountedEdge) → Contains r.edges e → IsBefore e.a e.b
  snap_leads_forward e has = forward_from_test (ends_of e)
      (All-contains (λ f. point_lt f.a f.b ≡ true) r.edges e (forward_merged old r.edges snap.merged forward) has)

  module _ (e : CountedEdge) (has : Contains r.edges e) where
    -- the edge is cut at hot points
    snapped : IsSnappedAt r.edges e (r.cuts e)
    snapped = All-contains (λ f. IsSnappedAt r.edges f (r.cuts f)) r.edges e snap.cut has

    -- and leads forward
    before : IsBefore e.a e.b
    before = snap_leads_forward e has

    -- the cuts, and the end of the edge
    abbrev later_stops : List PlanePoint
    later_stops = r.cuts e ++ in_plane e.b ∷ []

    -- and its start
    abbrev stops : List PlanePoint
    stops = in_plane e.a ∷ later_stops

    -- each stop is an end of the edge or a cut
    by_stop : {P : PlanePoint → Type 0} → P (in_plane e.a) → P (in_plane e.b) →
        ((p : PlanePoint) → Contains (r.cuts e) p → P p) → (p : PlanePoint) → Contains stops p → P p
    by_stop {P} start end cut p at = elim (Contains-cases (in_plane e.a) later_stops p at) [
      | inl is ↦ subst P is start
      | inr later ↦ elim (Contains-push_cases (r.cuts e) (in_plane e.b) p later) [
        | inl inner ↦ cut p inner
        | inr is ↦ subst P is end
      ]
    ]

    -- a cut is on the edge
    cut_on : (p : PlanePoint) → Contains (r.cuts e) p → IsOn (ends_of e) p
    cut_on p at = All-contains (IsOn (ends_of e)) (r.cuts e) p snapped.on at

    -- and so is each stop
    stop_on : (p : PlanePoint) → Contains stops p → IsOn (ends_of e) p
    stop_on = by_stop {P = IsOn (ends_of e)} (start_on (ends_of e)) (end_on (ends_of e)) cut_on

    -- an end of the edge rounds to a hot point
    end_hot : (v : Point) → (v ≡ e.a) ⊎ (v ≡ e.b) → IsHot r.edges (nearest_point (in_plane v))
    end_hot v end = subst (IsHot r.edges) (sym (nearest_itself v))
        (inl (any_of_entry (λ f. (v ≡ f.a) ⊎ (v ≡ f.b)) r.edges e has end))

    -- and so does each stop
    stop_hot : (p : PlanePoint) → Contains stops p → IsHot r.edges (nearest_point p)
    stop_hot = by_stop {P = λ p. IsHot r.edges (nearest_point p)} (end_hot e.a (inl refl)) (end_hot e.b (inr refl))
        (λ p at. All-contains (λ q. IsHot r.edges (nearest_point q)) (r.cuts e) p snapped.hot at)

    -- the stops are in order
    stops_in_order : Each IsUpToPlace stops
    stops_in_order = Each-between_ends IsUpToPlace (in_plane e.a) (in_plane e.b) (r.cuts e)
        (start_up_to_place (ends_of e) before (in_plane e.b) (end_on (ends_of e)))
        (λ p at. (
          start_up_to_place (ends_of e) before p (cut_on p at),
          place_up_to_end (ends_of e) before p (cut_on p at),
        ))
        (Each-weaker IsSmaller IsUpToPlace (r.cuts e) (λ p q at_p at_q smaller. place_of_smaller p q smaller)
        (Each-from_all_pairs IsSmaller (r.cuts e) snapped.ascending))

    -- between two neighbours among them lies a piece
    piece_of_neighbours : (p q : PlanePoint) → AreNeighbours IsUpToPlace stops p q → IsSnapPiece r e p q
    piece_of_neighbours p q neighbours = record {
      has = has;
      on_p = stop_on p neighbours.first;
      on_q = stop_on q neighbours.second;
      in_order = neighbours.in_order;
      hot_p = stop_hot p neighbours.first;
      hot_q = stop_hot q neighbours.second;
      alone = alone;
    }
      where
        -- a cut rounds to each hot point whose pixel the edge meets, and it does not lie between the neighbours
        alone : (c : PlanePoint) → IsOn (ends_of e) c → IsUpToPlace p c → IsUpToPlace c q →
            IsHot r.edges (nearest_point c) →
            (nearest_point c ≡ nearest_point p) ⊎ (nearest_point c ≡ nearest_point q)
        alone c on from to hot =
            let cut = Contains-from_any (λ d. nearest_point d ≡ nearest_point c) (r.cuts e)
            (snapped.every c on hot) in
            let d : PlanePoint = cut.0 in
            let on_d = cut_on d cut.1 in
            elim (neighbours.beyond d (Contains-later (in_plane e.a) later_stops d
            (Contains-append_left (r.cuts e) (in_plane e.b ∷ []) d cut.1))) [
              | inl up ↦ inl (sym cut.2 ∙ rounded_alike (ends_of e) before d p c on_d (stop_on p neighbours.first) on
                  up from cut.2)
              | inr up ↦ inr (rounded_alike (ends_of e) before c q d on (stop_on q neighbours.second) on_d to up
                  (sym cut.2))
            ]

    -- the chain leads through the points nearest the stops
    chain_through_stops : chain_of r e ≡ steps_through (nearest_point (in_plane e.a)) (map nearest_point later_stops)
    chain_through_stops =
        ap (λ (whole_at : PlanePoint → Point). steps_through e.a (map whole_at (r.cuts e) ++ e.b ∷ []))
        (λ i p. snap.rounding p i)
        ∙ ap₂ (λ a b. steps_through a (map nearest_point (r.cuts e) ++ b ∷ [])) (sym (nearest_itself e.a))
        (sym (nearest_itself e.b))
        ∙ ap (steps_through (nearest_point (in_plane e.a)))
        (sym (map-append nearest_point (r.cuts e) (in_plane e.b ∷ [])))

    -- each of its steps is that of a piece
    pub step_of_snap : (s : Step) → Contains (chain_of r e) s → IsSnapStep r s
    step_of_snap s at =
        let found = step_of_neighbours IsUpToPlace place_up_to_itself nearest_point (in_plane e.a) later_stops
        stops_in_order s (subst (λ ss. Contains ss s) chain_through_stops at) in
        record {
          e = e;
          p = found.y;
          q = found.z;
          piece = piece_of_neighbours found.y found.z found.neighbours;
          is = found.is;
          differ = found.differ;
        }
