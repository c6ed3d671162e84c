-- A snap of edges is one of the edges with the counts of subject and clip exchanged, and of the edges in another order.
use Rattle.std.proofs.Common.{inl, inr, List, map, subst}
use Rattle.std.specs.List.Sorted.{IsPermutation}
use Rattle.std.proofs.lemmas.List.Elements.{All-map, All-weaker}
use Rattle.overlay_geom.specs.Plane.{Point, PlanePoint}
use Rattle.overlay_geom.specs.Edges.{CountedEdge}
use Rattle.overlay_geom.specs.Rounding.{nearest_point}
use Rattle.overlay_plane.specs.Rounds.{Round}
use Rattle.overlay_plane.specs.Snaps.{IsHot, IsSnappedAt, IsSnap}
use Rattle.overlay_plane.proofs.Entries.{Contains-map}
use Rattle.overlay_relate.specs.PredicateLaws.{exchanged}
use Rattle.overlay_relate.proofs.ExchangedMeetings.{settled_back, meets_exchanged}
use Rattle.overlay_relate.proofs.ExchangedMerges.{exchanged_twice, merged_exchanged, merged_shuffled}

-- the round that cuts the exchanged edges where this one cuts the edges
abbrev pub exchanged_round : Round → Round
exchanged_round r = record { edges = map exchanged r.edges; cuts = λ e. r.cuts (exchanged e); whole_at = r.whole_at }

-- hot points of the edges are hot points of the exchanged ones, and the other way round
hot_exchanged : (es : List CountedEdge) (v : Point) → IsHot es v → IsHot (map exchanged es) v
hot_exchanged es v (inl (k, e, l, at_e, end)) =
    let c = Contains-map exchanged es e (k, l, at_e) in inl (c.0, exchanged e, c.1, c.2, end)
hot_exchanged es v (inr (e, p, at_e, meets, near)) =
    inr (exchanged e, p, Contains-map exchanged es e at_e, meets_exchanged es e p meets, near)

hot_back : (es : List CountedEdge) (v : Point) → IsHot (map exchanged es) v → IsHot es v
hot_back es v h = subst (λ fs. IsHot fs v) (exchanged_twice es) (hot_exchanged (map exchanged es) v h)

-- so an edge is snapped where the exchanged one is
snapped_exchanged : (es : List CountedEdge) (e : CountedEdge) (ps : List PlanePoint) → IsSnappedAt es e ps →
    IsSnappedAt (map exchanged es) (exchanged e) ps
snapped_exchanged es e ps h = record {
  ascending = h.ascending;
  on = h.on;
  hot = All-weaker (λ p. IsHot es (nearest_point p)) (λ p. IsHot (map exchanged es) (nearest_point p))
      (λ p. hot_exchanged es (nearest_point p)) ps h.hot;
  apart = h.apart;
  every = λ p on hot. h.every p on (hot_back es (nearest_point p) hot);
}

-- a snap of the edges is one of the exchanged edges
pub snap_exchanged : (old : List CountedEdge) (r : Round) → IsSnap old r →
    IsSnap (map exchanged old) (exchanged_round r)
snap_exchanged old r h = record {
  merged = merged_exchanged old r.edges h.merged;
  unsettled = λ settled. h.unsettled (settled_back r.edges settled);
  cut = All-map (λ e. IsSnappedAt (map exchanged r.edges) e (r.cuts (exchanged e))) exchanged r.edges
      (All-weaker (λ e. IsSnappedAt r.edges e (r.cuts e))
      (λ e. IsSnappedAt (map exchanged r.edges) (exchanged e) (r.cuts e))
      (λ e. snapped_exchanged r.edges e (r.cuts e)) r.edges h.cut);
  rounding = h.rounding;
}

-- a snap of the edges is one of the edges in another order, which merge into the same ones
pub snap_shuffled : (old other : List CountedEdge) (r : Round) → IsPermutation old other → IsSnap old r → IsSnap other r
snap_shuffled old other r same h = record {
  merged = merged_shuffled old other r.edges same h.merged;
  unsettled = h.unsettled;
  cut = h.cut;
  rounding = h.rounding;
}
