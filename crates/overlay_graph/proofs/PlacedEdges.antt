-- Edges at places of a list: places compared by where their edges start, and edges read at places.
use Rattle.std.proofs.Common.{◌≡◌, ⊎_elim, ℕ, ◌<◌, Bool, true, false, List, map, length, get_or, All, sym, ap, ◌∙◌}
use Rattle.std.proofs.Common.{subst, arith}
use Rattle.std.specs.Cmp.{IsStrictWeakOrder}
use Rattle.std.specs.Prelude.{AllPairs}
use Rattle.std.specs.List.Sorted.{IsPermutation, IsSortedBy}
use Rattle.std.proofs.Math.ListN.{get_or-eq_default}
use Rattle.std.proofs.lemmas.Bool.{cases_lt}
use Rattle.std.proofs.lemmas.List.{get_or_default, length-map}
use Rattle.std.proofs.lemmas.List.Elements.{All-get_or, All-contains}
use Rattle.overlay_geom.specs.Edges.{CountedEdge, ends_of}
use Rattle.overlay_geom.specs.Plane.{Edge}
use Rattle.overlay_geom.specs.Numbered.{Numbered, numbered}
use Rattle.overlay_geom.proofs.Mapped.{AllPairs-map, read_mapped}
use Rattle.overlay_geom.proofs.Numbered.{numbered_shuffled}
use Rattle.overlay_plane.specs.Anchors.{is_anchored_before}
use Rattle.overlay_plane.proofs.EdgeTurns.{IsForward}
use Rattle.overlay_plane.proofs.SortedStarts.{starts_before, starts_before-order, by_start-from_sorted}
use Rattle.overlay_order.specs.Content.{IsHeld}
use Rattle.overlay_graph.specs.Starts.{no_edge, edge_at, edges_at, numbered_at}

module _ (limit : ℕ) (es : List CountedEdge) (behind : CountedEdge) (held : All (IsHeld limit) es)
    (last : IsHeld limit behind) where
  -- the ends of the edge at a place, or of one edge behind all
  abbrev pub ends_or : ℕ → Edge
  ends_or k = ends_of (get_or es k behind)

  pub held_or : (k : ℕ) → IsHeld limit (get_or es k behind)
  held_or k = ⊎_elim (λ within. All-get_or (IsHeld limit) es k behind within held)
      (λ past. subst (IsHeld limit) (sym (get_or-eq_default es behind past)) last) (cases_lt k (length es))

  pub forward_or : (k : ℕ) → IsForward (ends_or k)
  forward_or k = (held_or k).forward

  -- the edge at the first place starts before that at the second
  abbrev pub place_before : ℕ → ℕ → Bool
  place_before = starts_before ends_or forward_or

  -- any two compare
  pub place_before-order : IsStrictWeakOrder place_before
  place_before-order = starts_before-order ends_or forward_or

  same_edge : (k : ℕ) → k < length es → get_or es k behind ≡ edge_at es k
  same_edge k within = get_or_default es k behind no_edge within

  -- sorted places are in the order of the starts
  pub by_start_from_sorted : (places : List ℕ) → All (λ k. k < length es) places → IsSortedBy place_before places →
      AllPairs (λ m n. is_anchored_before (ends_of n.item) (ends_of m.item) ≡ false) (numbered_at es places)
  by_start_from_sorted places within up =
      AllPairs-map (λ (m n : Numbered CountedEdge). is_anchored_before (ends_of n.item) (ends_of m.item) ≡ false)
      (λ k. record { item = edge_at es k; place = k }) places
      (λ i j d less m.
      let inside = λ (p : ℕ). λ (h : p < length places). within p d h in
      subst (λ (e : CountedEdge). is_anchored_before (ends_of (edge_at es (get_or places j d))) (ends_of e) ≡ false)
      (same_edge (get_or places i d) (inside i (omega arith)))
      (subst (λ (e : CountedEdge). is_anchored_before (ends_of e) (ends_or (get_or places i d)) ≡ false)
      (same_edge (get_or places j d) (inside j m))
      (by_start-from_sorted ends_or forward_or places up i j d less m)))

-- places of all edges are places of edges
pub numbered_within : (es : List CountedEdge) (places : List ℕ) →
    IsPermutation (numbered 0 es) (numbered_at es places) → All (λ k. k < length es) places
numbered_within es places moved i d lt =
    let n : Numbered CountedEdge = record { item = edge_at es (get_or places i d); place = get_or places i d } in
    (All-contains (λ (m : Numbered CountedEdge). (m.place < length es) × (get_or es m.place m.item ≡ m.item))
    (numbered_at es places) n (numbered_shuffled es (numbered_at es places) moved).from (
      i,
      rw length-map lt,
      read_mapped (λ k. record { item = edge_at es k; place = k }) places i (get_or places i d) n lt
          (get_or_default places i d (get_or places i d) lt),
    )).0

-- a place of the list of places
pub placed_at : (places : List ℕ) (i : ℕ) → i < length places → get_or places i 0 ≡ get_or places i (get_or places i 0)
placed_at places i lt = get_or_default places i 0 (get_or places i 0) lt

-- the edge read at a place that is read
pub placed_read : {X : Type 0} (f : X → CountedEdge) (xs : List X) (places : List ℕ) (i : ℕ) (x : X) →
    i < length places → All (λ k. k < length xs) places → x ≡ get_or xs (get_or places i 0) x →
    get_or (edges_at (map f xs) places) i (f x) ≡ f x
placed_read f xs places i x lt within is =
    read_mapped (edge_at (map f xs)) places i (get_or places i 0) (f x) lt (placed_at places i lt)
    ∙ read_mapped f xs (get_or places i 0) x no_edge (within i 0 lt) is
