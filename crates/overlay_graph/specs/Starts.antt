-- The edges of a list in the order of a sweep, and the entries that the sweep holds.
use Rattle.std.specs.Prelude.{◌≡◌, ℕ, ◌+◌, Bool, false, ℤ, pos, List, map, AllPairs, slice_index_or}
use Rattle.std.specs.List.Sorted.{IsPermutation}
use Rattle.overlay_geom.specs.Counts.{Counts}
use Rattle.overlay_geom.specs.Edges.{CountedEdge, ends_of, subj_of, clip_of, winding_below, winding_above}
use Rattle.overlay_geom.specs.Numbered.{Numbered, numbered}
use Rattle.overlay_plane.specs.Anchors.{is_anchored_before}
use Rattle.overlay_plane.specs.Nodes.{IsBalancedArrangement}
use Rattle.overlay_scan.specs.Scan.{Entry}
use Rattle.overlay_scan.specs.Sweeps.{entry_of}
use Rattle.overlay_order.specs.Content.{plain_edges, IsContent}
use Rattle.overlay_order.specs.declared.edge.CountedEdge.{CountedEdge as HeldEdge}
use Rattle.overlay_graph.specs.declared.windings.Windings.{Windings}

-- an edge that stands where a list has none
abbrev pub no_edge : CountedEdge
no_edge = record {
  a = record { x = pos 0; y = pos 0 };
  b = record { x = pos 0; y = pos 0 };
  counts = record { subj = pos 0; clip = pos 0; along = false; against = false };
}

-- the edge at a place, and those at a list of places
abbrev pub edge_at : List CountedEdge → ℕ → CountedEdge
edge_at es k = slice_index_or es k no_edge

abbrev pub edges_at : List CountedEdge → List ℕ → List CountedEdge
edges_at es places = map (edge_at es) places

-- the edge at a place starts before that at another, where an edge stands for places behind all
abbrev pub starts_before_at : List CountedEdge → CountedEdge → ℕ → ℕ → Bool
starts_before_at es behind j k =
    is_anchored_before (ends_of (slice_index_or es j behind)) (ends_of (slice_index_or es k behind))

-- those of a list of edges, as counted edges
abbrev pub plain_starts : {I C : Type 0} → (I → ℤ) → (C → Counts) → List (HeldEdge I C) → List ℕ →
    List CountedEdge
plain_starts whole counts edges places = edges_at (plain_edges whole counts edges) places

-- those edges with their places
abbrev pub numbered_at : List CountedEdge → List ℕ → List (Numbered CountedEdge)
numbered_at es places = map (λ k. record { item = edge_at es k; place = k }) places

-- they are the edges of the list with their places, ordered by start
pub record AreByStart (es : List CountedEdge) (ns : List (Numbered CountedEdge)) : Type 0 where
  pub permutation : IsPermutation (numbered 0 es) ns
  pub order : AllPairs (λ m n. is_anchored_before (ends_of n.item) (ends_of m.item) ≡ false) ns

-- the edges may be swept over: a content and arrangement with balanced counts, in the order of the edges' starts
pub record IsSweepable (limit : ℕ) (fs : List CountedEdge) : Type 0 where
  pub content : IsContent limit fs
  pub subj : IsBalancedArrangement subj_of fs
  pub clip : IsBalancedArrangement clip_of fs
  pub order : AllPairs (λ e f. is_anchored_before (ends_of f) (ends_of e) ≡ false) fs

-- the windings just below an edge, and those just above it
abbrev pub windings_below : List CountedEdge → CountedEdge → Windings
windings_below fs e = record { subj = winding_below subj_of fs e; clip = winding_below clip_of fs e }

abbrev pub windings_above : List CountedEdge → CountedEdge → Windings
windings_above fs e = record { subj = winding_above subj_of fs e; clip = winding_above clip_of fs e }

-- the windings are those above the edge right before a place, if there is such an edge
abbrev pub AreAboveTheOneBefore : List CountedEdge → ℕ → Windings → Type 0
AreAboveTheOneBefore fs i v = (k : ℕ) (e : CountedEdge) → k + 1 ≡ i → slice_index_or fs k e ≡ e →
    v ≡ windings_above fs e

-- the edges as entries of a sweep, each with the windings above it
abbrev pub wound_entries : List CountedEdge → List (Entry Windings)
wound_entries fs = map (entry_of (windings_above fs)) fs
