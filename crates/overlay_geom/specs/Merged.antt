-- Merging: equal edges become one edge, with summed counts and joined marks. Edges without counts and marks are
-- dropped.
use Rattle.std.specs.Prelude.{◌≡◌, ◌⊎◌, true, false, List, filter, All, AllPairs, Contains}
use Rattle.std.specs.List.{list_any}
use Rattle.overlay_geom.specs.Plane.{PlanePoint, Edge, edge_eq, edge_lt, total}
use Rattle.overlay_geom.specs.Counts.{Counts}
use Rattle.overlay_geom.specs.Edges.{CountedEdge, ends_of, subj_of, clip_of, goes_along, goes_against, counts_nothing}
use Rattle.overlay_geom.specs.Edges.{winding_by}

-- the edges of the list with these ends
abbrev pub edges_between : List CountedEdge → Edge → List CountedEdge
edges_between es e = filter (λ f. edge_eq (ends_of f) e) es

-- the counts of all edges of the list together: summed counts, and each mark that an edge has
abbrev pub all_counts : List CountedEdge → Counts
all_counts es = record {
  subj = total subj_of es;
  clip = total clip_of es;
  along = list_any goes_along es;
  against = list_any goes_against es;
}

-- the single edge that replaces all edges with these ends, with the counts of all of them
abbrev pub joined_edge : List CountedEdge → Edge → CountedEdge
joined_edge es e = record { a = e.a; b = e.b; counts = all_counts (edges_between es e) }

-- the second list merges the first: equal edges become one, edges without counts are dropped, and the order is
-- ascending
pub record IsMerged (old new : List CountedEdge) : Type 0 where
  pub ascending : AllPairs (λ e f. edge_lt (ends_of e) (ends_of f) ≡ true) new
  pub joined : All (λ e. (e ≡ joined_edge old (ends_of e)) × (counts_nothing e ≡ false)) new
  pub complete : All (λ e. (counts_nothing (joined_edge old (ends_of e)) ≡ true) ⊎ Contains new
      (joined_edge old (ends_of e))) old

-- the two lists have equal windings at every point of the plane
pub record HaveSameWindings (old new : List CountedEdge) : Type 0 where
  pub subj : (p : PlanePoint) → winding_by subj_of new p ≡ winding_by subj_of old p
  pub clip : (p : PlanePoint) → winding_by clip_of new p ≡ winding_by clip_of old p
