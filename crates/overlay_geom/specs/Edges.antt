-- Counted edges, their windings, and the edges of an added contour.
use Rattle.std.specs.Prelude.{◌≡◌, ◌++◌, ℕ, Bool, false, ℤ, pos, ◌+ℤ◌, List, map, sum_by}
use Rattle.overlay_geom.specs.Counts.{Counts, are_zero, weight_of_counts}
use Rattle.overlay_geom.specs.Plane.{Point, PlanePoint, Step, Edge, midpoint, total_below, edge_of, sign_of, steps_of}
use Rattle.overlay_geom.specs.Thinned.{IsKeptOrThinned}

-- an edge with its smaller end a, and how often paths pass it from a to b, and back
pub record CountedEdge : Type 0 where
  pub a : Point
  pub b : Point
  pub counts : Counts

-- the two ends of an edge, without the counts
abbrev pub ends_of : CountedEdge → Edge
ends_of e = record { a = e.a; b = e.b }

-- the ends of each edge of the list
abbrev pub all_ends : List CountedEdge → List Edge
all_ends es = map ends_of es

-- how often the subject passes the edge
abbrev pub subj_of : CountedEdge → ℤ
subj_of e = e.counts.subj

-- how often the clip passes the edge
abbrev pub clip_of : CountedEdge → ℤ
clip_of e = e.counts.clip

-- a string passes the edge from a to b
abbrev pub goes_along : CountedEdge → Bool
goes_along e = e.counts.along

-- a string passes the edge from b to a
abbrev pub goes_against : CountedEdge → Bool
goes_against e = e.counts.against

-- no path passes the edge
abbrev pub counts_nothing : CountedEdge → Bool
counts_nothing e = are_zero e.counts

-- ---- added edges

-- the edge of a subject's step
abbrev pub subject_edge : Step → CountedEdge
subject_edge s = record {
  a = (edge_of s).a;
  b = (edge_of s).b;
  counts = record { subj = sign_of s; clip = pos 0; along = false; against = false };
}

-- the edge of a clip's step
abbrev pub clip_edge : Step → CountedEdge
clip_edge s = record {
  a = (edge_of s).a;
  b = (edge_of s).b;
  counts = record { subj = pos 0; clip = sign_of s; along = false; against = false };
}

-- the new content is the old content followed by the edges of the contour's steps, as given or thinned
pub record AddsContour (keep_points : Bool) (edge_for : Step → CountedEdge) (given : List Point)
    (old new : List CountedEdge) : Type 0 where
  pub taken : List Point
  pub thinned : IsKeptOrThinned keep_points given taken
  pub content : new ≡ old ++ map edge_for (steps_of taken)

-- the weight of a list of edges: the sum of the weights of their counts
abbrev pub weight : List CountedEdge → ℕ
weight es = sum_by (λ e. weight_of_counts e.counts) es

-- ---- windings

-- the counts of the edges strictly below p, summed
abbrev pub winding_by : (CountedEdge → ℤ) → List CountedEdge → PlanePoint → ℤ
winding_by count es p = total_below ends_of count es p

-- the winding below an edge, taken at its midpoint
abbrev pub winding_below : (CountedEdge → ℤ) → List CountedEdge → CountedEdge → ℤ
winding_below count es e = winding_by count es (midpoint (ends_of e))

-- the winding above an edge: the winding below it plus its own count
abbrev pub winding_above : (CountedEdge → ℤ) → List CountedEdge → CountedEdge → ℤ
winding_above count es e = winding_below count es e +ℤ count e
