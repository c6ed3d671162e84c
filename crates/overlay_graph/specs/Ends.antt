-- The ends of edges with their counts, and the condition that they cancel out at each point.
use Rattle.std.specs.Prelude.{◌≡◌, ℕ, ◌+◌, ◌^◌, ◌<◌, false, ℤ, pos, neg_ℤ, nat_abs, ◌*ℤ◌, List, [], ◌∷◌, ◌++◌, map}
use Rattle.std.specs.Prelude.{AllPairs, sum_by}
use Rattle.std.specs.List.{flat_map}
use Rattle.overlay_geom.specs.Edges.{CountedEdge}
use Rattle.overlay_geom.specs.Plane.{Point, point_lt, total}
use Rattle.overlay_geom.specs.Points.{plain_point}
use Rattle.overlay_graph.specs.declared.counted_end.CountedEnd.{CountedEnd as HeldEnd}

-- an end of an edge, and how often the subject, and the clip, enters it along the edge, minus how often it leaves
pub record CountedEnd : Type 0 where
  pub point : Point
  pub subj : ℤ
  pub clip : ℤ

abbrev pub plain_end : {I : Type 0} → (I → ℤ) → HeldEnd I → CountedEnd
plain_end whole n = record { point = plain_point whole n.point; subj = n.subj; clip = n.clip }

abbrev pub plain_ends : {I : Type 0} → (I → ℤ) → List (HeldEnd I) → List CountedEnd
plain_ends whole ns = map (plain_end whole) ns

-- the two ends of an edge
abbrev pub counted_start : CountedEdge → CountedEnd
counted_start e = record { point = e.a; subj = neg_ℤ e.counts.subj; clip = neg_ℤ e.counts.clip }

abbrev pub counted_stop : CountedEdge → CountedEnd
counted_stop e = record { point = e.b; subj = e.counts.subj; clip = e.counts.clip }

abbrev pub counted_ends : CountedEdge → List CountedEnd
counted_ends e = counted_start e ∷ counted_stop e ∷ []

-- the ends of each edge of a list
abbrev pub all_counted_ends : List CountedEdge → List CountedEnd
all_counted_ends es = flat_map counted_ends es

-- those ends, the smaller ends first
abbrev pub starts_and_stops : List CountedEdge → List CountedEnd
starts_and_stops es = map counted_start es ++ map counted_stop es

-- the weight of an end: the sum of its absolute counts
abbrev pub end_weight : CountedEnd → ℕ
end_weight n = nat_abs n.subj + nat_abs n.clip

-- ends that may be summed: sorted by their points, and lighter than 2^33
pub record AreSummable (ns : List CountedEnd) : Type 0 where
  pub order : AllPairs (λ m n. point_lt n.point m.point ≡ false) ns
  pub light : sum_by end_weight ns < 2 ^ 33

-- for every number g given to each point, the ends' counts times that number sum to 0
pub record CancelOut (ns : List CountedEnd) : Type 0 where
  pub subj : (g : Point → ℤ) → total (λ n. n.subj *ℤ g n.point) ns ≡ pos 0
  pub clip : (g : Point → ℤ) → total (λ n. n.clip *ℤ g n.point) ns ≡ pos 0
