-- The hot points of a list of edges in their order, and a search for those whose pixels an edge meets.
use Rattle.std.specs.Prelude.{◌≡◌, ◌⊎◌, ℕ, ◌<◌, ◌≤◌, Bool, true, ℤ, ◌<ℤ◌, List, [], length}
use Rattle.std.specs.Prelude.{AllPairs, Contains, not, ◌&&◌, ◌||◌}
use Rattle.overlay_geom.specs.Plane.{Point, point_eq, point_lt}
use Rattle.overlay_geom.specs.Edges.{CountedEdge, ends_of}
use Rattle.overlay_plane.specs.SnapPoints.{hot_points, meets_pixel}
use Rattle.overlay_pairs.specs.Places.{IsAt}
use Rattle.overlay_pairs.specs.PointStrips.{AreStripsOf}
use Rattle.overlay_arrange.specs.Cut.{IsEndOf}

-- the two lists have equal members
pub record HaveSameMembers {X : Type 0} (xs ys : List X) : Type 0 where
  pub forth : (x : X) → Contains xs x → Contains ys x
  pub back : (x : X) → Contains ys x → Contains xs x

-- each point of the list is smaller than all later points: by x, then by y
abbrev pub ArePointsAscending : List Point → Type 0
ArePointsAscending vs = AllPairs (λ v w. point_lt v w ≡ true) vs

-- the points are the hot points of the edges, each once
pub record AreHotPoints (es : List CountedEdge) (vs : List Point) : Type 0 where
  pub members : HaveSameMembers (hot_points es) vs
  pub ascending : ArePointsAscending vs

-- ---- searching

-- the first k points lie left of x
pub record AreLeftBefore (vs : List Point) (x : ℤ) (k : ℕ) : Type 0 where
  pub within : k ≤ length vs
  pub left : (j : ℕ) (v : Point) → j < k → IsAt vs j v → v.x <ℤ x

-- the points from rank k on lie right of x
abbrev pub AreRightFrom : List Point → ℤ → ℕ → Type 0
AreRightFrom vs x k = (j : ℕ) (v : Point) → k ≤ j → IsAt vs j v → x <ℤ v.x

-- they are the points in strips, or there are none yet
abbrev pub AreStripsIfAny : List Point → ℕ → List Point → Type 0
AreStripsIfAny vs width ps = (ps ≡ []) ⊎ AreStripsOf vs width ps

-- points of vs alone, and each of them whose pixel the edge e meets
pub record AreMetAmong (vs : List Point) (e : CountedEdge) (us : List Point) : Type 0 where
  pub within : (v : Point) → Contains us v → Contains vs v
  pub all : (v : Point) → Contains vs v → meets_pixel (ends_of e) v ≡ true → Contains us v

-- ---- leading

-- e meets the pixel of v, which is no end of e
abbrev pub meets_inside : CountedEdge → Point → Bool
meets_inside e v = meets_pixel (ends_of e) v && not (point_eq v e.a || point_eq v e.b)

-- us are points of vs alone whose pixels the edge e meets: all of them, but perhaps its own ends
pub record AreMetInside (e : CountedEdge) (vs us : List Point) : Type 0 where
  pub within : (v : Point) → Contains us v → Contains vs v × (meets_pixel (ends_of e) v ≡ true)
  pub all : (v : Point) → Contains vs v → meets_pixel (ends_of e) v ≡ true → IsEndOf e v ⊎ Contains us v
