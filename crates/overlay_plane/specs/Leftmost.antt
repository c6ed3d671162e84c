-- The leftmost lowest point of the edges that count: the winding is 0 left of it, and above and below those edges
-- there.
use Rattle.std.specs.Prelude.{◌≡◌, ◌⊎◌, true, false, ℤ, pos, List, Contains}
use Rattle.overlay_geom.specs.Plane.{Point, point_lt, in_plane}
use Rattle.overlay_geom.specs.Edges.{CountedEdge, ends_of, winding_by, winding_below, winding_above}
use Rattle.overlay_plane.specs.Nodes.{IsBalancedArrangement, turns_left}

-- edges that start before q have count 0
abbrev pub CountsNothingBefore : (CountedEdge → ℤ) → List CountedEdge → Point → Type 0
CountsNothingBefore count es q = (e : CountedEdge) → Contains es e → point_lt e.a q ≡ true → count e ≡ pos 0

-- an end of the edge comes before q
abbrev pub HasEndBefore : Point → CountedEdge → Type 0
HasEndBefore q e = (point_lt e.a q ≡ true) ⊎ (point_lt e.b q ≡ true)

-- the edges that start in q above the edge have count 0, and so have those that start there below it
abbrev pub CountsNothingAbove : (CountedEdge → ℤ) → List CountedEdge → Point → CountedEdge → Type 0
CountsNothingAbove count es q e = (f : CountedEdge) → Contains es f → f.a ≡ q →
    turns_left (ends_of e) (ends_of f) ≡ true → count f ≡ pos 0

abbrev pub CountsNothingBelow : (CountedEdge → ℤ) → List CountedEdge → Point → CountedEdge → Type 0
CountsNothingBelow count es q e = (f : CountedEdge) → Contains es f → f.a ≡ q →
    turns_left (ends_of f) (ends_of e) ≡ true → count f ≡ pos 0

-- the winding is 0 up to q and on both sides of edges that have an end before it. It is 0 above the top edge that
-- counts at q, and below the lowest
pub record IsOutsideUpTo (count : CountedEdge → ℤ) (es : List CountedEdge) (q : Point) : Type 0 where
  pub at_points : (v : Point) → point_lt q v ≡ false → winding_by count es (in_plane v) ≡ pos 0
  pub below_earlier : (e : CountedEdge) → Contains es e → HasEndBefore q e → winding_below count es e ≡ pos 0
  pub above_earlier : (e : CountedEdge) → Contains es e → HasEndBefore q e → winding_above count es e ≡ pos 0
  pub above_top : (e : CountedEdge) → Contains es e → e.a ≡ q → CountsNothingAbove count es q e →
      winding_above count es e ≡ pos 0
  pub below_lowest : (e : CountedEdge) → Contains es e → e.a ≡ q → CountsNothingBelow count es q e →
      winding_below count es e ≡ pos 0

abbrev pub NothingBeforeTheLeftmost : Type 0
NothingBeforeTheLeftmost = (count : CountedEdge → ℤ) (es : List CountedEdge) → IsBalancedArrangement count es →
    (q : Point) →
    CountsNothingBefore count es q → IsOutsideUpTo count es q
