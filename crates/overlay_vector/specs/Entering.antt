-- How many of the counted steps enter a point, less how many leave it.
use Rattle.std.specs.Prelude.{◌≡◌, cond, ℤ, pos, ◌-ℤ◌, List}
use Rattle.overlay_geom.specs.Edges.{CountedEdge, subj_of, clip_of}
use Rattle.overlay_geom.specs.Plane.{Point, point_eq, total}

-- along one edge: its count where it ends at the point, less its count where it begins there
abbrev pub entering_along : (CountedEdge → ℤ) → Point → CountedEdge → ℤ
entering_along count p e = cond (point_eq e.b p) (count e) (pos 0) -ℤ cond (point_eq e.a p) (count e) (pos 0)

-- along all edges
abbrev pub entering : (CountedEdge → ℤ) → List CountedEdge → Point → ℤ
entering count es p = total (entering_along count p) es

-- as many steps enter the point as leave it, of the subject and of the clip
pub record IsBalancedAt (es : List CountedEdge) (p : Point) : Type 0 where
  pub subj : entering subj_of es p ≡ pos 0
  pub clip : entering clip_of es p ≡ pos 0
