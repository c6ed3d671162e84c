-- Points that are asked for, each with its place, in the order of a sweep.
use Rattle.std.specs.Prelude.{◌≡◌, ℕ, ◌<◌, ℤ, ◌≤ℤ◌, List, map, length, slice_index_or, AllPairs}
use Rattle.overlay_geom.specs.Numbered.{Numbered, AreNumbered}
use Rattle.overlay_geom.specs.Plane.{Point}
use Rattle.overlay_geom.specs.Points.{plain_point}
use Rattle.overlay_relate.specs.declared.queries.PointQuery.{PointQuery}

-- a query as its whole point, and its place among those asked for
abbrev pub plain_query : {I : Type 0} → (I → ℤ) → PointQuery I → Numbered Point
plain_query whole q = record { item = plain_point whole q.point; place = q.place }

abbrev pub plain_queries : {I : Type 0} → (I → ℤ) → List (PointQuery I) → List (Numbered Point)
plain_queries whole qs = map (plain_query whole) qs

-- they are the points by their abscissas, each with its place
pub record AreQueries (points : List Point) (qs : List (Numbered Point)) : Type 0 where
  pub numbered : AreNumbered points qs
  pub order : AllPairs (λ q r. q.item.x ≤ℤ r.item.x) qs

-- the points of the queries
abbrev pub points_asked : List (Numbered Point) → List Point
points_asked qs = map (λ q. q.item) qs

-- x stands at a place of the one list, and y at that place of the other one
pub record IsAnswered {X Y : Type 0} (xs : List X) (ys : List Y) (x : X) (y : Y) : Type 0 where
  pub place : ℕ
  pub within : place < length xs
  pub item : slice_index_or xs place x ≡ x
  pub answer : slice_index_or ys place y ≡ y
