-- Whole points, plane points with rational coordinates, steps between whole points and their edges, and windings as
-- sums along a downward ray.
use Rattle.std.specs.Prelude.{◌≡◌, ◌⊎◌, Bool, cond, ◌&&◌, ◌||◌, ℤ, pos, negsuc, ◌+ℤ◌, ◌-ℤ◌, ◌*ℤ◌, ◌<ℤ◌, ◌≤ℤ◌, int_lt}
use Rattle.std.specs.Prelude.{int_le}
use Rattle.std.specs.Prelude.{List, [], ◌∷◌, ◌++◌, map, reverse, All}
use Rattle.std.specs.Ordering.{int_eq}

-- a point with whole coordinates
pub record Point : Type 0 where
  pub x : ℤ
  pub y : ℤ

-- the point (x / d, y / d) of the plane
pub record PlanePoint : Type 0 where
  pub x : ℤ
  pub y : ℤ
  pub d : ℤ
  pub positive : pos 0 <ℤ d

-- the straight way from one whole point to another
pub record Step : Type 0 where
  pub from : Point
  pub to : Point

-- the segment between two whole points, with the smaller end a
pub record Edge : Type 0 where
  pub a : Point
  pub b : Point

-- a whole point as a point of the plane
abbrev pub in_plane : Point → PlanePoint
in_plane p = record { x = p.x; y = p.y; d = pos 1; positive = record { lt = tt } }

-- the two points are equal
abbrev pub point_eq : Point → Point → Bool
point_eq p q = int_eq p.x q.x && int_eq p.y q.y

-- p is smaller than q: by x, then by y
abbrev pub point_lt : Point → Point → Bool
point_lt p q = int_lt p.x q.x || (int_eq p.x q.x && int_lt p.y q.y)

-- the two edges have equal ends
abbrev pub edge_eq : Edge → Edge → Bool
edge_eq e f = point_eq e.a f.a && point_eq e.b f.b

-- the two steps have equal starts and equal ends
abbrev pub step_eq : Step → Step → Bool
step_eq s t = point_eq s.from t.from && point_eq s.to t.to

-- e comes before f in the order of edges: by smaller ends, then by larger ends
abbrev pub edge_lt : Edge → Edge → Bool
edge_lt e f = point_lt e.a f.a || (point_eq e.a f.a && point_lt e.b f.b)

-- the step goes from the smaller to the larger point
abbrev pub is_forward : Step → Bool
is_forward s = point_lt s.from s.to

-- the edge on which the step walks
abbrev pub edge_of : Step → Edge
edge_of s = cond (is_forward s) (record { a = s.from; b = s.to }) (record { a = s.to; b = s.from })

-- 1 for a step from the smaller to the larger point, and -1 for a step back
abbrev pub sign_of : Step → ℤ
sign_of s = cond (is_forward s) (pos 1) (negsuc 0)

-- the step back
abbrev pub reversed_step : Step → Step
reversed_step s = record { from = s.to; to = s.from }

-- the cross product of the vectors from v to p and from v to q: positive where q lies to the left of the ray from v
-- through p
abbrev pub cross_at : Point → Point → Point → ℤ
cross_at v p q = (p.x -ℤ v.x) *ℤ (q.y -ℤ v.y) -ℤ (p.y -ℤ v.y) *ℤ (q.x -ℤ v.x)

-- the side of the point (x / d, y / d), as a form in x, y and d
abbrev pub line_form : Edge → ℤ → ℤ → ℤ → ℤ
line_form e x y d = (e.b.x -ℤ e.a.x) *ℤ (y -ℤ e.a.y *ℤ d) -ℤ (e.b.y -ℤ e.a.y) *ℤ (x -ℤ e.a.x *ℤ d)

-- positive where p lies to the left of the line from a to b, negative to the right, 0 on the line
abbrev pub side : Edge → PlanePoint → ℤ
side e p = line_form e p.x p.y p.d

-- the edge is strictly below p: p.x is in the edge's span without its right end, and p lies strictly to the left of the
-- line from a to b
abbrev pub is_strictly_below : Edge → PlanePoint → Bool
is_strictly_below e p = int_le (e.a.x *ℤ p.d) p.x && int_lt p.x (e.b.x *ℤ p.d) && int_lt (pos 0) (side e p)

-- the two are the same point of the plane
abbrev pub SamePlace : PlanePoint → PlanePoint → Type 0
SamePlace p q = (p.x *ℤ q.d ≡ q.x *ℤ p.d) × (p.y *ℤ q.d ≡ q.y *ℤ p.d)

-- the plane point is equal to this whole point
abbrev pub IsAt : Point → PlanePoint → Type 0
IsAt v p = (p.x ≡ v.x *ℤ p.d) × (p.y ≡ v.y *ℤ p.d)

-- the plane point is an end of the edge
abbrev pub IsEnd : Edge → PlanePoint → Type 0
IsEnd e p = IsAt e.a p ⊎ IsAt e.b p

-- z lies between u and v, or is equal to one of them
abbrev pub IsBetween : ℤ → ℤ → ℤ → Type 0
IsBetween z u v = ((u ≤ℤ z) × (z ≤ℤ v)) ⊎ ((v ≤ℤ z) × (z ≤ℤ u))

-- p lies on the closed segment
pub record IsOn (e : Edge) (p : PlanePoint) : Type 0 where
  pub on_line : side e p ≡ pos 0
  pub in_x : IsBetween p.x (e.a.x *ℤ p.d) (e.b.x *ℤ p.d)
  pub in_y : IsBetween p.y (e.a.y *ℤ p.d) (e.b.y *ℤ p.d)

-- p lies on none of the edges
abbrev pub IsOff : List Edge → PlanePoint → Type 0
IsOff es p = All (λ e. ¬ (IsOn e p)) es

-- the edge's midpoint
abbrev pub midpoint : Edge → PlanePoint
midpoint e = record { x = e.a.x +ℤ e.b.x; y = e.a.y +ℤ e.b.y; d = pos 2; positive = record { lt = tt } }

-- ---- steps

-- the step between two points, or none if they are equal
abbrev pub steps_between : Point → Point → List Step
steps_between p q = cond (point_eq p q) [] (record { from = p; to = q } ∷ [])

-- the steps from p through the points in order
abbrev pub steps_through : Point → List Point → List Step
steps_through p [] = []
steps_through p (q ∷ qs) = steps_between p q ++ steps_through q qs

-- the steps of an open path
abbrev pub path_steps : List Point → List Step
path_steps [] = []
path_steps (p ∷ ps) = steps_through p ps

-- the steps of a contour: from each point to the next, and from the last to the first
abbrev pub steps_of : List Point → List Step
steps_of [] = []
steps_of (p ∷ ps) = steps_through p (ps ++ p ∷ [])

-- a walk in the opposite direction
abbrev pub backward : List Step → List Step
backward ss = reverse (map reversed_step ss)

-- the points at which the steps begin
abbrev pub points_of : List Step → List Point
points_of ss = map (λ s. s.from) ss

-- ---- windings

-- the sum of the numbers that f gives
abbrev pub total : {X : Type 0} → (X → ℤ) → List X → ℤ
total f [] = pos 0
total f (x ∷ xs) = f x +ℤ total f xs

-- the counts of the entries whose edges are strictly below p, summed
abbrev pub total_below : {X : Type 0} → (X → Edge) → (X → ℤ) → List X → PlanePoint → ℤ
total_below ends count xs p = total (λ x. cond (is_strictly_below (ends x) p) (count x) (pos 0)) xs

-- how often the steps wind round p: the signs of the steps whose edges are strictly below p, summed
abbrev pub winding : List Step → PlanePoint → ℤ
winding ss p = total_below edge_of sign_of ss p
