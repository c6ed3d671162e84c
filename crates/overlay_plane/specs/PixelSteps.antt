-- Two straight pieces between points of the plane, and the steps between the whole points nearest to their ends. Where
-- the steps meet, the pieces meet, or one passes through the pixel of an end of the other step.
use Rattle.std.specs.Prelude.{◌≡◌, ◌⊎◌, ℤ, pos, ◌+ℤ◌, ◌*ℤ◌, ◌<ℤ◌, ◌≤ℤ◌}
use Rattle.overlay_geom.specs.Plane.{Point, PlanePoint, SamePlace, in_plane}
use Rattle.overlay_geom.specs.Rounding.{nearest_point}

-- weights m and n of a point between p and q
pub record Between (p q : PlanePoint) : Type 0 where
  pub m : ℤ
  pub n : ℤ
  pub m_nonneg : pos 0 ≤ℤ m
  pub n_nonneg : pos 0 ≤ℤ n
  pub some : pos 0 <ℤ (m *ℤ p.d +ℤ n *ℤ q.d)

-- the point with these weights
abbrev pub mixed : {p q : PlanePoint} → Between p q → PlanePoint
mixed {p} {q} b = record {
  x = b.m *ℤ p.x +ℤ b.n *ℤ q.x;
  y = b.m *ℤ p.y +ℤ b.n *ℤ q.y;
  d = b.m *ℤ p.d +ℤ b.n *ℤ q.d;
  positive = b.some;
}

-- the pieces from p to q and from k to l share a point
abbrev pub PiecesMeet : PlanePoint → PlanePoint → PlanePoint → PlanePoint → Type 0
PiecesMeet p q k l = (b : Between p q) × (c : Between k l) × SamePlace (mixed b) (mixed c)

-- some point of the piece from p to q is in the pixel of v
abbrev pub PassesPixel : PlanePoint → PlanePoint → Point → Type 0
PassesPixel p q v = (b : Between p q) × (nearest_point (mixed b) ≡ v)

-- the steps between the whole points nearest to the ends of the two pieces share a point
abbrev pub StepsMeet : PlanePoint → PlanePoint → PlanePoint → PlanePoint → Type 0
StepsMeet p q k l = PiecesMeet (in_plane (nearest_point p)) (in_plane (nearest_point q))
    (in_plane (nearest_point k)) (in_plane (nearest_point l))

-- where the steps of two pieces meet, the pieces meet, or one passes through the pixel of an end of the other step
abbrev pub MeetingStepsPassPixels : Type 0
MeetingStepsPassPixels = (p q k l : PlanePoint) → StepsMeet p q k l →
    PiecesMeet p q k l ⊎ ((PassesPixel p q (nearest_point k) ⊎ PassesPixel p q (nearest_point l))
    ⊎ (PassesPixel k l (nearest_point p) ⊎ PassesPixel k l (nearest_point q)))
