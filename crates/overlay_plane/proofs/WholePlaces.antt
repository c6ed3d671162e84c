-- Whole points as points of the plane: unique, in the same order, and rounded to themselves.
use Rattle.std.proofs.Common.{◌≡◌, inl, inr, ℤ, pos, ◌+ℤ◌, ◌*ℤ◌, ◌<ℤ◌, ap, ◌∙◌}
use lib.IntN.{*ℤ_comm}
use Rattle.overlay_geom.specs.Plane.{Point, PlanePoint, IsAt, SamePlace}
use Rattle.overlay_geom.specs.Rounding.{IsWithinHalf, IsRounding}
use Rattle.overlay_geom.proofs.Identities.{solve, number, ◌⊕◌, ◌⊗◌, ◌≗◌}
use Rattle.overlay_geom.proofs.Orders.{same_point}
use Rattle.overlay_geom.proofs.PointOrder.{IsBefore}
use Rattle.overlay_geom.proofs.Signs.{linear, mul-pos, eq_of_mul-eq, lt_of_mul-lt}
use Rattle.overlay_plane.specs.Rounds.{IsSmaller}

-- ---- one place

-- a whole point is at all points of one place
pub at_moved : (v : Point) (p q : PlanePoint) → SamePlace p q → IsAt v p → IsAt v q
at_moved v p q (same_x, same_y) (at_x, at_y) = (moved v.x p.x q.x at_x same_x, moved v.y p.y q.y at_y same_y)
  where
    moved : (a x y : ℤ) → x ≡ a *ℤ p.d → x *ℤ q.d ≡ y *ℤ p.d → y ≡ a *ℤ q.d
    moved a x y at same =
        let turned = *ℤ_comm y p.d in
        let scaled = ap (λ z. z *ℤ q.d) at in
        let identity = solve 3 (λ a c d. a ⊗ c ⊗ d ≗ c ⊗ (a ⊗ d)) tt a p.d q.d in
        eq_of_mul-eq p.d y (a *ℤ q.d) p.positive (omega linear)

-- ---- in order, and rounded

-- of two points of the plane at whole points, the smaller is at the smaller point
pub before_of_smaller : (v w : Point) (p q : PlanePoint) → IsAt v p → IsAt w q → IsSmaller p q → IsBefore v w
before_of_smaller v w p q (v_x, v_y) (w_x, w_y) = by
  where
    both : ℤ
    both = p.d *ℤ q.d

    left : (a x : ℤ) → x ≡ a *ℤ p.d → x *ℤ q.d ≡ both *ℤ a
    left a x at = ap (λ z. z *ℤ q.d) at ∙ solve 3 (λ a c d. a ⊗ c ⊗ d ≗ c ⊗ d ⊗ a) tt a p.d q.d

    right : (b y : ℤ) → y ≡ b *ℤ q.d → y *ℤ p.d ≡ both *ℤ b
    right b y at = ap (λ z. z *ℤ p.d) at ∙ solve 3 (λ a c d. a ⊗ d ⊗ c ≗ c ⊗ d ⊗ a) tt b p.d q.d

    less : (a b x y : ℤ) → x ≡ a *ℤ p.d → y ≡ b *ℤ q.d → (x *ℤ q.d) <ℤ (y *ℤ p.d) → a <ℤ b
    less a b x y at_a at_b lt =
        let l = left a x at_a in
        let r = right b y at_b in
        lt_of_mul-lt both a b (mul-pos p.d q.d p.positive q.positive) (omega linear)

    same : (a b x y : ℤ) → x ≡ a *ℤ p.d → y ≡ b *ℤ q.d → x *ℤ q.d ≡ y *ℤ p.d → a ≡ b
    same a b x y at_a at_b e =
        let l = left a x at_a in
        let r = right b y at_b in
        eq_of_mul-eq both a b (mul-pos p.d q.d p.positive q.positive) (omega linear)

    by : IsSmaller p q → IsBefore v w
    by (inl lt) = let h = less v.x w.x p.x q.x v_x w_x lt in record { x = omega linear; y = λ le. omega linear }
    by (inr (level, lt)) =
        let e = same v.x w.x p.x q.x v_x w_x level in
        let h = less v.y w.y p.y q.y v_y w_y lt in
        record { x = omega linear; y = λ le. h }

-- a coordinate within 1/2 of a whole one is that one
near_whole : (w v z d : ℤ) → pos 0 <ℤ d → z ≡ v *ℤ d → IsWithinHalf w z d → w ≡ v
near_whole w v z d positive at (low, high) =
    let twice_w = solve 2 (λ w d. number (pos 2) ⊗ w ⊗ d ≗ d ⊗ w ⊕ d ⊗ w) tt w d in
    let once_v = *ℤ_comm v d in
    let twice_z = solve 1 (λ z. number (pos 2) ⊗ z ≗ z ⊕ z) tt z in
    let next_v = solve 2 (λ v d. d ⊗ (v ⊕ number (pos 1)) ≗ d ⊗ v ⊕ d) tt v d in
    let next_w = solve 2 (λ v d. d ⊗ (v ⊕ number (pos 1)) ≗ d ⊗ v ⊕ d) tt w d in
    let less = lt_of_mul-lt d w (v +ℤ pos 1) positive (omega linear) in
    let more = lt_of_mul-lt d v (w +ℤ pos 1) positive (omega linear) in
    omega linear

-- a rounding takes a whole point to itself
pub rounded_whole : (whole_at : PlanePoint → Point) (v : Point) (p : PlanePoint) → IsRounding whole_at → IsAt v p →
    whole_at p ≡ v
rounded_whole whole_at v p rounding (at_x, at_y) =
    same_point (whole_at p) v (near_whole (whole_at p).x v.x p.x p.d p.positive at_x (rounding.near_x p))
    (near_whole (whole_at p).y v.y p.y p.d p.positive at_y (rounding.near_y p))
