-- Turning at a point by either hand: the laws of turn and of the inner product, and where a ray meets a point.
use Rattle.std.proofs.Common.{◌≡◌, ℤ, pos, ◌+ℤ◌, ◌-ℤ◌, ◌*ℤ◌, neg_ℤ, ◌<ℤ◌, ◌≤ℤ◌, sym, subst}
use Rattle.overlay_geom.specs.Plane.{Point}
use Rattle.overlay_geom.proofs.Identities.{solve, Expr, ◌⊕◌, ◌⊗◌, ◌⊖◌, ⊝◌, ◌≗◌}
use Rattle.overlay_geom.proofs.Signs.{linear, by_sign, mul-pos}
use Rattle.overlay_geom.proofs.Cross.{crossE, cross_at_exchanged, cross_at_of_four}
use Rattle.overlay_plane.specs.Turn.{Hand, turn, dot_at}
use Rattle.overlay_plane.specs.Turn.Hand.{left, right}

-- dot_at as it is written
abbrev pub dotE : (vx vy px py qx qy : Expr) → Expr
dotE vx vy px py qx qy = (px ⊖ vx) ⊗ (qx ⊖ vx) ⊕ (py ⊖ vy) ⊗ (qy ⊖ vy)

-- exchanging the two points changes the sign of a turn
pub turn_exchanged : (hand : Hand) (v p q : Point) → turn hand v p q ≡ neg_ℤ (turn hand v q p)
turn_exchanged left v p q = cross_at_exchanged v q p
turn_exchanged right v p q = cross_at_exchanged v p q

-- the turns between four points, in pairs
pub turn_of_four : (hand : Hand) (v a b c d : Point) → turn hand v a b *ℤ turn hand v c d +ℤ turn hand v a d *ℤ turn
    hand v b c ≡ turn hand v a c *ℤ turn hand v b d
turn_of_four left v a b c d = solve 10 (λ vx vy ax ay bx by cx cy dx dy. crossE vx vy bx by ax ay ⊗ crossE vx vy dx dy
    cx cy ⊕ crossE vx vy dx dy ax ay ⊗ crossE vx vy cx cy bx by ≗ crossE vx vy cx cy ax ay ⊗ crossE vx vy dx dy bx by)
    tt v.x v.y a.x a.y b.x b.y c.x c.y d.x d.y
turn_of_four right v a b c d = cross_at_of_four v a b c d

-- a turn between two points, by how far each lies ahead of a third and beside it
pub turn_framed : (hand : Hand) (v u p q : Point) → dot_at v u u *ℤ turn hand v p q ≡ dot_at v u p *ℤ turn hand v u
    q -ℤ dot_at v u q *ℤ turn hand v u p
turn_framed left v u p q = solve 8 (λ vx vy ux uy px py qx qy. dotE vx vy ux uy ux uy ⊗ crossE vx vy qx qy px py ≗ dotE
    vx vy ux uy px py ⊗ crossE vx vy qx qy ux uy ⊖ dotE vx vy ux uy qx qy ⊗ crossE vx vy px py ux uy) tt v.x v.y u.x u.y
    p.x p.y q.x q.y
turn_framed right v u p q = solve 8 (λ vx vy ux uy px py qx qy. dotE vx vy ux uy ux uy ⊗ crossE vx vy px py qx qy ≗ dotE
    vx vy ux uy px py ⊗ crossE vx vy ux uy qx qy ⊖ dotE vx vy ux uy qx qy ⊗ crossE vx vy ux uy px py) tt v.x v.y u.x u.y
    p.x p.y q.x q.y

-- the inner product of two points likewise
pub dot_framed : (hand : Hand) (v u p q : Point) → dot_at v u u *ℤ dot_at v p q ≡ dot_at v u p *ℤ dot_at v u q +ℤ turn
    hand v u p *ℤ turn hand v u q
dot_framed left v u p q = solve 8 (λ vx vy ux uy px py qx qy. dotE vx vy ux uy ux uy ⊗ dotE vx vy px py qx qy ≗ dotE vx
    vy ux uy px py ⊗ dotE vx vy ux uy qx qy ⊕ crossE vx vy px py ux uy ⊗ crossE vx vy qx qy ux uy) tt v.x v.y u.x u.y
    p.x p.y q.x q.y
dot_framed right v u p q = solve 8 (λ vx vy ux uy px py qx qy. dotE vx vy ux uy ux uy ⊗ dotE vx vy px py qx qy ≗ dotE vx
    vy ux uy px py ⊗ dotE vx vy ux uy qx qy ⊕ crossE vx vy ux uy px py ⊗ crossE vx vy ux uy qx qy) tt v.x v.y u.x u.y
    p.x p.y q.x q.y

-- exchanging the two points leaves the inner product as it is
pub dot_exchanged : (v p q : Point) → dot_at v p q ≡ dot_at v q p
dot_exchanged v p q = solve 6 (λ vx vy px py qx qy. dotE vx vy px py qx qy ≗ dotE vx vy qx qy px py) tt v.x v.y
    p.x p.y q.x q.y

-- ---- a point other than v lies ahead of itself

-- a product of two negative numbers is positive
pub both_negative : (a b : ℤ) → a <ℤ pos 0 → b <ℤ pos 0 → pos 0 <ℤ (a *ℤ b)
both_negative a b p q =
    let same = solve 2 (λ a b. (⊝ a) ⊗ (⊝ b) ≗ a ⊗ b) tt a b in
    let positive = mul-pos (neg_ℤ a) (neg_ℤ b) (omega linear) (omega linear) in
    omega linear

-- the square of a number other than 0 is positive
square_pos : (a : ℤ) → ¬ (a ≡ pos 0) → pos 0 <ℤ (a *ℤ a)
square_pos a nonzero = by_sign a (λ low. both_negative a a low low) (λ zero. absurd (nonzero zero))
    (λ high. mul-pos a a high high)

-- no square is negative
pub square_nonneg : (a : ℤ) → pos 0 ≤ℤ (a *ℤ a)
square_nonneg a = by_sign a (λ low. let positive = square_pos a (λ e. omega linear) in omega linear)
    (λ zero. subst (λ z. pos 0 ≤ℤ (z *ℤ z)) (sym zero) (record { le = tt }))
    (λ high. let positive = square_pos a (λ e. omega linear) in omega linear)

-- the inner product of a way that is not none with itself is positive
pub dot_positive : (v u : Point) → ¬ (u ≡ v) → pos 0 <ℤ (dot_at v u u)
dot_positive v u apart = by_sign (u.x -ℤ v.x) (λ low. wide (λ e. omega linear)) level (λ high. wide (λ e. omega linear))
  where
    wide : ¬ (u.x -ℤ v.x ≡ pos 0) → pos 0 <ℤ (dot_at v u u)
    wide nonzero = let across = square_pos (u.x -ℤ v.x) nonzero in let up = square_nonneg (u.y -ℤ v.y) in omega linear

    level : u.x -ℤ v.x ≡ pos 0 → pos 0 <ℤ (dot_at v u u)
    level same_x =
        let across = square_nonneg (u.x -ℤ v.x) in
        let up = square_pos (u.y -ℤ v.y) (λ same_y. apart (let ex : u.x ≡ v.x = omega linear in
        let ey : u.y ≡ v.y = omega linear in λ i. record { x = ex i; y = ey i })) in
        omega linear
