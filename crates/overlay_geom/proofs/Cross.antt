-- The cross product of the vectors from a point to two others. The two may be exchanged, equal, or equal to the point.
-- Six products of four points, seen from a fifth, have a relation.
use Rattle.std.proofs.Common.{◌≡◌, pos, ◌+ℤ◌, ◌*ℤ◌, neg_ℤ}
use Rattle.overlay_geom.specs.Plane.{Point, cross_at}
use Rattle.overlay_geom.proofs.Identities.{solve, Expr, number, ◌⊕◌, ◌⊗◌, ◌⊖◌, ⊝◌, ◌≗◌}

-- cross_at as it is written
abbrev pub crossE : (vx vy px py qx qy : Expr) → Expr
crossE vx vy px py qx qy = (px ⊖ vx) ⊗ (qy ⊖ vy) ⊖ (py ⊖ vy) ⊗ (qx ⊖ vx)

-- exchanging the two points changes the sign
pub cross_at_exchanged : (v p q : Point) → cross_at v p q ≡ neg_ℤ (cross_at v q p)
cross_at_exchanged v p q = solve 6 (λ vx vy px py qx qy. crossE vx vy px py qx qy ≗ ⊝ crossE vx vy qx qy px py) tt v.x
    v.y p.x p.y q.x q.y

-- of a point with itself it is 0
pub cross_at_same : (v p : Point) → cross_at v p p ≡ pos 0
cross_at_same v p = solve 4 (λ vx vy px py. crossE vx vy px py px py ≗ number (pos 0)) tt v.x v.y p.x p.y

-- the cross product is 0 if the second point is the point itself
pub cross_at_first : (v p : Point) → cross_at v p v ≡ pos 0
cross_at_first v p = solve 4 (λ vx vy px py. crossE vx vy px py vx vy ≗ number (pos 0)) tt v.x v.y p.x p.y

-- the products of four points, in pairs: the Plücker relation
pub cross_at_of_four : (v a b c d : Point) → cross_at v a b *ℤ cross_at v c d +ℤ cross_at v a d *ℤ cross_at v b
    c ≡ cross_at v a c *ℤ cross_at v b d
cross_at_of_four v a b c d = solve 10 (λ vx vy ax ay bx by cx cy dx dy. crossE vx vy ax ay bx by ⊗ crossE vx vy cx cy dx
    dy ⊕ crossE vx vy ax ay dx dy ⊗ crossE vx vy bx by cx cy ≗ crossE vx vy ax ay cx cy ⊗ crossE vx vy bx by dx dy) tt
    v.x v.y a.x a.y b.x b.y c.x c.y d.x d.y
