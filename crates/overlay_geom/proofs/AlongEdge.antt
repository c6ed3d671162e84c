-- Points of the plane in order along an edge: on the edge's line a point lies on the edge exactly where it lies between
-- the two ends, by x and then by y.
use lib.IntN.{*ℤ_comm}
use Rattle.std.proofs.Common.{◌≡◌, inl, inr, ℤ, pos, ◌-ℤ◌, ◌*ℤ◌, ◌<ℤ◌, ◌≤ℤ◌}
use Rattle.std.proofs.lemmas.Int.{by_lt_z}
use Rattle.overlay_geom.specs.Plane.{Point, PlanePoint, Edge, IsBetween, IsOn, side}
use Rattle.overlay_geom.proofs.Identities.{solve, Expr, ◌⊗◌, ◌⊖◌, ◌≗◌}
use Rattle.overlay_geom.proofs.Signs.{linear, mul-le, mul-lt, mul-nonneg, mul-nonpos, mul-zero, zero_of_mul-zero}
use Rattle.overlay_geom.proofs.Signs.{nonneg_of_mul-nonneg, nonpos_of_mul-nonpos}
use Rattle.overlay_geom.proofs.PointOrder.{IsBefore, IsUpTo}

-- a whole point, with its coordinates over the denominator d
abbrev pub over : Point → ℤ → Point
over v d = record { x = v.x *ℤ d; y = v.y *ℤ d }

-- the numerators of a plane point
abbrev pub place_of : PlanePoint → Point
place_of p = record { x = p.x; y = p.y }

-- side as it is written
abbrev pub sideE : (ax ay bx by x y d : Expr) → Expr
sideE ax ay bx by x y d = (bx ⊖ ax) ⊗ (y ⊖ ay ⊗ d) ⊖ (by ⊖ ay) ⊗ (x ⊖ ax ⊗ d)

-- the distance to b in y is that in x, by the slope, less the side
back_from_b : (ax ay bx by x y d : ℤ) →
    (bx -ℤ ax) *ℤ (by *ℤ d -ℤ y) ≡ (by -ℤ ay) *ℤ (bx *ℤ d -ℤ x) -ℤ
    ((bx -ℤ ax) *ℤ (y -ℤ ay *ℤ d) -ℤ (by -ℤ ay) *ℤ (x -ℤ ax *ℤ d))
back_from_b = solve 7 (λ ax ay bx by x y d. (bx ⊖ ax) ⊗ (by ⊗ d ⊖ y) ≗ (by ⊖ ay) ⊗ (bx ⊗ d ⊖ x) ⊖ sideE ax ay bx
    by x y d) tt

-- on the line of an edge that is not upright, a point in the edge's span in x is in its span in y
between_in_y : (ax ay bx by x y d : ℤ) → ax <ℤ bx →
    (bx -ℤ ax) *ℤ (y -ℤ ay *ℤ d) -ℤ (by -ℤ ay) *ℤ (x -ℤ ax *ℤ d) ≡ pos 0 → (ax *ℤ d) ≤ℤ x → x ≤ℤ (bx *ℤ d) →
    IsBetween y (ay *ℤ d) (by *ℤ d)
between_in_y ax ay bx by x y d wide on_line from to = by_lt_z by ay (λ falls. inr (falling falls))
    (λ rises. inl (rising rises))
  where
    back : (bx -ℤ ax) *ℤ (by *ℤ d -ℤ y) ≡ (by -ℤ ay) *ℤ (bx *ℤ d -ℤ x)
    back = let identity = back_from_b ax ay bx by x y d in omega linear

    rising : ay ≤ℤ by → ((ay *ℤ d) ≤ℤ y) × (y ≤ℤ (by *ℤ d))
    rising rises =
        let after = mul-nonneg (by -ℤ ay) (x -ℤ ax *ℤ d) (omega linear) (omega linear) in
        let before = mul-nonneg (by -ℤ ay) (bx *ℤ d -ℤ x) (omega linear) (omega linear) in
        let above = nonneg_of_mul-nonneg (bx -ℤ ax) (y -ℤ ay *ℤ d) (omega linear) (omega linear) in
        let below = nonneg_of_mul-nonneg (bx -ℤ ax) (by *ℤ d -ℤ y) (omega linear) (let e = back in omega linear) in
        (omega linear, omega linear)

    falling : by <ℤ ay → ((by *ℤ d) ≤ℤ y) × (y ≤ℤ (ay *ℤ d))
    falling falls =
        let after = mul-nonpos (x -ℤ ax *ℤ d) (by -ℤ ay) (omega linear) (omega linear) in
        let before = mul-nonpos (bx *ℤ d -ℤ x) (by -ℤ ay) (omega linear) (omega linear) in
        let turned = *ℤ_comm (by -ℤ ay) (x -ℤ ax *ℤ d) in
        let turned_back = *ℤ_comm (by -ℤ ay) (bx *ℤ d -ℤ x) in
        let below = nonpos_of_mul-nonpos (bx -ℤ ax) (y -ℤ ay *ℤ d) (omega linear) (omega linear) in
        let above = nonpos_of_mul-nonpos (bx -ℤ ax) (by *ℤ d -ℤ y) (omega linear) (let e = back in omega linear) in
        (omega linear, omega linear)

-- order is kept over a denominator
pub over_le : (u v d : ℤ) → pos 0 <ℤ d → u ≤ℤ v → (u *ℤ d) ≤ℤ (v *ℤ d)
over_le u v d positive h =
    let le = mul-le d u v (omega linear) h in
    let left = *ℤ_comm u d in
    let right = *ℤ_comm v d in
    omega linear

-- strict order too
pub over_lt : (u v d : ℤ) → pos 0 <ℤ d → u <ℤ v → (u *ℤ d) <ℤ (v *ℤ d)
over_lt u v d positive h =
    let lt = mul-lt d u v positive h in
    let left = *ℤ_comm u d in
    let right = *ℤ_comm v d in
    omega linear

-- the order of points over a denominator
pub over_up_to : (u v : Point) (d : ℤ) → pos 0 <ℤ d → IsUpTo u v → IsUpTo (over u d) (over v d)
over_up_to u v d positive h = record {
  x = over_le u.x v.x d positive h.x;
  y = λ le. by_lt_z u.x v.x (λ lt. absurd (let less = over_lt u.x v.x d positive lt in omega linear))
      (λ ge. over_le u.y v.y d positive (h.y ge));
}

-- a point of the edge's line between the ends lies on the edge
pub on_of_order : (e : Edge) (p : PlanePoint) → IsBefore e.a e.b → side e p ≡ pos 0 →
    IsUpTo (over e.a p.d) (place_of p) → IsUpTo (place_of p) (over e.b p.d) → IsOn e p
on_of_order e p forward on_line from to = record {
  on_line = on_line;
  in_x = inl (from.x, to.x);
  in_y = by_lt_z e.a.x e.b.x
      (λ wide. between_in_y e.a.x e.a.y e.b.x e.b.y p.x p.y p.d wide on_line from.x to.x)
      (λ upright. inl (
        from.y (let same = over_le e.b.x e.a.x p.d p.positive upright in let le = to.x in omega linear),
        to.y (let same = over_le e.b.x e.a.x p.d p.positive upright in let le = from.x in omega linear),
      ));
}

-- between two numbers in order
pub in_order_between : (z u v : ℤ) → u ≤ℤ v → IsBetween z u v → (u ≤ℤ z) × (z ≤ℤ v)
in_order_between z u v h (inl between) = between
in_order_between z u v h (inr (low, high)) = (omega linear, omega linear)

-- a number between two numbers is between them in either order
pub between_turned : (z u v : ℤ) → IsBetween z u v → IsBetween z v u
between_turned z u v (inl between) = inr between
between_turned z u v (inr between) = inl between

-- a point of the edge lies between its ends
pub order_of_on : (e : Edge) (p : PlanePoint) → IsBefore e.a e.b → IsOn e p →
    IsUpTo (over e.a p.d) (place_of p) × IsUpTo (place_of p) (over e.b p.d)
order_of_on e p forward on = (record { x = in_x.0; y = from_y }, record { x = in_x.1; y = to_y })
  where
    in_x : ((e.a.x *ℤ p.d) ≤ℤ p.x) × (p.x ≤ℤ (e.b.x *ℤ p.d))
    in_x = in_order_between p.x (e.a.x *ℤ p.d) (e.b.x *ℤ p.d) (over_le e.a.x e.b.x p.d p.positive forward.x) on.in_x

    in_y : e.b.x ≤ℤ e.a.x → ((e.a.y *ℤ p.d) ≤ℤ p.y) × (p.y ≤ℤ (e.b.y *ℤ p.d))
    in_y upright = in_order_between p.y (e.a.y *ℤ p.d) (e.b.y *ℤ p.d)
        (over_le e.a.y e.b.y p.d p.positive (let up = forward.y upright in omega linear)) on.in_y

    at_a : e.a.x <ℤ e.b.x → p.x ≤ℤ (e.a.x *ℤ p.d) → p.y -ℤ e.a.y *ℤ p.d ≡ pos 0
    at_a wide le =
        let none_left = mul-zero (e.b.y -ℤ e.a.y) (p.x -ℤ e.a.x *ℤ p.d) (let ge = in_x.0 in omega linear) in
        zero_of_mul-zero (e.b.x -ℤ e.a.x) (p.y -ℤ e.a.y *ℤ p.d) (omega linear) (let zero = on.on_line in omega linear)

    at_b : e.a.x <ℤ e.b.x → (e.b.x *ℤ p.d) ≤ℤ p.x → e.b.y *ℤ p.d -ℤ p.y ≡ pos 0
    at_b wide le =
        let none_left = mul-zero (e.b.y -ℤ e.a.y) (e.b.x *ℤ p.d -ℤ p.x) (let ge = in_x.1 in omega linear) in
        let back = back_from_b e.a.x e.a.y e.b.x e.b.y p.x p.y p.d in
        zero_of_mul-zero (e.b.x -ℤ e.a.x) (e.b.y *ℤ p.d -ℤ p.y) (omega linear) (let zero = on.on_line in omega linear)

    from_y : p.x ≤ℤ (e.a.x *ℤ p.d) → (e.a.y *ℤ p.d) ≤ℤ p.y
    from_y le = by_lt_z e.a.x e.b.x (λ wide. let same = at_a wide le in omega linear) (λ upright. (in_y upright).0)

    to_y : (e.b.x *ℤ p.d) ≤ℤ p.x → p.y ≤ℤ (e.b.y *ℤ p.d)
    to_y le = by_lt_z e.a.x e.b.x (λ wide. let same = at_b wide le in omega linear) (λ upright. (in_y upright).1)
