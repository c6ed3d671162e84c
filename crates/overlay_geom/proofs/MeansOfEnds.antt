-- A point of an edge is a weighted mean of the edge's two ends, and the side of it is that mean of theirs.
use Rattle.std.proofs.Common.{◌≡◌, ℤ, pos, ◌+ℤ◌, ◌-ℤ◌, ◌*ℤ◌, ◌<ℤ◌, ◌≤ℤ◌, sym, ◌∙◌}
use Rattle.std.proofs.lemmas.Int.{by_lt_z}
use Rattle.overlay_geom.specs.Plane.{PlanePoint, Edge, IsOn, line_form, side, cross_at}
use Rattle.overlay_geom.proofs.Identities.{solve, ◌⊕◌, ◌⊗◌, ◌⊖◌, ◌≗◌}
use Rattle.overlay_geom.proofs.Signs.{linear}
use Rattle.overlay_geom.proofs.Cross.{crossE}
use Rattle.overlay_geom.proofs.PointOrder.{IsBefore, IsUpTo}
use Rattle.overlay_geom.proofs.AlongEdge.{over, place_of, over_le, sideE, order_of_on}

-- the weights of the two ends, and their sum over the point's denominator
pub record MeanOfEnds (f : Edge) (p : PlanePoint) : Type 0 where
  pub of_a : ℤ
  pub of_b : ℤ
  pub both : ℤ
  pub a_nonneg : pos 0 ≤ℤ of_a
  pub b_nonneg : pos 0 ≤ℤ of_b
  pub some : pos 0 <ℤ both
  pub sum : of_a +ℤ of_b ≡ both *ℤ p.d
  pub mean_x : both *ℤ p.x ≡ of_a *ℤ f.a.x +ℤ of_b *ℤ f.b.x
  pub mean_y : both *ℤ p.y ≡ of_a *ℤ f.a.y +ℤ of_b *ℤ f.b.y

-- the distances from two numbers add up
weights_sum : (a b z d : ℤ) → (b *ℤ d -ℤ z) +ℤ (z -ℤ a *ℤ d) ≡ (b -ℤ a) *ℤ d
weights_sum = solve 4 (λ a b z d. (b ⊗ d ⊖ z) ⊕ (z ⊖ a ⊗ d) ≗ (b ⊖ a) ⊗ d) tt

-- a number is the mean of two numbers by its distances from them
mean_by_itself : (a b z d : ℤ) → (b -ℤ a) *ℤ z ≡ (b *ℤ d -ℤ z) *ℤ a +ℤ (z -ℤ a *ℤ d) *ℤ b
mean_by_itself = solve 4 (λ a b z d. (b ⊖ a) ⊗ z ≗ (b ⊗ d ⊖ z) ⊗ a ⊕ (z ⊖ a ⊗ d) ⊗ b) tt

-- the other coordinate is the mean by the same weights, but for the side
mean_of_y : (ax ay bx by x y d : ℤ) →
    (bx -ℤ ax) *ℤ y ≡ (bx *ℤ d -ℤ x) *ℤ ay +ℤ (x -ℤ ax *ℤ d) *ℤ by +ℤ
    ((bx -ℤ ax) *ℤ (y -ℤ ay *ℤ d) -ℤ (by -ℤ ay) *ℤ (x -ℤ ax *ℤ d))
mean_of_y = solve 7 (λ ax ay bx by x y d. (bx ⊖ ax) ⊗ y ≗ (bx ⊗ d ⊖ x) ⊗ ay ⊕ (x ⊖ ax ⊗ d) ⊗ by ⊕ sideE ax ay bx
    by x y d) tt

-- x is a mean of the ends by the weights in y
mean_of_x : (ax ay bx by x y d : ℤ) →
    (by -ℤ ay) *ℤ x ≡ (by *ℤ d -ℤ y) *ℤ ax +ℤ (y -ℤ ay *ℤ d) *ℤ bx -ℤ
    ((bx -ℤ ax) *ℤ (y -ℤ ay *ℤ d) -ℤ (by -ℤ ay) *ℤ (x -ℤ ax *ℤ d))
mean_of_x = solve 7 (λ ax ay bx by x y d. (by ⊖ ay) ⊗ x ≗ (by ⊗ d ⊖ y) ⊗ ax ⊕ (y ⊖ ay ⊗ d) ⊗ bx ⊖ sideE ax ay bx
    by x y d) tt

-- a point of an edge that runs forward is a mean of its ends: by the distances in x, or in y where the edge is upright
pub mean_of_ends : (f : Edge) (p : PlanePoint) → IsBefore f.a f.b → IsOn f p → MeanOfEnds f p
mean_of_ends f p forward on = by_lt_z f.a.x f.b.x in_x in_y
  where
    from : IsUpTo (over f.a p.d) (place_of p)
    from = (order_of_on f p forward on).0

    to : IsUpTo (place_of p) (over f.b p.d)
    to = (order_of_on f p forward on).1

    in_x : f.a.x <ℤ f.b.x → MeanOfEnds f p
    in_x wide = record {
      of_a = f.b.x *ℤ p.d -ℤ p.x;
      of_b = p.x -ℤ f.a.x *ℤ p.d;
      both = f.b.x -ℤ f.a.x;
      a_nonneg = let le = to.x in omega linear;
      b_nonneg = let le = from.x in omega linear;
      some = omega linear;
      sum = weights_sum f.a.x f.b.x p.x p.d;
      mean_x = mean_by_itself f.a.x f.b.x p.x p.d;
      mean_y = let identity = mean_of_y f.a.x f.a.y f.b.x f.b.y p.x p.y p.d in let zero = on.on_line in omega linear;
    }

    in_y : f.b.x ≤ℤ f.a.x → MeanOfEnds f p
    in_y upright =
        let same = over_le f.b.x f.a.x p.d p.positive upright in
        let from_x = from.x in
        let to_x = to.x in
        record {
          of_a = f.b.y *ℤ p.d -ℤ p.y;
          of_b = p.y -ℤ f.a.y *ℤ p.d;
          both = f.b.y -ℤ f.a.y;
          a_nonneg = let le = to.y (omega linear) in omega linear;
          b_nonneg = let le = from.y (omega linear) in omega linear;
          some = let up = forward.y upright in omega linear;
          sum = weights_sum f.a.y f.b.y p.y p.d;
          mean_x = let identity = mean_of_x f.a.x f.a.y f.b.x f.b.y p.x p.y p.d in let zero = on.on_line in
              omega linear;
          mean_y = mean_by_itself f.a.y f.b.y p.y p.d;
        }

-- the side of such a mean is the mean of the sides of the ends
pub side_of_mean : (e f : Edge) (p : PlanePoint) (m : MeanOfEnds f p) →
    m.both *ℤ side e p ≡ m.of_a *ℤ cross_at e.a e.b f.a +ℤ m.of_b *ℤ cross_at e.a e.b f.b
side_of_mean e f p m =
    solve 8 (λ n ax ay bx by x y d. n ⊗ sideE ax ay bx by x y d ≗ sideE ax ay bx by (n ⊗ x) (n ⊗ y) (n ⊗ d)) tt m.both
    e.a.x e.a.y e.b.x e.b.y p.x p.y p.d
    ∙ (λ i. line_form e (m.mean_x i) (m.mean_y i) (size i))
    ∙ solve 10
    (λ s t ax ay bx by cx cy dx dy. sideE ax ay bx by (s ⊗ cx ⊕ t ⊗ dx) (s ⊗ cy ⊕ t ⊗ dy) (s ⊕ t) ≗ s ⊗ crossE ax ay bx
    by cx cy ⊕ t ⊗ crossE ax ay bx by dx dy)
    tt m.of_a m.of_b e.a.x e.a.y e.b.x e.b.y f.a.x f.a.y f.b.x f.b.y
  where
    size : m.both *ℤ p.d ≡ m.of_a +ℤ m.of_b
    size = sym m.sum
