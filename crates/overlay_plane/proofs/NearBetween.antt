-- The whole point of a point of an edge is near another edge, if both ends of the edge are near that edge.
use Rattle.std.proofs.Common.{◌≡◌, ℕ, ◌+◌, ℤ, pos, ◌+ℤ◌, ◌*ℤ◌, ◌<ℤ◌, ◌≤ℤ◌, sym, ap, ◌∙◌, subst}
use Rattle.overlay_geom.specs.Plane.{Point, PlanePoint, Edge, IsAt, IsOn, in_plane}
use Rattle.overlay_geom.specs.Rounding.{IsWithinHalf}
use Rattle.overlay_geom.proofs.Identities.{solve, number, ◌⊕◌, ◌⊗◌, ◌≗◌}
use Rattle.overlay_geom.proofs.Signs.{linear, mul-pos, mul-nonneg}
use Rattle.overlay_geom.proofs.MeansOfEnds.{MeanOfEnds}
use Rattle.overlay_plane.specs.ChainLinks.{IsWithinHalves, IsNear}
use Rattle.overlay_plane.proofs.Mixtures.{IsInReach, reach_mixed, reach_further, mixture, mixture_on}

-- a whole point is at most m halves away from a point of the plane, in x and in y
pub record IsCloseTo (m : ℕ) (w : Point) (p : PlanePoint) : Type 0 where
  pub in_x : IsWithinHalves m w.x p.x p.d
  pub in_y : IsWithinHalves m w.y p.y p.d

-- no half away from where it is
at_within : (v z d : ℤ) → z ≡ v *ℤ d → IsWithinHalves 0 v z d
at_within v z d at =
    let twice = solve 2 (λ v d. number (pos 2) ⊗ v ⊗ d ≗ number (pos 2) ⊗ (v ⊗ d)) tt v d
    ∙ ap (λ u. pos 2 *ℤ u) (sym at) in
    let none = solve 1 (λ d. number (pos 0) ⊗ d ≗ number (pos 0)) tt d in
    (omega linear, omega linear)

-- the whole point at a point of the plane is close to it
pub close_from_at : (w : Point) (p : PlanePoint) → IsAt w p → IsCloseTo 0 w p
close_from_at w p at = record { in_x = at_within w.x p.x p.d at.0; in_y = at_within w.y p.y p.d at.1 }

-- within one half in the other form
half_within : (v z d : ℤ) → IsWithinHalf v z d → IsWithinHalves 1 v z d
half_within v z d h =
    let once = solve 1 (λ d. number (pos 1) ⊗ d ≗ d) tt d in
    let low = h.0 in
    let high = h.1 in
    (omega linear, omega linear)

-- the rounded point is close to it
pub close_from_half : (w : Point) (p : PlanePoint) → IsWithinHalf w.x p.x p.d → IsWithinHalf w.y p.y p.d →
    IsCloseTo 1 w p
close_from_half w p x y = record { in_x = half_within w.x p.x p.d x; in_y = half_within w.y p.y p.d y }

-- a number within k halves is within more halves
wider_within : (m k : ℕ) (v z d : ℤ) → pos 0 <ℤ d → IsWithinHalves k v z d → IsWithinHalves (m + k) v z d
wider_within m k v z d positive h =
    let more = mul-nonneg (pos m) d (omega linear) (omega linear) in
    let both = solve 3 (λ m k d. (m ⊕ k) ⊗ d ≗ m ⊗ d ⊕ k ⊗ d) tt (pos m) (pos k) d in
    let low = h.0 in
    let high = h.1 in
    (omega linear, omega linear)

-- a near point is also less near
pub nearer : (m k : ℕ) (e : Edge) (v : Point) → IsNear k e v → IsNear (m + k) e v
nearer m k e v near = record {
  p = near.p;
  on = near.on;
  near_x = wider_within m k v.x near.p.x near.p.d near.p.positive near.near_x;
  near_y = wider_within m k v.y near.p.y near.p.d near.p.positive near.near_y;
}

-- the denominator of a mixture by weights of a mean
mixed_size : (a b n d da db : ℤ) → a +ℤ b ≡ n *ℤ d → (a *ℤ db) *ℤ da +ℤ (b *ℤ da) *ℤ db ≡ (n *ℤ (da *ℤ db)) *ℤ d
mixed_size a b n d da db sum =
    solve 4 (λ a b da db. (a ⊗ db) ⊗ da ⊕ (b ⊗ da) ⊗ db ≗ (a ⊕ b) ⊗ (da ⊗ db)) tt a b da db
    ∙ ap (λ z. z *ℤ (da *ℤ db)) sum
    ∙ solve 4 (λ n d da db. (n ⊗ d) ⊗ (da ⊗ db) ≗ (n ⊗ (da ⊗ db)) ⊗ d) tt n d da db

-- the point mixed by them is the mean
mixed_mean : (a b n da db u v x : ℤ) → n *ℤ x ≡ a *ℤ u +ℤ b *ℤ v →
    (n *ℤ (da *ℤ db)) *ℤ (pos 2 *ℤ x) ≡ (a *ℤ db) *ℤ (pos 2 *ℤ u *ℤ da) +ℤ (b *ℤ da) *ℤ (pos 2 *ℤ v *ℤ db)
mixed_mean a b n da db u v x mean =
    solve 4 (λ n da db x. (n ⊗ (da ⊗ db)) ⊗ (number (pos 2) ⊗ x) ≗ (number (pos 2) ⊗ (da ⊗ db)) ⊗ (n ⊗ x)) tt n da db x
    ∙ ap (λ z. (pos 2 *ℤ (da *ℤ db)) *ℤ z) mean
    ∙ solve 6
    (λ a b da db u v. (number (pos 2) ⊗ (da ⊗ db)) ⊗ (a ⊗ u ⊕ b ⊗ v) ≗ (a ⊗ db) ⊗ (number (pos 2) ⊗ u ⊗ da) ⊕ (b ⊗ da) ⊗
    (number (pos 2) ⊗ v ⊗ db))
    tt a b da db u v

-- a coordinate of the whole point is as near to the mixture as those of the ends, plus the rounding
within_mixture : (k m : ℕ) (a b n da db u v xa xb x d w : ℤ) → pos 0 ≤ℤ (a *ℤ db) → pos 0 ≤ℤ (b *ℤ da) →
    pos 0 ≤ℤ (n *ℤ (da *ℤ db)) →
    a +ℤ b ≡ n *ℤ d → n *ℤ x ≡ a *ℤ u +ℤ b *ℤ v → IsWithinHalves k u xa da → IsWithinHalves k v xb db →
    IsWithinHalves m w x d →
    IsWithinHalves (m + k) w ((a *ℤ db) *ℤ xa +ℤ (b *ℤ da) *ℤ xb) ((a *ℤ db) *ℤ da +ℤ (b *ℤ da) *ℤ db)
within_mixture k m a b n da db u v xa xb x d w s_nonneg t_nonneg g_nonneg sum mean at_a at_b close =
    reach_further k m (n *ℤ (da *ℤ db)) w x d ((a *ℤ db) *ℤ xa +ℤ (b *ℤ da) *ℤ xb) ((a *ℤ db) *ℤ da +ℤ (b *ℤ da) *ℤ db)
    g_nonneg (mixed_size a b n d da db sum)
    (subst (λ y. IsInReach k y ((a *ℤ db) *ℤ xa +ℤ (b *ℤ da) *ℤ xb) ((a *ℤ db) *ℤ da +ℤ (b *ℤ da) *ℤ db))
    (sym (mixed_mean a b n da db u v x mean))
    (reach_mixed k (a *ℤ db) (b *ℤ da) (pos 2 *ℤ u *ℤ da) xa da (pos 2 *ℤ v *ℤ db) xb db s_nonneg t_nonneg at_a at_b))
    close

-- the whole point is near
pub near_between : (e f : Edge) (p : PlanePoint) (k m : ℕ) (w : Point) → MeanOfEnds f p → IsNear k e f.a →
    IsNear k e f.b → IsCloseTo m w p → IsNear (m + k) e w
near_between e f p k m w mean near_a near_b close = record {
  p = mixture s t near_a.p near_b.p some;
  on = mixture_on e s t near_a.p near_b.p some s_nonneg t_nonneg near_a.on near_b.on;
  near_x = within_mixture k m mean.of_a mean.of_b mean.both near_a.p.d near_b.p.d f.a.x f.b.x near_a.p.x
      near_b.p.x p.x p.d w.x
      s_nonneg t_nonneg g_nonneg mean.sum mean.mean_x near_a.near_x near_b.near_x close.in_x;
  near_y = within_mixture k m mean.of_a mean.of_b mean.both near_a.p.d near_b.p.d f.a.y f.b.y near_a.p.y
      near_b.p.y p.y p.d w.y
      s_nonneg t_nonneg g_nonneg mean.sum mean.mean_y near_a.near_y near_b.near_y close.in_y;
}
  where
    s : ℤ
    s = mean.of_a *ℤ near_b.p.d

    t : ℤ
    t = mean.of_b *ℤ near_a.p.d

    s_nonneg : pos 0 ≤ℤ (mean.of_a *ℤ near_b.p.d)
    s_nonneg = mul-nonneg mean.of_a near_b.p.d mean.a_nonneg (let positive = near_b.p.positive in omega linear)

    t_nonneg : pos 0 ≤ℤ (mean.of_b *ℤ near_a.p.d)
    t_nonneg = mul-nonneg mean.of_b near_a.p.d mean.b_nonneg (let positive = near_a.p.positive in omega linear)

    g_pos : pos 0 <ℤ (mean.both *ℤ (near_a.p.d *ℤ near_b.p.d))
    g_pos = mul-pos mean.both (near_a.p.d *ℤ near_b.p.d) mean.some
        (mul-pos near_a.p.d near_b.p.d near_a.p.positive near_b.p.positive)

    g_nonneg : pos 0 ≤ℤ (mean.both *ℤ (near_a.p.d *ℤ near_b.p.d))
    g_nonneg = let positive = g_pos in omega linear

    some : pos 0 <ℤ ((mean.of_a *ℤ near_b.p.d) *ℤ near_a.p.d +ℤ (mean.of_b *ℤ near_a.p.d) *ℤ near_b.p.d)
    some =
        let size = mixed_size mean.of_a mean.of_b mean.both p.d near_a.p.d near_b.p.d mean.sum in
        let positive = mul-pos (mean.both *ℤ (near_a.p.d *ℤ near_b.p.d)) p.d g_pos p.positive in
        omega linear

-- an end of an edge is near it
pub near_at : (e : Edge) (v : Point) → IsOn e (in_plane v) → IsNear 0 e v
near_at e v on = record {
  p = in_plane v;
  on = on;
  near_x = at_within v.x v.x (pos 1) (times_one v.x);
  near_y =
      at_within v.y v.y (pos 1) (times_one v.y);
}
  where
    times_one : (z : ℤ) → z ≡ z *ℤ pos 1
    times_one = solve 1 (λ z. z ≗ z ⊗ number (pos 1)) tt
