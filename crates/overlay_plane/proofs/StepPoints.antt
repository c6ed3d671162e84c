-- The points of a step's edge are mixtures of the step's ends.
use Rattle.std.proofs.Common.{◌≡◌, Bool, true, false, ℤ, pos, ◌+ℤ◌, ◌*ℤ◌, ◌<ℤ◌, ap}
use Rattle.overlay_geom.specs.Plane.{PlanePoint, Step, IsOn, SamePlace, in_plane, edge_of, is_forward}
use Rattle.overlay_geom.proofs.Identities.{solve, number, ◌⊕◌, ◌⊗◌, ◌≗◌}
use Rattle.overlay_geom.proofs.MeansOfEnds.{MeanOfEnds, mean_of_ends}
use Rattle.overlay_geom.proofs.PointOrder.{IsBefore}
use Rattle.overlay_geom.proofs.Signs.{linear, mul-pos}
use Rattle.overlay_plane.specs.PixelSteps.{Between, mixed}
use Rattle.overlay_plane.proofs.EdgesOfSteps.{edge_by}

-- the mean of two whole numbers is a mixture of them
mean_mixed : (s t k x d u v : ℤ) → s +ℤ t ≡ k *ℤ d → k *ℤ x ≡ s *ℤ u +ℤ t *ℤ v →
    (s *ℤ u +ℤ t *ℤ v) *ℤ d ≡ x *ℤ (s *ℤ pos 1 +ℤ t *ℤ pos 1)
mean_mixed s t k x d u v sum mean =
    let left = ap (λ z. z *ℤ d) mean in
    let right = ap (λ z. x *ℤ z) sum in
    let turned = solve 3 (λ k x d. k ⊗ x ⊗ d ≗ x ⊗ (k ⊗ d)) tt k x d in
    let over_one = solve 3 (λ s t x. x ⊗ (s ⊗ number (pos 1) ⊕ t ⊗ number (pos 1)) ≗ x ⊗ (s ⊕ t)) tt s t x in
    omega linear

-- the weights of a mean are not both 0
some_weight : (s t k d : ℤ) → s +ℤ t ≡ k *ℤ d → pos 0 <ℤ k → pos 0 <ℤ d → pos 0 <ℤ (s *ℤ pos 1 +ℤ t *ℤ pos 1)
some_weight s t k d sum some positive =
    let product = mul-pos k d some positive in
    let over_one = solve 2 (λ s t. s ⊗ number (pos 1) ⊕ t ⊗ number (pos 1) ≗ s ⊕ t) tt s t in
    omega linear

-- x is on the way from p to q, as a mixture of them
abbrev pub IsMixedOf : PlanePoint → PlanePoint → PlanePoint → Type 0
IsMixedOf p q x = (b : Between p q) × SamePlace (mixed b) x

-- a point of a step's edge is mixed of the step's ends
pub mixed_of_ends : (s : Step) (x : PlanePoint) → IsBefore (edge_of s).a (edge_of s).b → IsOn (edge_of s) x →
    IsMixedOf (in_plane s.from) (in_plane s.to) x
mixed_of_ends s x before on = by (is_forward s) (mean_of_ends (edge_of s) x before on)
  where
    by : (t : Bool) → MeanOfEnds (edge_by t s) x → IsMixedOf (in_plane s.from) (in_plane s.to) x
    by true m = (
      record {
        m = m.of_a;
        n = m.of_b;
        m_nonneg = m.a_nonneg;
        n_nonneg = m.b_nonneg;
        some = some_weight m.of_a m.of_b m.both x.d m.sum m.some x.positive;
      },
      (
        mean_mixed m.of_a m.of_b m.both x.x x.d s.from.x s.to.x m.sum m.mean_x,
        mean_mixed m.of_a m.of_b m.both x.y x.d s.from.y s.to.y m.sum m.mean_y,
      ),
    )
    by false m =
        let sum : m.of_b +ℤ m.of_a ≡ m.both *ℤ x.d = (let is = m.sum in omega linear) in (
          record {
            m = m.of_b;
            n = m.of_a;
            m_nonneg = m.b_nonneg;
            n_nonneg = m.a_nonneg;
            some = some_weight m.of_b m.of_a m.both x.d sum m.some x.positive;
          },
          (
            mean_mixed m.of_b m.of_a m.both x.x x.d s.from.x s.to.x sum (let is = m.mean_x in omega linear),
            mean_mixed m.of_b m.of_a m.both x.y x.d s.from.y s.to.y sum (let is = m.mean_y in omega linear),
          ),
        )
