-- The points of an edge are those at its parts, from 0 to 1.
use Rattle.std.proofs.Common.{◌≡◌, ℤ, ◌+ℤ◌, ◌-ℤ◌, ◌*ℤ◌, ap, sym, ◌∙◌}
use Rattle.overlay_geom.specs.Plane.{PlanePoint, Edge, IsOn}
use Rattle.overlay_geom.proofs.Identities.{solve, ◌⊕◌, ◌⊗◌, ◌⊖◌, ◌≗◌}
use Rattle.overlay_geom.proofs.MeansOfEnds.{MeanOfEnds, mean_of_ends}
use Rattle.overlay_geom.proofs.PointOrder.{IsBefore}
use Rattle.overlay_geom.proofs.Signs.{linear, mul-pos}
use Rattle.overlay_plane.proofs.CrossingPoints.{point_along, part_on}
use Rattle.overlay_plane.proofs.PlaceOrder.{on_same_place}
use Rattle.overlay_exact.specs.Parts.{Fraction, IsPart, LiesAt}

-- a coordinate that is the mean of two lies the second weight's part of the way between them
part_of_mean : (a b k m n d x : ℤ) → k +ℤ m ≡ n *ℤ d → n *ℤ x ≡ k *ℤ a +ℤ m *ℤ b →
    x *ℤ (k +ℤ m) ≡ (a *ℤ (k +ℤ m) +ℤ (b -ℤ a) *ℤ m) *ℤ d
part_of_mean a b k m n d x sum mean =
    ap (λ z. x *ℤ z) sum
    ∙ solve 3 (λ n d x. x ⊗ (n ⊗ d) ≗ (n ⊗ x) ⊗ d) tt n d x
    ∙ ap (λ z. z *ℤ d) mean
    ∙ solve 5 (λ a b k m d. (k ⊗ a ⊕ m ⊗ b) ⊗ d ≗ (a ⊗ (k ⊕ m) ⊕ (b ⊖ a) ⊗ m) ⊗ d) tt a b k m d

module _ (e : Edge) (before : IsBefore e.a e.b) (p : PlanePoint) where
  -- a point of the edge lies at the part of the weight of its larger end
  pub part_of_on : IsOn e p → (s : Fraction) × IsPart s × LiesAt e s p
  part_of_on on =
      let mean : MeanOfEnds e p = mean_of_ends e p before on in
      let sum = mean.sum in
      let positive = mul-pos mean.both p.d mean.some p.positive in
      let first = mean.a_nonneg in
      let second = mean.b_nonneg in (
        record { n = mean.of_b; d = mean.of_a +ℤ mean.of_b },
        record { begun = second; within = omega linear; positive = omega linear },
        record {
          x = part_of_mean e.a.x e.b.x mean.of_a mean.of_b mean.both p.d p.x mean.sum mean.mean_x;
          y = part_of_mean e.a.y e.b.y mean.of_a mean.of_b mean.both p.d p.y mean.sum mean.mean_y;
        },
      )

  -- the point at a part is on the edge
  pub on_of_part : (s : Fraction) → IsPart s → LiesAt e s p → IsOn e p
  on_of_part s part lies = on_same_place e before (point_along e s.n s.d part.positive) p (sym lies.x, sym lies.y)
      (part_on e s.n s.d part.positive part.begun part.within)
