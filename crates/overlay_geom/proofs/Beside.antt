-- An edge strictly on one side of another edge's line does not meet that edge. A point of an edge is a weighted mean of
-- its ends, and so is its side.
use Rattle.std.proofs.Common.{◌≡◌, inl, inr, ℤ, pos, ◌+ℤ◌, ◌*ℤ◌, neg_ℤ, ◌<ℤ◌, ◌≤ℤ◌, sym, ◌∙◌}
use Rattle.std.proofs.lemmas.Int.{by_lt_z}
use Rattle.overlay_geom.specs.Plane.{Edge, side, cross_at}
use Rattle.overlay_geom.specs.Settled.{MeetInEnds}
use Rattle.overlay_geom.specs.Placed.{IsBeside}
use Rattle.overlay_geom.proofs.Products.{mul-neg_ℤ}
use Rattle.overlay_geom.proofs.Signs.{linear, mul-pos, mul-nonneg, mul-zero}
use Rattle.overlay_geom.proofs.PointOrder.{IsBefore}
use Rattle.overlay_geom.proofs.MeansOfEnds.{MeanOfEnds, mean_of_ends, side_of_mean}

-- ---- one edge strictly on one side of the other

-- a weighted sum of two positive numbers is positive
weighted_sum : (k m s t : ℤ) → pos 0 ≤ℤ k → pos 0 ≤ℤ m → pos 0 <ℤ (k +ℤ m) → pos 0 <ℤ s → pos 0 <ℤ t →
    pos 0 <ℤ (k *ℤ s +ℤ m *ℤ t)
weighted_sum k m s t k_nonneg m_nonneg some s_pos t_pos =
    by_lt_z (pos 0) k
    (λ k_pos. let first = mul-pos k s k_pos s_pos in let second = mul-nonneg m t m_nonneg (omega linear) in
    omega linear)
    (λ none. let first = mul-nonneg k s k_nonneg (omega linear) in let second = mul-pos m t (omega linear) t_pos in
    omega linear)

-- an edge strictly on one side of another edge does not meet it
pub beside_meet_in_ends : (e f : Edge) → IsBefore f.a f.b → IsBeside e f → MeetInEnds e f
beside_meet_in_ends e f forward beside p (on_e, on_f) = absurd (against beside)
  where
    w : MeanOfEnds f p
    w = mean_of_ends f p forward on_f

    some : pos 0 <ℤ (w.of_a +ℤ w.of_b)
    some = let size = mul-pos w.both p.d w.some p.positive in let sum = w.sum in omega linear

    zero : w.of_a *ℤ cross_at e.a e.b f.a +ℤ w.of_b *ℤ cross_at e.a e.b f.b ≡ pos 0
    zero = sym (side_of_mean e f p w) ∙ mul-zero w.both (side e p) on_e.on_line

    against : IsBeside e f → ⊥
    against (inl (left_a, left_b)) =
        let sum = weighted_sum w.of_a w.of_b (cross_at e.a e.b f.a) (cross_at e.a e.b f.b) w.a_nonneg w.b_nonneg some
        left_a left_b in
        let none = zero in
        omega linear
    against (inr (right_a, right_b)) =
        let sum = weighted_sum w.of_a w.of_b (neg_ℤ (cross_at e.a e.b f.a)) (neg_ℤ (cross_at e.a e.b f.b)) w.a_nonneg
        w.b_nonneg some (omega linear) (omega linear) in
        let of_a = mul-neg_ℤ w.of_a (cross_at e.a e.b f.a) in
        let of_b = mul-neg_ℤ w.of_b (cross_at e.a e.b f.b) in
        let none = zero in
        omega linear
