-- Mixtures of two points of the plane by weights: they lie on an edge with the two, and as near to numbers mixed alike.
use Rattle.std.proofs.Common.{◌≡◌, inl, ℕ, ◌+◌, ℤ, pos, ◌+ℤ◌, ◌-ℤ◌, ◌*ℤ◌, ◌<ℤ◌, ◌≤ℤ◌, sym, ap, ◌∙◌}
use Rattle.std.proofs.lemmas.Int.{by_lt_z}
use Rattle.overlay_geom.specs.Plane.{PlanePoint, Edge, IsBetween, IsOn, side}
use Rattle.overlay_geom.proofs.AlongEdge.{over_le, in_order_between, between_turned}
use Rattle.overlay_geom.proofs.Identities.{solve, number, ◌⊕◌, ◌⊗◌, ◌⊖◌, ◌≗◌}
use Rattle.overlay_geom.proofs.Signs.{linear, mul-le, mul-zero}
use Rattle.overlay_plane.proofs.LineForms.{line_form_linear}

-- y is at most k d away from 2 z
abbrev pub IsInReach : ℕ → ℤ → ℤ → ℤ → Type 0
IsInReach k y z d = ((pos 2 *ℤ z -ℤ pos k *ℤ d) ≤ℤ y) × (y ≤ℤ (pos 2 *ℤ z +ℤ pos k *ℤ d))

-- numbers mixed alike stay in reach
pub reach_mixed : (k : ℕ) (s t ya xa da yb xb db : ℤ) → pos 0 ≤ℤ s → pos 0 ≤ℤ t → IsInReach k ya xa da →
    IsInReach k yb xb db →
    IsInReach k (s *ℤ ya +ℤ t *ℤ yb) (s *ℤ xa +ℤ t *ℤ xb) (s *ℤ da +ℤ t *ℤ db)
reach_mixed k s t ya xa da yb xb db s_nonneg t_nonneg at_a at_b =
    let low_a = mul-le s (pos 2 *ℤ xa -ℤ pos k *ℤ da) ya s_nonneg at_a.0 in
    let low_b = mul-le t (pos 2 *ℤ xb -ℤ pos k *ℤ db) yb t_nonneg at_b.0 in
    let high_a = mul-le s ya (pos 2 *ℤ xa +ℤ pos k *ℤ da) s_nonneg at_a.1 in
    let high_b = mul-le t yb (pos 2 *ℤ xb +ℤ pos k *ℤ db) t_nonneg at_b.1 in
    let low = solve 7
    (λ k s t xa da xb db. s ⊗ (number (pos 2) ⊗ xa ⊖ k ⊗ da) ⊕ t ⊗ (number (pos 2) ⊗ xb ⊖ k ⊗ db) ≗ number (pos 2) ⊗
    (s ⊗ xa ⊕ t ⊗ xb) ⊖ k ⊗ (s ⊗ da ⊕ t ⊗ db))
    tt (pos k) s t xa da xb db in
    let high = solve 7
    (λ k s t xa da xb db. s ⊗ (number (pos 2) ⊗ xa ⊕ k ⊗ da) ⊕ t ⊗ (number (pos 2) ⊗ xb ⊕ k ⊗ db) ≗ number (pos 2) ⊗
    (s ⊗ xa ⊕ t ⊗ xb) ⊕ k ⊗ (s ⊗ da ⊕ t ⊗ db))
    tt (pos k) s t xa da xb db in
    (omega linear, omega linear)

-- a number m halves away from a number that is k halves away is m + k halves away
pub reach_further : (k m : ℕ) (g w x c z d : ℤ) → pos 0 ≤ℤ g → d ≡ g *ℤ c → IsInReach k (g *ℤ (pos 2 *ℤ x)) z d →
    IsInReach m (pos 2 *ℤ w *ℤ c) x c →
    IsInReach (m + k) (pos 2 *ℤ w *ℤ d) z d
reach_further k m g w x c z d g_nonneg is far near =
    let low = mul-le g (pos 2 *ℤ x -ℤ pos m *ℤ c) (pos 2 *ℤ w *ℤ c) g_nonneg near.0 in
    let high = mul-le g (pos 2 *ℤ w *ℤ c) (pos 2 *ℤ x +ℤ pos m *ℤ c) g_nonneg near.1 in
    let far_low = far.0 in
    let far_high = far.1 in
    let less = solve 4 (λ m g x c. g ⊗ (number (pos 2) ⊗ x ⊖ m ⊗ c) ≗ g ⊗ (number (pos 2) ⊗ x) ⊖ m ⊗ (g ⊗ c)) tt
    (pos m) g x c in
    let more = solve 4 (λ m g x c. g ⊗ (number (pos 2) ⊗ x ⊕ m ⊗ c) ≗ g ⊗ (number (pos 2) ⊗ x) ⊕ m ⊗ (g ⊗ c)) tt
    (pos m) g x c in
    let at = solve 3 (λ g w c. g ⊗ (number (pos 2) ⊗ w ⊗ c) ≗ number (pos 2) ⊗ w ⊗ (g ⊗ c)) tt g w c
    ∙ ap (λ z. pos 2 *ℤ w *ℤ z) (sym is) in
    let same = ap (λ z. pos m *ℤ z) is in
    let both = solve 3 (λ k m d. (m ⊕ k) ⊗ d ≗ m ⊗ d ⊕ k ⊗ d) tt (pos k) (pos m) d in
    (omega linear, omega linear)

-- ---- on an edge

-- a number mixed of two that are no smaller than a bound is no smaller
mixed_from : (s t u xa da xb db : ℤ) → pos 0 ≤ℤ s → pos 0 ≤ℤ t → (u *ℤ da) ≤ℤ xa → (u *ℤ db) ≤ℤ xb →
    (u *ℤ (s *ℤ da +ℤ t *ℤ db)) ≤ℤ (s *ℤ xa +ℤ t *ℤ xb)
mixed_from s t u xa da xb db s_nonneg t_nonneg at_a at_b =
    let a = mul-le s (u *ℤ da) xa s_nonneg at_a in
    let b = mul-le t (u *ℤ db) xb t_nonneg at_b in
    let identity = solve 5 (λ s t u da db. u ⊗ (s ⊗ da ⊕ t ⊗ db) ≗ s ⊗ (u ⊗ da) ⊕ t ⊗ (u ⊗ db)) tt s t u da db in
    omega linear

-- nor larger where the two are no larger
mixed_to : (s t v xa da xb db : ℤ) → pos 0 ≤ℤ s → pos 0 ≤ℤ t → xa ≤ℤ (v *ℤ da) → xb ≤ℤ (v *ℤ db) →
    (s *ℤ xa +ℤ t *ℤ xb) ≤ℤ (v *ℤ (s *ℤ da +ℤ t *ℤ db))
mixed_to s t v xa da xb db s_nonneg t_nonneg at_a at_b =
    let a = mul-le s xa (v *ℤ da) s_nonneg at_a in
    let b = mul-le t xb (v *ℤ db) t_nonneg at_b in
    let identity = solve 5 (λ s t v da db. v ⊗ (s ⊗ da ⊕ t ⊗ db) ≗ s ⊗ (v ⊗ da) ⊕ t ⊗ (v ⊗ db)) tt s t v da db in
    omega linear

-- the mixture of two numbers between bounds in order is between them
mixed_in_order : (s t u v xa da xb db : ℤ) → pos 0 ≤ℤ s → pos 0 ≤ℤ t → pos 0 <ℤ da → pos 0 <ℤ db → u ≤ℤ v →
    IsBetween xa (u *ℤ da) (v *ℤ da) → IsBetween xb (u *ℤ db) (v *ℤ db) →
    IsBetween (s *ℤ xa +ℤ t *ℤ xb) (u *ℤ (s *ℤ da +ℤ t *ℤ db)) (v *ℤ (s *ℤ da +ℤ t *ℤ db))
mixed_in_order s t u v xa da xb db s_nonneg t_nonneg a_pos b_pos h at_a at_b =
    let a = in_order_between xa (u *ℤ da) (v *ℤ da) (over_le u v da a_pos h) at_a in
    let b = in_order_between xb (u *ℤ db) (v *ℤ db) (over_le u v db b_pos h) at_b in
    inl (mixed_from s t u xa da xb db s_nonneg t_nonneg a.0 b.0, mixed_to s t v xa da xb db s_nonneg t_nonneg a.1 b.1)

-- whatever order they are in
mixed_between : (s t u v xa da xb db : ℤ) → pos 0 ≤ℤ s → pos 0 ≤ℤ t → pos 0 <ℤ da → pos 0 <ℤ db →
    IsBetween xa (u *ℤ da) (v *ℤ da) → IsBetween xb (u *ℤ db) (v *ℤ db) →
    IsBetween (s *ℤ xa +ℤ t *ℤ xb) (u *ℤ (s *ℤ da +ℤ t *ℤ db)) (v *ℤ (s *ℤ da +ℤ t *ℤ db))
mixed_between s t u v xa da xb db s_nonneg t_nonneg a_pos b_pos at_a at_b = by_lt_z v u
    (λ lt. between_turned _ (v *ℤ (s *ℤ da +ℤ t *ℤ db)) (u *ℤ (s *ℤ da +ℤ t *ℤ db))
    (mixed_in_order s t v u xa da xb db s_nonneg t_nonneg a_pos b_pos (omega linear)
    (between_turned xa (u *ℤ da) (v *ℤ da) at_a) (between_turned xb (u *ℤ db) (v *ℤ db) at_b)))
    (λ le. mixed_in_order s t u v xa da xb db s_nonneg t_nonneg a_pos b_pos le at_a at_b)

-- the mixture of two points of the plane
abbrev pub mixture : (s t : ℤ) (p q : PlanePoint) → pos 0 <ℤ (s *ℤ p.d +ℤ t *ℤ q.d) → PlanePoint
mixture s t p q some = record {
  x = s *ℤ p.x +ℤ t *ℤ q.x;
  y = s *ℤ p.y +ℤ t *ℤ q.y;
  d = s *ℤ p.d +ℤ t *ℤ q.d;
  positive = some;
}

-- lies on an edge with them
pub mixture_on : (e : Edge) (s t : ℤ) (p q : PlanePoint) (some : pos 0 <ℤ (s *ℤ p.d +ℤ t *ℤ q.d)) → pos 0 ≤ℤ s →
    pos 0 ≤ℤ t → IsOn e p → IsOn e q →
    IsOn e (mixture s t p q some)
mixture_on e s t p q some s_nonneg t_nonneg on_p on_q = record {
  on_line =
      let linear_form = line_form_linear e s p.x p.y p.d t q.x q.y q.d in
      let at_p = mul-zero s (side e p) on_p.on_line in
      let at_q = mul-zero t (side e q) on_q.on_line in
      omega linear;
  in_x = mixed_between s t e.a.x e.b.x p.x p.d q.x q.d s_nonneg t_nonneg p.positive q.positive on_p.in_x on_q.in_x;
  in_y = mixed_between s t e.a.y e.b.y p.y p.d q.y q.d s_nonneg t_nonneg p.positive q.positive on_p.in_y on_q.in_y;
}
