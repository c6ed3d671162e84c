-- Scaled lists lead forward and are balanced where the lists are.
use Rattle.std.proofs.Common.{◌≡◌, true, ◌&&◌, ◌||◌, ℤ, pos, ◌-ℤ◌, ◌*ℤ◌, ◌<ℤ◌, int_lt, List, ap, ap₂, ◌∙◌}
use Rattle.std.specs.Ordering.{int_eq}
use Rattle.std.proofs.lemmas.Bool.Decides.{Decides-int_eq}
use Rattle.std.proofs.lemmas.List.Elements.{All-contains, All-map}
use Rattle.overlay_geom.specs.Edges.{CountedEdge, ends_of, subj_of, clip_of}
use Rattle.overlay_geom.specs.Plane.{Point, point_lt, point_eq}
use Rattle.overlay_geom.proofs.Identities.{solve, number, ◌⊗◌, ◌≗◌}
use Rattle.overlay_geom.proofs.Signs.{eq_of_mul-eq}
use Rattle.overlay_plane.specs.Balance.{HasBalancedCounts}
use Rattle.overlay_plane.specs.EdgeLists.{IsForwardBy}
use Rattle.overlay_plane.proofs.Entries.{all_of_entries}
use Rattle.overlay_plane.proofs.JoinedLists.{total-map}
use Rattle.overlay_plane.proofs.Tests.{same_tests}
use Rattle.overlay_scaled.specs.Scaled.{scaled_point, scaled_edge, scaled}
use Rattle.overlay_scaled.proofs.Factors.{same_lt}

module _ (n : ℤ) (some : pos 0 <ℤ n) where
  once : (z : ℤ) → pos 1 *ℤ (n *ℤ z) ≡ n *ℤ z
  once z = solve 2 (λ n z. number (pos 1) ⊗ (n ⊗ z) ≗ n ⊗ z) tt n z

  same_int_lt : (u v : ℤ) → int_lt (n *ℤ u) (n *ℤ v) ≡ int_lt u v
  same_int_lt u v = same_lt (pos 1) n (record { lt = tt }) some (n *ℤ u) (n *ℤ v) u v (once u) (once v)

  same_int_eq : (u v : ℤ) → int_eq (n *ℤ u) (n *ℤ v) ≡ int_eq u v
  same_int_eq u v = same_tests (int_eq (n *ℤ u) (n *ℤ v)) (int_eq u v)
      (λ t. (Decides-int_eq u v).1 (eq_of_mul-eq n u v some ((Decides-int_eq (n *ℤ u) (n *ℤ v)).0 t)))
      (λ t. (Decides-int_eq (n *ℤ u) (n *ℤ v)).1 (ap (λ z. n *ℤ z) ((Decides-int_eq u v).0 t)))

  -- scaled points are in the order of the points
  pub same_point_lt : (v w : Point) → point_lt (scaled_point n v) (scaled_point n w) ≡ point_lt v w
  same_point_lt v w = ap₂ (λ s t. s || t) (same_int_lt v.x w.x)
      (ap₂ (λ s t. s && t) (same_int_eq v.x w.x) (same_int_lt v.y w.y))

  -- and equal where they are
  pub same_point_eq : (v w : Point) → point_eq (scaled_point n v) (scaled_point n w) ≡ point_eq v w
  same_point_eq v w = ap₂ (λ s t. s && t) (same_int_eq v.x w.x) (same_int_eq v.y w.y)

  -- scaled edges lead forward
  pub scaled_forward : (es : List CountedEdge) → IsForwardBy ends_of es → IsForwardBy ends_of (scaled n es)
  scaled_forward es forward = All-map (λ e. point_lt e.a e.b ≡ true) (scaled_edge n) es
      (all_of_entries (λ e. point_lt (scaled_point n e.a) (scaled_point n e.b) ≡ true) es
      (λ e c. same_point_lt e.a e.b ∙ All-contains (λ f. point_lt f.a f.b ≡ true) es e forward c))

-- scaled edges have balanced counts
pub scaled_balanced : (n : ℤ) (es : List CountedEdge) → HasBalancedCounts es → HasBalancedCounts (scaled n es)
scaled_balanced n es balanced = record {
  subj = λ g. total-map (λ e. subj_of e *ℤ (g e.b -ℤ g e.a)) (scaled_edge n) es
      ∙ balanced.subj (λ v. g (scaled_point n v));
  clip = λ g. total-map (λ e. clip_of e *ℤ (g e.b -ℤ g e.a)) (scaled_edge n) es
      ∙ balanced.clip (λ v. g (scaled_point n v));
}
