-- The scaled edges lie round the point n times as far as the edges lie round a point.
use Rattle.std.proofs.Common.{◌≡◌, inl, inr, cond, ◌&&◌, ℤ, pos, ◌+ℤ◌, ◌-ℤ◌, ◌*ℤ◌, ◌<ℤ◌, List, [], ◌∷◌}
use Rattle.std.proofs.Common.{refl, sym, ap₂, ◌∙◌}
use Rattle.std.proofs.lemmas.List.Elements.{All-contains, All-map}
use Rattle.overlay_geom.specs.Counts.{Counts}
use Rattle.overlay_geom.specs.Edges.{CountedEdge, ends_of, all_ends, winding_by}
use Rattle.overlay_geom.specs.Plane.{PlanePoint, IsOn, IsOff, IsBetween, side, is_strictly_below}
use Rattle.overlay_geom.proofs.AlongEdge.{sideE}
use Rattle.overlay_geom.proofs.Identities.{solve, number, ◌⊗◌, ◌⊖◌, ◌≗◌}
use Rattle.overlay_geom.proofs.Signs.{mul-pos}
use Rattle.overlay_plane.proofs.Entries.{Contains-map, all_of_entries}
use Rattle.overlay_scaled.specs.Scaled.{scaled_edge, scaled, IsTimes}
use Rattle.overlay_scaled.specs.ScaledPoints.{LiesAlike, ScalingKeepsPoints}
use Rattle.overlay_scaled.proofs.Factors.{le_alike, same_le, same_lt, zero_alike}

module _ (n : ℤ) (some : pos 0 <ℤ n) (p q : PlanePoint) (at : IsTimes n p q) where
  -- ---- coordinates and sides, over both denominators

  -- the factor of coordinates, and that of sides
  abbrev wide : ℤ
  wide = n *ℤ q.d

  abbrev square : ℤ
  square = n *ℤ (n *ℤ q.d)

  wide_pos : pos 0 <ℤ wide
  wide_pos = mul-pos n q.d some q.positive

  square_pos : pos 0 <ℤ square
  square_pos = mul-pos n (n *ℤ q.d) some wide_pos

  of_end : (z : ℤ) → p.d *ℤ ((n *ℤ z) *ℤ q.d) ≡ wide *ℤ (z *ℤ p.d)
  of_end z = solve 4 (λ n z d c. d ⊗ ((n ⊗ z) ⊗ c) ≗ (n ⊗ c) ⊗ (z ⊗ d)) tt n z p.d q.d

  of_x : p.d *ℤ q.x ≡ wide *ℤ p.x
  of_x = solve 2 (λ x d. d ⊗ x ≗ x ⊗ d) tt q.x p.d ∙ at.0
      ∙ solve 3 (λ n x c. n ⊗ (x ⊗ c) ≗ (n ⊗ c) ⊗ x) tt n p.x q.d

  of_y : p.d *ℤ q.y ≡ wide *ℤ p.y
  of_y = solve 2 (λ y d. d ⊗ y ≗ y ⊗ d) tt q.y p.d ∙ at.1
      ∙ solve 3 (λ n y c. n ⊗ (y ⊗ c) ≗ (n ⊗ c) ⊗ y) tt n p.y q.d

  of_side : (e : CountedEdge) → p.d *ℤ side (ends_of (scaled_edge n e)) q ≡ square *ℤ side (ends_of e) p
  of_side e =
      solve 9 (λ ax ay bx by x y d c n.
      d ⊗ sideE (n ⊗ ax) (n ⊗ ay) (n ⊗ bx) (n ⊗ by) x y c ≗
      (n ⊗ (bx ⊖ ax)) ⊗ (y ⊗ d ⊖ (n ⊗ ay) ⊗ (c ⊗ d)) ⊖ (n ⊗ (by ⊖ ay)) ⊗ (x ⊗ d ⊖ (n ⊗ ax) ⊗ (c ⊗ d))) tt
      e.a.x e.a.y e.b.x e.b.y q.x q.y p.d q.d n
      ∙ ap₂ (λ u v. (n *ℤ (e.b.x -ℤ e.a.x)) *ℤ (v -ℤ (n *ℤ e.a.y) *ℤ (q.d *ℤ p.d))
      -ℤ (n *ℤ (e.b.y -ℤ e.a.y)) *ℤ (u -ℤ (n *ℤ e.a.x) *ℤ (q.d *ℤ p.d))) at.0 at.1
      ∙ solve 9 (λ ax ay bx by x y d c n.
      (n ⊗ (bx ⊖ ax)) ⊗ (n ⊗ (y ⊗ c) ⊖ (n ⊗ ay) ⊗ (c ⊗ d)) ⊖ (n ⊗ (by ⊖ ay)) ⊗ (n ⊗ (x ⊗ c) ⊖ (n ⊗ ax) ⊗ (c ⊗ d)) ≗
      (n ⊗ (n ⊗ c)) ⊗ sideE ax ay bx by x y d) tt
      e.a.x e.a.y e.b.x e.b.y p.x p.y p.d q.d n

  none : p.d *ℤ pos 0 ≡ square *ℤ pos 0
  none = solve 2 (λ d s. d ⊗ number (pos 0) ≗ s ⊗ number (pos 0)) tt p.d square

  -- ---- on an edge

  between : (z w : ℤ) → p.d *ℤ w ≡ wide *ℤ z → (u v : ℤ) →
      IsBetween z (u *ℤ p.d) (v *ℤ p.d) → IsBetween w ((n *ℤ u) *ℤ q.d) ((n *ℤ v) *ℤ q.d)
  between z w is u v (inl (low, high)) = inl (
    le_alike wide p.d wide_pos p.positive (u *ℤ p.d) z ((n *ℤ u) *ℤ q.d) w (sym (of_end u)) (sym is) low,
    le_alike wide p.d wide_pos p.positive z (v *ℤ p.d) w ((n *ℤ v) *ℤ q.d) (sym is) (sym (of_end v)) high,
  )
  between z w is u v (inr (low, high)) = inr (
    le_alike wide p.d wide_pos p.positive (v *ℤ p.d) z ((n *ℤ v) *ℤ q.d) w (sym (of_end v)) (sym is) low,
    le_alike wide p.d wide_pos p.positive z (u *ℤ p.d) w ((n *ℤ u) *ℤ q.d) (sym is) (sym (of_end u)) high,
  )

  between_back : (z w : ℤ) → p.d *ℤ w ≡ wide *ℤ z → (u v : ℤ) →
      IsBetween w ((n *ℤ u) *ℤ q.d) ((n *ℤ v) *ℤ q.d) → IsBetween z (u *ℤ p.d) (v *ℤ p.d)
  between_back z w is u v (inl (low, high)) = inl (
    le_alike p.d wide p.positive wide_pos ((n *ℤ u) *ℤ q.d) w (u *ℤ p.d) z (of_end u) is low,
    le_alike p.d wide p.positive wide_pos w ((n *ℤ v) *ℤ q.d) z (v *ℤ p.d) is (of_end v) high,
  )
  between_back z w is u v (inr (low, high)) = inr (
    le_alike p.d wide p.positive wide_pos ((n *ℤ v) *ℤ q.d) w (v *ℤ p.d) z (of_end v) is low,
    le_alike p.d wide p.positive wide_pos w ((n *ℤ u) *ℤ q.d) z (u *ℤ p.d) is (of_end u) high,
  )

  on_forth : (e : CountedEdge) → IsOn (ends_of e) p → IsOn (ends_of (scaled_edge n e)) q
  on_forth e on = record {
    on_line = zero_alike square p.d (side (ends_of e) p) (side (ends_of (scaled_edge n e)) q) p.positive
        (sym (of_side e)) on.on_line;
    in_x = between p.x q.x of_x e.a.x e.b.x on.in_x;
    in_y = between p.y q.y of_y e.a.y e.b.y on.in_y;
  }

  on_back : (e : CountedEdge) → IsOn (ends_of (scaled_edge n e)) q → IsOn (ends_of e) p
  on_back e on = record {
    on_line = zero_alike p.d square (side (ends_of (scaled_edge n e)) q) (side (ends_of e) p) square_pos
        (of_side e) on.on_line;
    in_x = between_back p.x q.x of_x e.a.x e.b.x on.in_x;
    in_y = between_back p.y q.y of_y e.a.y e.b.y on.in_y;
  }

  -- ---- below a point

  below : (e : CountedEdge) → is_strictly_below (ends_of (scaled_edge n e)) q ≡ is_strictly_below (ends_of e) p
  below e = ap₂ (λ s t. s && t)
      (ap₂ (λ s t. s && t)
      (same_le p.d wide p.positive wide_pos ((n *ℤ e.a.x) *ℤ q.d) q.x (e.a.x *ℤ p.d) p.x (of_end e.a.x) of_x)
      (same_lt p.d wide p.positive wide_pos q.x ((n *ℤ e.b.x) *ℤ q.d) p.x (e.b.x *ℤ p.d) of_x (of_end e.b.x)))
      (same_lt p.d square p.positive square_pos (pos 0) (side (ends_of (scaled_edge n e)) q) (pos 0)
      (side (ends_of e) p) none (of_side e))

  winding : (count : Counts → ℤ) (es : List CountedEdge) →
      winding_by (λ e. count e.counts) (scaled n es) q ≡ winding_by (λ e. count e.counts) es p
  winding count [] = refl
  winding count (e ∷ es) = ap₂ (λ s z. cond s (count e.counts) (pos 0) +ℤ z) (below e) (winding count es)

  -- ---- off all edges

  off_forth : (es : List CountedEdge) → IsOff (all_ends es) p → IsOff (all_ends (scaled n es)) q
  off_forth es off = All-map (λ f. ¬ (IsOn f q)) ends_of (scaled n es)
      (All-map (λ f. ¬ (IsOn (ends_of f) q)) (scaled_edge n) es
      (all_of_entries (λ e. ¬ (IsOn (ends_of (scaled_edge n e)) q)) es
      (λ e c on. All-contains (λ f. ¬ (IsOn f p)) (all_ends es) (ends_of e) off (Contains-map ends_of es e c)
      (on_back e on))))

  off_back : (es : List CountedEdge) → IsOff (all_ends (scaled n es)) q → IsOff (all_ends es) p
  off_back es off = All-map (λ f. ¬ (IsOn f p)) ends_of es
      (all_of_entries (λ e. ¬ (IsOn (ends_of e) p)) es
      (λ e c on. All-contains (λ f. ¬ (IsOn f q)) (all_ends (scaled n es)) (ends_of (scaled_edge n e)) off
      (Contains-map ends_of (scaled n es) (scaled_edge n e) (Contains-map (scaled_edge n) es e c)) (on_forth e on)))

  pub lies_alike : LiesAlike n p q
  lies_alike = record {
    on = λ e. (on_forth e, on_back e);
    below = below;
    off = λ es. (off_forth es, off_back es);
    winding = winding;
  }

-- ---- the points n times as far, and n times nearer

-- the point n times as far
abbrev pub further : ℤ → PlanePoint → PlanePoint
further n p = record { x = n *ℤ p.x; y = n *ℤ p.y; d = p.d; positive = p.positive }

pub is_further : (n : ℤ) (p : PlanePoint) → IsTimes n p (further n p)
is_further n p = (
  solve 3 (λ n x d. (n ⊗ x) ⊗ d ≗ n ⊗ (x ⊗ d)) tt n p.x p.d,
  solve 3 (λ n y d. (n ⊗ y) ⊗ d ≗ n ⊗ (y ⊗ d)) tt n p.y p.d,
)

-- the point n times nearer
abbrev pub nearer : (n : ℤ) → pos 0 <ℤ n → PlanePoint → PlanePoint
nearer n some q = record { x = q.x; y = q.y; d = n *ℤ q.d; positive = mul-pos n q.d some q.positive }

pub is_nearer : (n : ℤ) (some : pos 0 <ℤ n) (q : PlanePoint) → IsTimes n (nearer n some q) q
is_nearer n some q = (
  solve 3 (λ n x d. x ⊗ (n ⊗ d) ≗ n ⊗ (x ⊗ d)) tt n q.x q.d,
  solve 3 (λ n y d. y ⊗ (n ⊗ d) ≗ n ⊗ (y ⊗ d)) tt n q.y q.d,
)

pub scaling_keeps_points : ScalingKeepsPoints
scaling_keeps_points = record {
  alike = lies_alike;
  further = λ n p. (further n p, is_further n p);
  nearer = λ n some q. (nearer n some q, is_nearer n some q);
}
